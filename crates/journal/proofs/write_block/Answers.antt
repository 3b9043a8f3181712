-- `journal::write_block` meets its contract: the part that it hands on is the block, and it comes back filled.
-- Assumes nothing.
use mathlib.Core.Path.{◌≡◌, sym, ◌∙◌}
use mathlib.Core.Bool.{false}
use lib.ListN.{length}
use Rattle.journal.specs.Area.{outside}
use Rattle.journal.proofs.Writer.{outside-refused, part_filled}
use Rattle.journal.proofs.write_block.Goals as goal
use Rattle.journal.proofs.write_block.Goals.{Else-outside}

pub returns-then-outside : goal.returns-then-outside
returns-then-outside c = outside-refused _ _ _ (sym c.outside.ensures ∙ c.if-outside.true)

-- the block lies in the area
there : (c : Else-outside) → outside (length c.args.area.now) c.args.at ≡ false
there c = sym c.outside.ensures ∙ c.if-outside.false

pub returns-in-Header : goal.returns-in-Header
returns-in-Header c =
    rw c.in-Header.is
    (part_filled _ _ _ _ _ (there (goal.at.returns-in-Header c).Else-outside) c.write_header.ensures)

pub returns-in-Body : goal.returns-in-Body
returns-in-Body c =
    rw c.in-Body.is
    (part_filled _ _ _ _ _ (there (goal.at.returns-in-Body c).Else-outside) c.write_body.ensures)

pub returns-in-Zeros : goal.returns-in-Zeros
returns-in-Zeros c =
    rw c.in-Zeros.is
    (part_filled _ _ _ _ _ (there (goal.at.returns-in-Zeros c).Else-outside) c.write_zeros.ensures)
