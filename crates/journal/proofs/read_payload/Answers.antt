-- `journal::read_payload` meets its contract: the header tells where the group ends, and the bodies are copied.
-- Assumes nothing.
use Prim.Native.Nat.{◌+◌}
use mathlib.Core.Path.{◌≡◌, sym, ◌∙◌}
use mathlib.Core.Bool.{false}
use lib.ListN.{length}
use Rattle.journal.specs.Area.{outside}
use Rattle.journal.proofs.Reader.{read-nothing, read-outside, read_short, read_done}
use Rattle.journal.proofs.read_payload.Goals as goal
use Rattle.journal.proofs.read_payload.Goals.{Else-outside, Else-outside-2}

pub returns-then-outside : goal.returns-then-outside
returns-then-outside c = read-nothing _ _ _ (sym c.outside.ensures ∙ c.if-outside.true)

pub returns-then-outside-2 : goal.returns-then-outside-2
returns-then-outside-2 c =
    read-outside _ _ _ _ c.read_header-header.ensures _
    c.bodies_for-bodies.ensures
    (sym c.outside-2.ensures ∙ c.if-outside-2.true)

-- the last body lies in the area
there : (c : Else-outside-2)
    → outside (length c.args.area.now) (c.args.at + c.bodies_for-bodies.result) ≡ false
there c = sym c.outside-2.ensures ∙ c.if-outside-2.false

pub returns-then-out-total : goal.returns-then-out-total
returns-then-out-total c =
    read_short _ _ _ _ c.read_header-header.ensures _
    c.bodies_for-bodies.ensures
    (there (goal.at.returns-then-out-total c).Else-outside-2)
    c.if-out-total.true

pub returns : goal.returns
returns c =
    read_done _ _ _ _ c.read_header-header.ensures _
    c.bodies_for-bodies.ensures
    (there (goal.at.returns c).Else-outside-2)
    _
    c.if-out-total.false
    c.copy_payload.ensures
