-- `opened_by` meets its contract: a part that is no block opens nothing, and a block is tested under its own number. Assumes
-- nothing.
use mathlib.Core.Path.{◌∙◌}
use Rattle.starts.proofs.Halves.{opens-short, opens-tested, opens-found}
use Rattle.starts.proofs.opened_by.Goals as goal

pub returns-then-area-to : goal.returns-then-area-to
returns-then-area-to c = opens-short c.args.area.now c.args.at c.if-area-to.true

pub returns-then-not-is_sound_but_number : goal.returns-then-not-is_sound_but_number
returns-then-not-is_sound_but_number c =
    opens-tested c.args.area.now c.args.at _ c.half_blocks.ensures _ c.is_sound_but_number.ensures ∙ c.if-not-is_sound_but_number.true

pub returns : goal.returns
returns c =
    opens-found c.args.area.now c.args.at _ c.half_blocks.ensures _ c.is_sound_but_number.ensures c.if-not-is_sound_but_number.false
    _ c.read_header-header.ensures
