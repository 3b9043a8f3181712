-- `resumed_table` meets its contract: each part of the table is the definition's as it stands, and its slots are all free. Assumes nothing.
use mathlib.Core.Path.{refl}
use Rattle.starts.proofs.resumed_table.Goals as goal

pub returns : goal.returns
returns c = (refl, c.all_slots.ensures)
