-- `ack_at` meets its contract. Assumes nothing.
use mathlib.Core.Path.{◌∙◌}
use Rattle.lease.proofs.InWords.{ack-answers}
use Rattle.lease.proofs.in_words.ack_at.Goals as goal

pub returns : goal.returns
returns c o g p =
    ack-answers c.requires.0 o g p c.remove_offset.new.table (c.table-1.given ∙ c.requires.0.long) c.remove_offset.ensures
