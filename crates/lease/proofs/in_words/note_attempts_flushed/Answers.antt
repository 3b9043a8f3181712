-- `note_attempts_flushed` meets its contract. Assumes nothing.
use mathlib.Core.Path.{◌∙◌}
use Rattle.lease.proofs.InWords.{flush_answers}
use Rattle.lease.proofs.in_words.note_attempts_flushed.Goals as goal

pub returns : goal.returns
returns c =
    flush_answers c.requires c.from.result (c.from.ensures ∙ c.after_flush.ensures)
