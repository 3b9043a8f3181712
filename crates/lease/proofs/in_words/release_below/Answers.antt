-- `release_below` meets its contract. Assumes nothing.
use mathlib.Core.Path.{◌∙◌}
use Rattle.lease.proofs.InWords.{release_answers}
use Rattle.lease.proofs.in_words.release_below.Goals as goal

pub returns : goal.returns
returns c =
    release_answers c.requires c.args.up_to.0 c.release_counts.new.table c.release_counts.ensures c.release_leases.new.table c.release_leases.ensures
    (c.table-2-1.given ∙ c.table-1.given ∙ c.requires.long)
