-- `count_of` meets its contract: an offset with a lease has no carried count. Assumes nothing.
use mathlib.Core.Path.{sym, ap, ◌∙◌}
use Rattle.lease.specs.Rest.{deliveries_of}
use Rattle.lease.specs.Lookup.{lease_in}
use Rattle.consumer.proofs.Counts.{lease-count}
use Rattle.consumer.proofs.Asked.{unleased-count}
use Rattle.consumer_words.specs.Layout.{view}
use Rattle.consumer_words.proofs.reads.count_of.Goals as goal

pub returns-in-Some : goal.returns-in-Some
returns-in-Some c = sym (lease-count (view c.args.words.now) c.requires.state.valid c.args.offset.0 c.in-Some.lease (sym c.in-Some.ensures))

pub returns : goal.returns
returns c =
    c.carried_count.ensures
    ∙ unleased-count (view c.args.words.now) c.requires.state.valid c.args.offset.0 (ap deliveries_of (sym c.lease_of.ensures ∙ ap lease_in c.in_default.is))
