-- `begin_permitted` meets its contract: what is lent are the parts of the consumer that the words are. Assumes nothing.
use mathlib.Core.Path.{sym, subst}
use Rattle.consumer_words.specs.Layout.{consumer_in}
use Rattle.checkpoint.specs.Parts.{Lent}
use Rattle.checkpoint_words.proofs.Begins.{lent-table, lent_in, narrow_in, parts_are, PermittedAt}
use Rattle.checkpoint_words.proofs.in_words.begin_permitted.Goals as goal

pub columns_of-requires : goal.columns_of-requires
columns_of-requires c = (lent-table c.requires.0).long

pub begin_permitted-requires-clause-parts : goal.begin_permitted-requires-clause-parts
begin_permitted-requires-clause-parts c =
    let w = c.args.words.now in
    record { consumer = consumer_in w; lent = subst Lent (sym (parts_are w c.columns_of.result c.columns_of.ensures)) (lent_in c.requires.0); payload = c.requires.1 }

pub begin_permitted-requires-clause-narrow : goal.begin_permitted-requires-clause-narrow
begin_permitted-requires-clause-narrow c = narrow_in (lent-table c.requires.0) c.columns_of.result c.columns_of.ensures

pub returns : goal.returns
returns c =
    let w = c.args.words.now in
    λ x.
    subst (PermittedAt c.begin_permitted.result c.args.payload.now c.begin_permitted.new.payload) (parts_are w c.columns_of.result c.columns_of.ensures)
    (c.begin_permitted.ensures (consumer_in w))
