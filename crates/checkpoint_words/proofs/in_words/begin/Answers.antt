-- `begin` meets its contract: the worker's rows, then what a begin does that is permitted. Assumes nothing.
use mathlib.Core.Path.{sym, ◌∙◌}
use Rattle.cursor.proofs.Refusals.{err_is}
use Rattle.types.proofs.Table.{first_none}
use Rattle.consumer.specs.Rights.{checkpointing}
use Rattle.consumer.specs.Calls.{call_rows}
use Rattle.consumer_words.specs.Layout.{consumer_in, view}
use Rattle.checkpoint_words.proofs.Begins.{rows-within, unpermitted_words, refused_words, begun_words}
use Rattle.checkpoint_words.proofs.in_words.begin.Goals as goal

pub returns-in_err-permission_of : goal.returns-in_err-permission_of
returns-in_err-permission_of c =
    let h = c.in_err-permission_of in
    rw (err_is c.from_residual.result h.field-0.0 c.from_residual.ensures.1)
    (unpermitted_words c.requires.0 c.args.worker c.args.payload.now h.field-0.0 (h.ensures ∙ rows-within c.requires.0 c.args.worker))

pub returns-in_err-begun : goal.returns-in_err-begun
returns-in_err-begun c =
    let h = c.in_err-begun in
    let may = first_none (call_rows (view c.args.words.now) c.args.worker checkpointing) (sym (c.in_ok-permission_of.ensures ∙ rows-within c.requires.0 c.args.worker)) in
    rw (err_is c.from_residual-in_err-begun.result h.field-0.0 c.from_residual-in_err-begun.ensures.1)
    (refused_words c.requires.0 c.args.worker c.args.payload.now may _ h.field-0.0 (h.ensures (consumer_in c.args.words.now)))

pub returns : goal.returns
returns c =
    let may = first_none (call_rows (view c.args.words.now) c.args.worker checkpointing) (sym (c.in_ok-permission_of.ensures ∙ rows-within c.requires.0 c.args.worker)) in
    begun_words c.requires.0 c.args.worker c.args.payload.now may _ c.in_ok-begun.begun (c.in_ok-begun.ensures (consumer_in c.args.words.now))
