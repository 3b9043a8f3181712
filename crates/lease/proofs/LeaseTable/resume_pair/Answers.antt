-- `LeaseTable::resume_pair` meets its contract. Assumes nothing.
use mathlib.Core.Path.{ap, ◌∙◌, subst}
use mathlib.Core.List.{[], ◌∷◌}
use borrow.Author.Rules.{rules}
use Rattle.types.specs.Lists.{entry_of}
use Rattle.lease.specs.State.{view}
use Rattle.lease.specs.Answers.{resume_of, Answers}
use Rattle.tables.specs.Carried.{carry_on}
use Rattle.lease.specs.Helpers.{resumed_with}
use Rattle.lease.proofs.Carried.{resumed-all}
use Rattle.lease.proofs.LeaseTable.resume_pair.Goals as goal

pub returns : goal.returns
returns c =
    let pair = c.args.pair in
    let t = view c.args.self in
    let is = c.carry_pair-carried.ensures.is ∙ ap (carry_on (entry_of pair)) c.carried_so_far.ensures.is in
    let r = c.resumed.result in
    subst (Answers (resume_of r.outcome) c.args.self r.table) (ap (resumed_with t) is ∙ resumed-all t (entry_of pair ∷ []) c.requires.valid) c.resumed.ensures
