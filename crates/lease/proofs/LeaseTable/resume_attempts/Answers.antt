-- `LeaseTable::resume_attempts` meets its contract. The loop's invariant: what the pairs from place i on still make of the counts
-- that are held is what all of them make of those that were carried.
-- Assumes nothing.
use Prim.Native.Nat.{ℕ}
use mathlib.Core.Path.{◌≡◌, sym, ap, subst, ◌∙◌}
use mathlib.Core.List.{List}
use mathlib.Core.Option.{Option, some}
use Rattle.types.specs.Keyed.{Entry}
use Rattle.types.specs.Table.{Answer}
use Rattle.types.specs.Lists.{entries_of}
use Rattle.tables.specs.Carried.{carried_in}
use Rattle.lease.specs.State.{Table, view}
use Rattle.lease.specs.Answers.{resume_of, Answers}
use Rattle.lease.specs.Helpers.{resumed_with}
use Rattle.lease.proofs.Carried.{carry_on_all, pair_end, resumed-all}
use Rattle.lease.proofs.LeaseTable.resume_attempts.Goals as goal

pub returns : goal.returns
returns c =
    let l = c.loop-pair in
    let ps = c.args.pairs.now in
    let t = view c.args.self in
    let r = c.resumed.result in
    let all : carried_in l.carried ≡ carry_on_all (entries_of ps) (some t.carried) = sym (pair_end ps l.pair-index l.carried c.loop-pair-test.false) ∙ l.invariant.1 in
    subst (λ (x : Answer (Unit {0}) Table). Answers (resume_of r.outcome) c.args.self r.table x)
    (ap (λ (x : Option (List (Entry ℕ))). resumed_with t x) all ∙ resumed-all t (entries_of ps) c.requires.valid) c.resumed.ensures
