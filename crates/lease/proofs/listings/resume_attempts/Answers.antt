-- `resume_attempts` meets its contract. The loop's invariant: what the pairs that are left still make of the counts that are held is what
-- all of them make of those that were carried.
-- Assumes nothing.
use mathlib.Core.Path.{◌≡◌, ap, subst, ◌∙◌}
use mathlib.Core.List.{List, []}
use mathlib.Core.Logic.{inl, inr}
use Prim.Native.Nat.{ℕ, ◌≤◌, min}
use native.Mathlib.Omega.{arith}
use lib.ListN.{length}
use Rattle.types.proofs.Columns.{drop-entries-past}
use mathlib.Core.Option.{Option, some}
use Rattle.types.specs.Keyed.{Entry, entries}
use Rattle.types.specs.Table.{Answer}
use Rattle.tables.specs.Carried.{carried_in}
use Rattle.lease.specs.State.{Table}
use Rattle.lease.specs.Answers.{resume_of}
use Rattle.lease.specs.Helpers.{resumed_with}
use Rattle.lease.specs.Layout.{view}
use Rattle.lease.specs.InWords.{Answers}
use Rattle.lease.proofs.Carried.{carry_on_all, resumed-all}
use Rattle.lease.proofs.listings.resume_attempts.Goals as goal

pub returns : goal.returns
returns c =
    let w = c.args.table.now in
    let es = entries c.args.offsets.now c.args.attempts.now in
    let left = c.loop-offset.offset-iterator in
    let least : min (length left.a.rest.now) (length left.b.rest.now) ≤ 0 = elim c.in-None.ensures.steps [ inl a ↦ omega (arith, a.1.0) | inr b ↦ omega (arith, b.1.0) ] in
    let none : entries left.a.rest.now left.b.rest.now ≡ [] = drop-entries-past 0 left.a.rest.now left.b.rest.now least in
    let all : carried_in c.loop-offset.carried ≡ carry_on_all es (some (view w).carried) = rw none at c.loop-offset.invariant.1 in
    subst (λ (x : Answer (Unit {0}) Table). Answers (resume_of c.resume_with.result) w c.resume_with.new.table x)
    (ap (λ (x : Option (List (Entry ℕ))). resumed_with (view w) x) all ∙ resumed-all (view w) es c.requires.table.valid) c.resume_with.ensures
