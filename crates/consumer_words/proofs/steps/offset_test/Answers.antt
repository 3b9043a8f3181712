-- `offset_test` meets its contract. Assumes nothing.
use Prim.Native.Nat.{ℕ}
use mathlib.Core.Path.{◌≡◌, sym, ap, subst, ◌∙◌}
use mathlib.Core.Bool.{true}
use mathlib.Core.List.{List}
use mathlib.Core.Option.{Option}
use lib.Dec.{eqb}
use borrow.Author.Tests.{eqb-true, eqb-false, leb-true, leb-false}
use Rattle.types.specs.Limits.{MAX, LEASES}
use Rattle.words.specs.Columns.{word, column}
use Rattle.std.specs.Prelude.{None}
use Rattle.std.specs.Prelude as std
use Rattle.hours.specs.Hours.{isOpen}
use Rattle.hours.specs.View.{closed_until, opening_of}
use Rattle.hours.specs.View as hours
use Rattle.hours.specs.declared.Hours.{Hours}
use Rattle.lease.specs.Operations.{lease_of, running}
use Rattle.lease.specs.Layout as lease
use Rattle.lease.specs.InWords.{PlacedIn}
use Rattle.lease.proofs.Slots.{placed-within}
use Rattle.consumer.specs.Calls.{is_full}
use Rattle.consumer.proofs.CallsClaim.{open-now, opens-later, is-last, is-settled, is-closed, is-running, is_exhausted, is-at-ceiling, is-at-threshold, is-full, is_open}
use Rattle.consumer_words.specs.Layout.{hours_in, view}
use Rattle.consumer_words.proofs.State.{table_part, table-part, lent-table}
use Rattle.consumer_words.proofs.steps.offset_test.Goals as goal

-- the hours that are read, as those of the words
closed-as : (w : List ℕ) (now : ℕ) (h : Hours) → h ≡ hours_in w → {r : Option ℕ} → r ≡ closed_until (hours.view h) now → r ≡ closed_until (view w).settings.hours now
closed-as w now h e q = q ∙ ap (λ (x : Hours). closed_until (hours.view x) now) e

in-hours : (w : List ℕ) (now : ℕ) (h : Hours) → h ≡ hours_in w → (r : std.Option ℕ) → opening_of r ≡ closed_until (hours.view h) now → r ≡ None
    → isOpen (view w).settings.hours now ≡ true
in-hours w now h e r q n = open-now (isOpen (view w).settings.hours now) _ (sym (ap opening_of n) ∙ closed-as w now h e q)

pub returns-then-offset-eq-MAX : goal.returns-then-offset-eq-MAX
returns-then-offset-eq-MAX c = record { is = is-last (view c.args.words.now) c.args.offset.0 c.args.now c.if-offset-eq-MAX.true; place = tt }

pub returns-then-is_settled : goal.returns-then-is_settled
returns-then-is_settled c =
    record { is = is-settled (view c.args.words.now) c.args.offset.0 c.args.now c.if-offset-eq-MAX.false (sym c.is_settled.ensures ∙ c.if-is_settled.true); place = tt }

pub returns-in-Some : goal.returns-in-Some
returns-in-Some c =
    let e = opens-later (isOpen (view c.args.words.now).settings.hours c.args.now) _ c.in-Some.opening (closed-as c.args.words.now c.args.now c.hours_of-hours.result c.hours_of-hours.ensures c.in-Some.ensures) in
    record {
      is = is-closed (view c.args.words.now) c.args.offset.0 c.args.now c.if-offset-eq-MAX.false (sym c.is_settled.ensures ∙ c.if-is_settled.false) e.0 c.in-Some.opening e.1;
      place = tt;
    }

pub find-place-requires : goal.find-place-requires
find-place-requires c = lent-table c.requires

pub is_running_at-requires : goal.is_running_at-requires
is_running_at-requires c =
    let t = table_part c.args.words.now in
    (lent-table c.requires, placed-within c.args.offset.0 (word lease.LEN t) (column lease.OFFSETS LEASES t) c.find-place.result (lent-table c.requires).table.len c.find-place.ensures)

pub returns-then-is_running_at : goal.returns-then-is_running_at
returns-then-is_running_at c =
    record { is = is-running (view c.args.words.now) c.args.offset.0 c.args.now c.if-offset-eq-MAX.false (sym c.is_settled.ensures ∙ c.if-is_settled.false) (in-hours c.args.words.now c.args.now c.hours_of-hours.result c.hours_of-hours.ensures c.at.result c.at.ensures c.in_default.is) (sym (c.is_running_at.ensures c.args.offset.0 c.find-place.ensures ∙ ap (λ (t : List ℕ). running (lease_of (lease.view t) c.args.offset.0) c.args.now) (table-part c.args.words.now)) ∙ c.if-is_running_at.true); place = tt }

pub is_exhausted-requires : goal.is_exhausted-requires
is_exhausted-requires c = lent-table c.requires

pub returns-then-is_exhausted : goal.returns-then-is_exhausted
returns-then-is_exhausted c =
    record { is = is_exhausted (view c.args.words.now) c.args.offset.0 c.args.now c.if-offset-eq-MAX.false (sym c.is_settled.ensures ∙ c.if-is_settled.false) (in-hours c.args.words.now c.args.now c.hours_of-hours.result c.hours_of-hours.ensures c.at.result c.at.ensures c.in_default.is) (sym (c.is_running_at.ensures c.args.offset.0 c.find-place.ensures ∙ ap (λ (t : List ℕ). running (lease_of (lease.view t) c.args.offset.0) c.args.now) (table-part c.args.words.now)) ∙ c.if-is_running_at.false) (eqb-true _ MAX (sym (c.is_exhausted.ensures ∙ ap (λ (t : List ℕ). eqb (lease.view t).next_generation MAX) (table-part c.args.words.now)) ∙ c.if-is_exhausted.true)); place = tt }

pub returns-then-is_at_ceiling : goal.returns-then-is_at_ceiling
returns-then-is_at_ceiling c =
    record {
      is = is-at-ceiling (view c.args.words.now) c.args.offset.0 c.args.now c.if-offset-eq-MAX.false (sym c.is_settled.ensures ∙ c.if-is_settled.false) (in-hours c.args.words.now c.args.now c.hours_of-hours.result c.hours_of-hours.ensures c.at.result c.at.ensures c.in_default.is) (sym (c.is_running_at.ensures c.args.offset.0 c.find-place.ensures ∙ ap (λ (t : List ℕ). running (lease_of (lease.view t) c.args.offset.0) c.args.now) (table-part c.args.words.now)) ∙ c.if-is_running_at.false) (eqb-false _ MAX (sym (c.is_exhausted.ensures ∙ ap (λ (t : List ℕ). eqb (lease.view t).next_generation MAX) (table-part c.args.words.now)) ∙ c.if-is_exhausted.false)) (leb-true _ _ (sym c.is_at_ceiling.ensures ∙ c.if-is_at_ceiling.true));
      place = tt;
    }

pub returns-then-is_at_threshold : goal.returns-then-is_at_threshold
returns-then-is_at_threshold c =
    record {
      is = is-at-threshold (view c.args.words.now) c.args.offset.0 c.args.now c.if-offset-eq-MAX.false (sym c.is_settled.ensures ∙ c.if-is_settled.false) (in-hours c.args.words.now c.args.now c.hours_of-hours.result c.hours_of-hours.ensures c.at.result c.at.ensures c.in_default.is) (sym (c.is_running_at.ensures c.args.offset.0 c.find-place.ensures ∙ ap (λ (t : List ℕ). running (lease_of (lease.view t) c.args.offset.0) c.args.now) (table-part c.args.words.now)) ∙ c.if-is_running_at.false) (eqb-false _ MAX (sym (c.is_exhausted.ensures ∙ ap (λ (t : List ℕ). eqb (lease.view t).next_generation MAX) (table-part c.args.words.now)) ∙ c.if-is_exhausted.false)) (leb-false _ _ (sym c.is_at_ceiling.ensures ∙ c.if-is_at_ceiling.false)) (leb-true _ _ (sym c.is_at_threshold.ensures ∙ c.if-is_at_threshold.true));
      place = tt;
    }

pub is_full-requires : goal.is_full-requires
is_full-requires c =
    (lent-table c.requires, c.find-place.ensures)

pub returns-then-is_full : goal.returns-then-is_full
returns-then-is_full c =
    record {
      is = is-full (view c.args.words.now) c.args.offset.0 c.args.now c.if-offset-eq-MAX.false (sym c.is_settled.ensures ∙ c.if-is_settled.false) (in-hours c.args.words.now c.args.now c.hours_of-hours.result c.hours_of-hours.ensures c.at.result c.at.ensures c.in_default.is) (sym (c.is_running_at.ensures c.args.offset.0 c.find-place.ensures ∙ ap (λ (t : List ℕ). running (lease_of (lease.view t) c.args.offset.0) c.args.now) (table-part c.args.words.now)) ∙ c.if-is_running_at.false) (eqb-false _ MAX (sym (c.is_exhausted.ensures ∙ ap (λ (t : List ℕ). eqb (lease.view t).next_generation MAX) (table-part c.args.words.now)) ∙ c.if-is_exhausted.false)) (leb-false _ _ (sym c.is_at_ceiling.ensures ∙ c.if-is_at_ceiling.false)) (leb-false _ _ (sym c.is_at_threshold.ensures ∙ c.if-is_at_threshold.false)) (sym (c.is_full.ensures ∙ ap (λ (t : List ℕ). is_full (lease.view t) c.args.offset.0) (table-part c.args.words.now)) ∙ c.if-is_full.true);
      place = tt;
    }

pub returns : goal.returns
returns c =
    record {
      is = is_open (view c.args.words.now) c.args.offset.0 c.args.now c.if-offset-eq-MAX.false (sym c.is_settled.ensures ∙ c.if-is_settled.false) (in-hours c.args.words.now c.args.now c.hours_of-hours.result c.hours_of-hours.ensures c.at.result c.at.ensures c.in_default.is) (sym (c.is_running_at.ensures c.args.offset.0 c.find-place.ensures ∙ ap (λ (t : List ℕ). running (lease_of (lease.view t) c.args.offset.0) c.args.now) (table-part c.args.words.now)) ∙ c.if-is_running_at.false) (eqb-false _ MAX (sym (c.is_exhausted.ensures ∙ ap (λ (t : List ℕ). eqb (lease.view t).next_generation MAX) (table-part c.args.words.now)) ∙ c.if-is_exhausted.false)) (leb-false _ _ (sym c.is_at_ceiling.ensures ∙ c.if-is_at_ceiling.false)) (leb-false _ _ (sym c.is_at_threshold.ensures ∙ c.if-is_at_threshold.false)) (sym (c.is_full.ensures ∙ ap (λ (t : List ℕ). is_full (lease.view t) c.args.offset.0) (table-part c.args.words.now)) ∙ c.if-is_full.false);
      place = subst (λ (t : List ℕ). PlacedIn c.args.offset.0 t c.find-place.result) (table-part c.args.words.now) c.find-place.ensures;
    }
