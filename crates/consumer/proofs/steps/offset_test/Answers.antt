-- `offset_test` meets its contract: each test of the table in its order. Assumes nothing.
use Prim.Native.Nat.{ℕ}
use native.Mathlib.Omega.{arith}
use mathlib.Core.Path.{◌≡◌, sym, ap, ◌∙◌}
use mathlib.Core.Bool.{Bool, true, false, not}
use lib.ListN.{take}
use Rattle.std.specs.Prelude.{None}
use Rattle.std.specs.Prelude as std
use Rattle.tables.specs.Search.{Placed}
use Rattle.tables.specs.declared.Place.{Place}
use Rattle.cursor.specs.View.{ack_cursor}
use Rattle.hours.specs.Hours.{isOpen}
use Rattle.hours.specs.View.{opening_of, closed_until}
use Rattle.hours.specs.View as hours
use Rattle.lease.specs.Operations.{lease_of, running}
use Rattle.lease.specs.Parts.{HoldsAt, due}
use Rattle.lease.specs.Rest.{is_claimable}
use Rattle.lease.proofs.Slots.{placed-within}
use Rattle.consumer.specs.State.{State}
use Rattle.consumer.specs.Parts.{Whole, testing}
use Rattle.consumer.specs.View.{view}
use Rattle.consumer.specs.declared.Consumer.{Consumer}
use Rattle.consumer.proofs.CallsReturns.{table-whole}
use Rattle.consumer.proofs.CallsClaim.{open-now, opens-later, blocked, unblocked, is-last, is-settled, is-closed, is-running, is_exhausted, is-at-ceiling, is-at-threshold, is-full, is_open}
use Rattle.consumer.proofs.steps.offset_test.Goals as goal
use Rattle.consumer.proofs.steps.offset_test.Goals.{Start}

-- a consumer with the parts that the arguments are, and its state
abbrev made : Start → Consumer → Consumer
made s =
    testing s.args.hours s.args.ceiling s.args.threshold (ack_cursor s.args.committed s.args.starts.now s.args.ends.now s.args.runs) s.args.len s.args.carried_len
    s.args.next_generation s.args.redeliveries s.args.offsets.now s.args.slots.now s.args.deadlines.now s.args.carried_offsets.now
    s.args.carried_counts.now

abbrev shown : Start → Consumer → State
shown s c = view (made s c)

-- it is open
in-hours : (s : Start) (x : Consumer) (r : std.Option ℕ) → opening_of r ≡ closed_until (hours.view s.args.hours) s.args.now → r ≡ None
    → isOpen (shown s x).settings.hours s.args.now ≡ true
in-hours s x r e n = open-now (isOpen (hours.view s.args.hours) s.args.now) _ (sym (ap opening_of n) ∙ e)

-- no lease keeps it
not-running : (s : Start) (x : Consumer) → Whole (made s x) → (place : Place) → Placed s.args.offset (take s.args.len s.args.offsets.now) place
    → (b : Bool) → ((o : ℕ) → HoldsAt o place (due s.args.slots.now s.args.deadlines.now) (λ t. b ≡ is_claimable t o s.args.now)) → not b ≡ false
    → running (lease_of (shown s x).table s.args.offset) s.args.now ≡ false
not-running s x w place p b e n = unblocked b _ (e s.args.offset (made s x).table (table-whole w) p) n

pub returns-then-offset-eq-MAX : goal.returns-then-offset-eq-MAX
returns-then-offset-eq-MAX c = (λ x w. is-last (shown (goal.at.returns-then-offset-eq-MAX c).Start x) c.args.offset c.args.now c.if-offset-eq-MAX.true, tt)

pub returns-then-is_acked_in_place : goal.returns-then-is_acked_in_place
returns-then-is_acked_in_place c = (
  λ x w.
      let s = (goal.at.returns-then-is_acked_in_place c).Start in
      is-settled (shown s x) c.args.offset c.args.now c.if-offset-eq-MAX.false (sym c.is_acked_in_place.ensures ∙ c.if-is_acked_in_place.true),
  tt,
)

pub returns-in-Some : goal.returns-in-Some
returns-in-Some c = (
  λ x w.
      let s = (goal.at.returns-in-Some c).Start in
      let e = opens-later (isOpen (hours.view c.args.hours) c.args.now) _ c.in-Some.opening (sym (ap opening_of c.in-Some.is) ∙ c.at.ensures) in
      is-closed (shown s x) c.args.offset c.args.now c.if-offset-eq-MAX.false (sym c.is_acked_in_place.ensures ∙ c.if-is_acked_in_place.false) e.0 c.in-Some.opening e.1,
  tt,
)

pub is_claimable_at-requires : goal.is_claimable_at-requires
is_claimable_at-requires c = placed-within c.args.offset c.args.len c.args.offsets.now c.find-place.result c.requires.1 c.find-place.ensures

pub returns-then-not-is_claimable_at : goal.returns-then-not-is_claimable_at
returns-then-not-is_claimable_at c = (
  λ x w.
      let s = (goal.at.returns-then-not-is_claimable_at c).Start in
      is-running (shown s x) c.args.offset c.args.now c.if-offset-eq-MAX.false (sym c.is_acked_in_place.ensures ∙ c.if-is_acked_in_place.false) (in-hours s x c.at.result c.at.ensures c.in_default.is)
      (blocked c.is_claimable_at.result _ (c.is_claimable_at.ensures c.args.offset (made s x).table (table-whole w) c.find-place.ensures) (ap not c.if-not-is_claimable_at.true)),
  tt,
)

pub returns-then-next_generation-eq-MAX : goal.returns-then-next_generation-eq-MAX
returns-then-next_generation-eq-MAX c = (
  λ x w.
      let s = (goal.at.returns-then-next_generation-eq-MAX c).Start in
      is_exhausted (shown s x) c.args.offset c.args.now c.if-offset-eq-MAX.false (sym c.is_acked_in_place.ensures ∙ c.if-is_acked_in_place.false) (in-hours s x c.at.result c.at.ensures c.in_default.is) (not-running s x w c.find-place.result c.find-place.ensures c.is_claimable_at.result c.is_claimable_at.ensures (ap not c.if-not-is_claimable_at.false)) c.if-next_generation-eq-MAX.true,
  tt,
)

pub returns-then-ceiling-next_generation : goal.returns-then-ceiling-next_generation
returns-then-ceiling-next_generation c = (
  λ x w.
      let s = (goal.at.returns-then-ceiling-next_generation c).Start in
      is-at-ceiling (shown s x) c.args.offset c.args.now c.if-offset-eq-MAX.false (sym c.is_acked_in_place.ensures ∙ c.if-is_acked_in_place.false) (in-hours s x c.at.result c.at.ensures c.in_default.is) (not-running s x w c.find-place.result c.find-place.ensures c.is_claimable_at.result c.is_claimable_at.ensures (ap not c.if-not-is_claimable_at.false)) c.if-next_generation-eq-MAX.false
      (omega (arith, c.if-ceiling-next_generation.true)),
  tt,
)

pub returns-then-threshold-redeliveries : goal.returns-then-threshold-redeliveries
returns-then-threshold-redeliveries c = (
  λ x w.
      let s = (goal.at.returns-then-threshold-redeliveries c).Start in
      is-at-threshold (shown s x) c.args.offset c.args.now c.if-offset-eq-MAX.false (sym c.is_acked_in_place.ensures ∙ c.if-is_acked_in_place.false) (in-hours s x c.at.result c.at.ensures c.in_default.is) (not-running s x w c.find-place.result c.find-place.ensures c.is_claimable_at.result c.is_claimable_at.ensures (ap not c.if-not-is_claimable_at.false)) c.if-next_generation-eq-MAX.false
      (omega (arith, c.if-ceiling-next_generation.false)) c.if-threshold-redeliveries.true,
  tt,
)

pub returns-then-is_full : goal.returns-then-is_full
returns-then-is_full c = (
  λ x w.
      let s = (goal.at.returns-then-is_full c).Start in
      is-full (shown s x) c.args.offset c.args.now c.if-offset-eq-MAX.false (sym c.is_acked_in_place.ensures ∙ c.if-is_acked_in_place.false) (in-hours s x c.at.result c.at.ensures c.in_default.is) (not-running s x w c.find-place.result c.find-place.ensures c.is_claimable_at.result c.is_claimable_at.ensures (ap not c.if-not-is_claimable_at.false)) c.if-next_generation-eq-MAX.false
      (omega (arith, c.if-ceiling-next_generation.false)) c.if-threshold-redeliveries.false
      (sym (c.is_full.ensures (made s x).table (table-whole w) c.find-place.ensures) ∙ c.if-is_full.true),
  tt,
)

pub returns : goal.returns
returns c = (
  λ x w.
      let s = (goal.at.returns c).Start in
      is_open (shown s x) c.args.offset c.args.now c.if-offset-eq-MAX.false (sym c.is_acked_in_place.ensures ∙ c.if-is_acked_in_place.false) (in-hours s x c.at.result c.at.ensures c.in_default.is) (not-running s x w c.find-place.result c.find-place.ensures c.is_claimable_at.result c.is_claimable_at.ensures (ap not c.if-not-is_claimable_at.false)) c.if-next_generation-eq-MAX.false
      (omega (arith, c.if-ceiling-next_generation.false)) c.if-threshold-redeliveries.false
      (sym (c.is_full.ensures (made s x).table (table-whole w) c.find-place.ensures) ∙ c.if-is_full.false),
  c.find-place.ensures,
)
