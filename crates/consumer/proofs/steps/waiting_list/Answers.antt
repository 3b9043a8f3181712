-- `waiting_list` meets its contract. The loop's invariant: the expired leases before place i stand in order behind the carried offsets.
-- Assumes nothing.
use Prim.Native.Nat.{ℕ, ◌+◌, ◌≤◌, ◌<◌}
use native.Mathlib.Omega.{arith}
use mathlib.Core.Path.{refl, sym, ap, subst, ◌∙◌}
use lib.ListN.{take, get_or}
use Rattle.types.specs.Limits.{LEASES}
use Rattle.tables.specs.Columns.{put_in}
use Rattle.tables.specs.Search.{Boundary}
use Rattle.tables.proofs.Search.{boundary_inside}
use Rattle.consumer.proofs.Asked.{waits_none, waits-running, waits-expired, all_wait}
use Rattle.consumer.proofs.steps.waiting_list.Goals as goal
use Rattle.consumer.proofs.steps.waiting_list.Goals.{In-loop-i, then-deadline-now, else-deadline-now}

pub loop-i-init : goal.loop-i-init
loop-i-init c =
    waits_none c.args.len c.args.carried_len c.args.now c.args.offsets.now c.args.slots.now c.args.deadlines.now c.args.carried_offsets.now _ refl

-- there are no more leases than places
fits : (c : In-loop-i) → (c.loop-i.n ≤ c.loop-i.i) × (c.loop-i.i < LEASES)
fits c = (c.loop-i.invariant.few, omega (arith, c.loop-i-test.true, c.requires.0))

pub slot_at-slot-requires : goal.slot_at-slot-requires
slot_at-slot-requires c = (fits c).1

pub offset_bounds-deadlines-slot : goal.offset_bounds-deadlines-slot
offset_bounds-deadlines-slot c = omega (arith, c.slot_at-slot.ensures.1)

pub bounds-deadlines-slot : goal.bounds-deadlines-slot
bounds-deadlines-slot c = c.slot_at-slot.ensures.1

pub slice_bounds-position_after-end : goal.slice_bounds-position_after-end
slice_bounds-position_after-end c = sym c.loop-i.invariant.full

pub overflow_add-carried_len : goal.overflow_add-carried_len
overflow_add-carried_len c = omega (arith, fits (goal.at.overflow_add-carried_len c).In-loop-i, c.requires.1)

pub overflow_add-carried_len-then-deadline-now : goal.overflow_add-carried_len-then-deadline-now
overflow_add-carried_len-then-deadline-now c =
    omega (arith, fits (goal.at.overflow_add-carried_len-then-deadline-now c).In-loop-i, c.requires.1, boundary_inside _ c.loop-i.n c.loop-i.by_deadline c.position_after-at.ensures)

pub offset_bounds-offsets-i : goal.offset_bounds-offsets-i
offset_bounds-offsets-i c = omega (arith, fits (goal.at.offset_bounds-offsets-i c).In-loop-i)

pub bounds-offsets-i : goal.bounds-offsets-i
bounds-offsets-i c = (fits (goal.at.bounds-offsets-i c).In-loop-i).1

pub overflow_add-n : goal.overflow_add-n
overflow_add-n c = omega (arith, fits (goal.at.overflow_add-n c).In-loop-i)

pub loop-i-preserved : goal.loop-i-preserved
loop-i-preserved c =
    let l = c.loop-i in
    let more = c.loop-i-test.true in
    let due = ap (λ (k : ℕ). get_or c.args.deadlines.now k 0) c.slot_at-slot.ensures.0 in
    elim c.if-deadline-now.branch [
      | then-deadline-now w ↦ rw (w.listed-is, w.by_deadline-is, w.n-is)
          (waits-expired c.args.len c.args.carried_len c.args.now c.args.offsets.now c.args.slots.now c.args.deadlines.now c.args.carried_offsets.now
          l.invariant c.requires.0 more w.position_after-at.result (subst (λ (d : ℕ). d ≤ c.args.now) due w.if-deadline-now.true)
          (subst (λ (d : ℕ). Boundary (d + 1) (take l.n l.by_deadline) w.position_after-at.result) due w.position_after-at.ensures)
          (w.insert.ensures ∙ ap (λ (d : ℕ). put_in l.n w.position_after-at.result d l.by_deadline) due) w.insert-then-deadline-now.ensures)
      | else-deadline-now w ↦ rw (w.listed-is, w.by_deadline-is, w.n-is)
          (waits-running c.args.len c.args.carried_len c.args.now c.args.offsets.now c.args.slots.now c.args.deadlines.now c.args.carried_offsets.now
          l.invariant c.requires.0 more (subst (λ (d : ℕ). c.args.now < d) due w.if-deadline-now.false))
    ]

pub overflow_add-result : goal.overflow_add-result
overflow_add-result c = omega (arith, c.loop-i.invariant.few, c.loop-i.invariant.inside, c.requires)

pub returns : goal.returns
returns c =
    all_wait c.args.len c.args.carried_len c.args.now c.args.offsets.now c.args.slots.now c.args.deadlines.now c.args.carried_offsets.now
    c.loop-i.invariant c.loop-i-test.false
