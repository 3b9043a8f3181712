-- `plan_ack` meets its contract: each answer of the search has its plan by one law. Assumes nothing.
use Prim.Native.Nat.{ℕ, ◌≤◌}
use native.Mathlib.Omega.{arith}
use mathlib.Core.Path.{◌≡◌, subst}
use Rattle.types.specs.Limits.{MAX}
use Rattle.cursor.specs.Cursor.{Cursor}
use Rattle.cursor.specs.View.{ack_cursor, view}
use Rattle.cursor.specs.Place.{Spotted}
use Rattle.cursor.specs.declared.in_place.Spot.{Spot}
use Rattle.cursor.proofs.Search.{runs-is}
use Rattle.cursor.proofs.Answers.{not_last}
use Rattle.cursor.proofs.Edits.{planned, settled-planned, shed-planned, behind-planned, between-planned, before-planned, apart-planned}
use Rattle.cursor.proofs.in_place.plan_ack.Goals as goal
use Rattle.cursor.proofs.in_place.plan_ack.Goals.{Start}

small : (s : Start) → s.args.offset ≤ MAX
small s = omega arith

-- what the search found, in each arm
found : (c : Cursor) (x : ℕ) {p q : Spot} → p ≡ q → Spotted c x p → Spotted c x q
found c x is told = subst (Spotted c x) is told

pub overflow_add-offset : goal.overflow_add-offset
overflow_add-offset c =
    omega (arith, not_last (found (view (ack_cursor c.args.committed c.args.starts.now c.args.ends.now c.args.runs)) c.args.offset c.in-Behind.is c.locate-spot.ensures).1 (small (goal.at.overflow_add-offset c).Start))

pub join-requires : goal.join-requires
join-requires c =
    let g = ack_cursor c.args.committed c.args.starts.now c.args.ends.now c.args.runs in
    (omega (arith, (found (view g) c.args.offset c.in-Between.is c.locate-spot.ensures).0, runs-is g c.requires), omega (arith, c.requires.sound.few, c.requires.ends))

pub overflow_add-end : goal.overflow_add-end
overflow_add-end c =
    omega (arith, not_last (found (view (ack_cursor c.args.committed c.args.starts.now c.args.ends.now c.args.runs)) c.args.offset c.in-Apart.is c.locate-spot.ensures).1 (small (goal.at.overflow_add-end c).Start))

pub returns-then-runs-limit : goal.returns-then-runs-limit
returns-then-runs-limit c =
    let g = ack_cursor c.args.committed c.args.starts.now c.args.ends.now c.args.runs in
    planned g c.requires c.args.offset c.args.max_runs c.recorded-then-runs-limit.ensures
    (apart-planned g c.requires c.args.offset c.args.max_runs (small (goal.at.returns-then-runs-limit c).Start) c.in-Apart.i (found (view g) c.args.offset c.in-Apart.is c.locate-spot.ensures) (omega arith))

pub returns-in-Settled : goal.returns-in-Settled
returns-in-Settled c =
    let g = ack_cursor c.args.committed c.args.starts.now c.args.ends.now c.args.runs in
    planned g c.requires c.args.offset c.args.max_runs c.keeping.ensures
    (settled-planned g c.requires c.args.offset c.args.max_runs (found (view g) c.args.offset c.in-Settled.is c.locate-spot.ensures))

pub returns-in-Behind : goal.returns-in-Behind
returns-in-Behind c =
    let g = ack_cursor c.args.committed c.args.starts.now c.args.ends.now c.args.runs in
    planned g c.requires c.args.offset c.args.max_runs c.stretch.ensures
    (behind-planned g c.requires c.args.offset c.args.max_runs (small (goal.at.returns-in-Behind c).Start) c.in-Behind.i (found (view g) c.args.offset c.in-Behind.is c.locate-spot.ensures))

pub returns-in-Between : goal.returns-in-Between
returns-in-Between c =
    let g = ack_cursor c.args.committed c.args.starts.now c.args.ends.now c.args.runs in
    planned g c.requires c.args.offset c.args.max_runs c.join.ensures
    (between-planned g c.requires c.args.offset c.args.max_runs (small (goal.at.returns-in-Between c).Start) c.in-Between.i (found (view g) c.args.offset c.in-Between.is c.locate-spot.ensures))

pub returns-in-Before : goal.returns-in-Before
returns-in-Before c =
    let g = ack_cursor c.args.committed c.args.starts.now c.args.ends.now c.args.runs in
    planned g c.requires c.args.offset c.args.max_runs c.recorded.ensures
    (before-planned g c.requires c.args.offset c.args.max_runs (small (goal.at.returns-in-Before c).Start) c.in-Before.i (found (view g) c.args.offset c.in-Before.is c.locate-spot.ensures))

pub returns-else-runs-limit : goal.returns-else-runs-limit
returns-else-runs-limit c =
    let g = ack_cursor c.args.committed c.args.starts.now c.args.ends.now c.args.runs in
    planned g c.requires c.args.offset c.args.max_runs c.keeping-in-Apart.ensures
    (shed-planned g c.requires c.args.offset c.args.max_runs c.in-Apart.i (found (view g) c.args.offset c.in-Apart.is c.locate-spot.ensures) (omega arith))
