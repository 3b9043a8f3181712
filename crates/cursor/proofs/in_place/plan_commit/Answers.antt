-- `plan_commit` meets its contract. Assumes nothing.
use Prim.Native.Nat.{◌≤◌}
use mathlib.Core.Path.{refl}
use native.Mathlib.Omega.{arith}
use Rattle.tables.proofs.Columns.{taken-out-front}
use Rattle.cursor.specs.View.{ack_cursor}
use Rattle.cursor.proofs.Search.{long-starts, long-ends, starts_rise, place-within, found-committed}
use Rattle.cursor.proofs.Answers.{not_advanced, moved}
use Rattle.cursor.proofs.in_place.plan_commit.Goals as goal
use Rattle.cursor.proofs.in_place.plan_commit.Goals.{After-partition_point-k, Start}

pub returns-then-bound-committed : goal.returns-then-bound-committed
returns-then-bound-committed c = not_advanced (ack_cursor c.args.committed c.args.starts.now c.args.ends.now c.args.runs) c.args.bound c.requires.sound c.if-bound-committed.true

pub partition_point-k-requires : goal.partition_point-k-requires
partition_point-k-requires c =
    starts_rise (ack_cursor c.args.committed c.args.starts.now c.args.ends.now c.args.runs) c.requires

within : (c : After-partition_point-k) → c.partition_point-k.result ≤ c.args.runs
within c = place-within (ack_cursor c.args.committed c.args.starts.now c.args.ends.now c.args.runs) c.requires c.args.bound c.partition_point-k.result c.partition_point-k.ensures

pub end_before-end-requires : goal.end_before-end-requires
end_before-end-requires c = omega (arith, within (goal.at.end_before-end-requires c).After-partition_point-k, c.requires.sound.few, c.requires.ends)

pub overflow_sub-result : goal.overflow_sub-result
overflow_sub-result c = within (goal.at.overflow_sub-result c).After-partition_point-k

pub returns : goal.returns
returns c =
    let g = ack_cursor c.args.committed c.args.starts.now c.args.ends.now c.args.runs in
    let k = c.partition_point-k.result in
    moved g c.args.bound c.requires.sound (omega arith) c.if-bound-committed.false _ (omega (arith, c.requires.sound.few))
    (found-committed g c.requires c.args.bound k c.partition_point-k.ensures c.end_before-end.result c.end_before-end.ensures (omega arith) _ _ _ c.max.ensures
    (taken-out-front c.args.runs 0 k c.args.starts.now (omega arith) (within (goal.at.returns c).After-partition_point-k) (long-starts g c.requires) refl)
    (taken-out-front c.args.runs 0 k c.args.ends.now (omega arith) (within (goal.at.returns c).After-partition_point-k) (long-ends g c.requires) refl))
