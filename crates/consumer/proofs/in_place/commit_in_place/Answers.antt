-- `commit_in_place` meets its contract: what the test answers, or what the cursor and the table do, on every consumer that has the parts
-- that it is lent. Assumes nothing.
-- a consumer with the parts that the arguments are
use Prim.Native.Nat.{◌≤◌}
use native.Mathlib.Omega.{arith}
use mathlib.Core.Path.{sym, ◌∙◌}
use Rattle.types.specs.Limits.{MAX}
use Rattle.types.specs.Refusal.{done}
use Rattle.cursor.specs.View.{ack_cursor}
use Rattle.consumer.specs.Calls.{commit}
use Rattle.consumer.specs.Parts.{committing}
use Rattle.consumer.specs.View.{view, commit_of}
use Rattle.consumer.specs.declared.Consumer.{Consumer}
use Rattle.consumer.proofs.CallsReturns.{table-whole}
use Rattle.consumer.proofs.CallsCommit.{is_answered, takes_effect, commit-answered, commit-done}
use Rattle.consumer.proofs.in_place.commit_in_place.Goals as goal
use Rattle.consumer.proofs.in_place.commit_in_place.Goals.{Start}

abbrev made : Start → Consumer → Consumer
made s =
    committing s.args.rights.now (ack_cursor s.args.committed s.args.starts.now s.args.ends.now s.args.runs) s.args.len s.args.carried_len
    s.args.offsets.now s.args.slots.now s.args.carried_offsets.now s.args.carried_counts.now

pub returns-then-not-unwrap_or : goal.returns-then-not-unwrap_or
returns-then-not-unwrap_or c x w =
    let k = made (goal.at.returns-then-not-unwrap_or c).Start x in
    let right = commit (view k) c.args.worker c.args.bound in
    let r = c.commit_test-test.result in
    commit-answered k w.sound right (commit_of r)
    (is_answered (view k) c.args.worker c.args.bound right r (sym c.unwrap_or.ensures ∙ c.if-not-unwrap_or.true) (c.commit_test-test.ensures k w))

fits : (s : Start) → s.args.bound ≤ MAX
fits s = omega arith

pub returns : goal.returns
returns c x w =
    let k = made (goal.at.returns c).Start x in
    let right = commit (view k) c.args.worker c.args.bound in
    commit-done k w.sound right c.args.bound
    (takes_effect (view k) c.args.worker c.args.bound right c.commit_test-test.result (sym c.unwrap_or.ensures ∙ c.if-not-unwrap_or.false) (c.commit_test-test.ensures k w))
    (fits (goal.at.returns c).Start)
    (done c.commit_in_place-moved.result.advanced) _ c.commit_in_place-moved.ensures _ (c.release_below_in_place-released.ensures k.table (table-whole w))
