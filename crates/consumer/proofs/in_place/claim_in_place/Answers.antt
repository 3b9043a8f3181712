-- `claim_in_place` meets its contract: the test refuses, or the grant after it takes effect, on every consumer that has the parts that it
-- is lent. Assumes nothing.
use Prim.Native.Nat.{◌≤◌}
use native.Mathlib.Omega.{arith}
use mathlib.Core.Path.{refl}
use Rattle.types.specs.Limits.{MAX}
use Rattle.types.specs.Refused.{refusal_of}
use Rattle.cursor.specs.View.{ack_cursor}
use Rattle.lease.specs.Answers as answers
use Rattle.lease.specs.Parts.{gathered}
use Rattle.consumer.specs.Calls.{claim_table}
use Rattle.consumer.specs.Parts.{claiming}
use Rattle.consumer.specs.View.{view, claim_of}
use Rattle.consumer.specs.declared.Consumer.{Consumer}
use Rattle.consumer.proofs.CallsClaim.{open_passed, claim-refused, claim-granted}
use Rattle.consumer.proofs.in_place.claim_in_place.Goals as goal
use Rattle.consumer.proofs.in_place.claim_in_place.Goals.{Start}

-- a consumer with the parts that the arguments are
abbrev made : Start → Consumer → Consumer
made s =
    claiming s.args.rights.now s.args.hours s.args.ceiling s.args.max_deliver s.args.threshold (ack_cursor s.args.committed s.args.starts.now s.args.ends.now s.args.runs)
    (gathered s.args.config s.args.len s.args.carried_len s.args.next_generation s.args.redeliveries s.args.offsets.now s.args.slots.now s.args.generations.now s.args.attempt_starts.now s.args.deadlines.now s.args.deliveries.now s.args.workers.now s.args.carried_offsets.now s.args.carried_counts.now)

pub returns-in-Err : goal.returns-in-Err
returns-in-Err c x w =
    let k = made (goal.at.returns-in-Err c).Start x in
    claim-refused k w.sound c.args.worker c.args.offset c.args.now (refusal_of c.in-Err.refusal) (c.in-Err.ensures.0.is k w)

-- a worker that may claim is one of the eight
pub overflow_cast-worker : goal.overflow_cast-worker
overflow_cast-worker c = omega (arith, c.in-Ok.ensures.0.known refl)

pub claim_at-claimed-requires : goal.claim_at-claimed-requires
claim_at-claimed-requires c = (c.requires.1, c.in-Ok.ensures.1)

fits : (s : Start) → s.args.offset ≤ MAX
fits s = omega arith

pub returns : goal.returns
returns c x w =
    let s = (goal.at.returns c).Start in
    let k = made s x in
    claim-granted k w.sound c.args.worker c.args.offset c.args.now (fits s)
    (open_passed (claim_table (view k) c.args.worker c.args.offset c.args.now) (c.in-Ok.ensures.0.is k w))
    (answers.claim_of c.claim_at-claimed.result.outcome) _ c.claim_at-claimed.ensures (claim_of c.handed_out.result) c.handed_out.ensures
