-- `nack_in_place` meets its contract: the token's test, each test of the table in its order, then the effect, on every consumer that has
-- the parts that it is lent. Assumes nothing.
use Prim.Native.Nat.{ℕ}
use mathlib.Core.Path.{◌≡◌, refl}
use Rattle.types.specs.Refusal.{done}
use native.Mathlib.Omega.{arith}
use Rattle.types.specs.Refused.{refusal_of}
use Rattle.types.specs.Table.{Passed, checked}
use Rattle.delivery.specs.Config.{delay_of}
use Rattle.lease.specs.Answers as answers
use Rattle.consumer.specs.Rights as rights
use Rattle.consumer.specs.Calls.{token_rows, attempt_of}
use Rattle.consumer.specs.Parts.{nacking}
use Rattle.consumer.specs.View.{view}
use Rattle.consumer.specs.declared.Consumer.{Consumer}
use Rattle.consumer.proofs.CallsReturns.{table-whole}
use Rattle.consumer.proofs.CallsToken.{first-refused, test-passed, nack-refused, nack_exhausted, nack-due, nack-passed, nack_requeued}
use Rattle.lease.proofs.Tokens.{owned-used}
use Rattle.consumer.proofs.in_place.nack_in_place.Goals as goal
use Rattle.consumer.proofs.in_place.nack_in_place.Goals.{Start}

-- a consumer with the parts that the arguments are
abbrev made : Start → Consumer → Consumer
made s =
    nacking s.args.rights.now s.args.hours s.args.ceiling s.args.backoff_nanos.now s.args.backoff_len s.args.config s.args.len s.args.next_generation s.args.offsets.now
    s.args.slots.now s.args.generations.now s.args.deadlines.now s.args.deliveries.now s.args.workers.now

-- the token's rows are passed, and this is the count of its lease
owned : (s : Start) (x : Consumer) (n : ℕ) → let k = view (made s x) in
    done n ≡ checked (token_rows k s.args.worker rights.nacking s.args.offset s.args.generation) (done (attempt_of k s.args.offset))
    → Passed (token_rows k s.args.worker rights.nacking s.args.offset s.args.generation) × (n ≡ attempt_of k s.args.offset)
owned s x n e =
    let k = view (made s x) in
    test-passed (token_rows k s.args.worker rights.nacking s.args.offset s.args.generation) n (attempt_of k s.args.offset) e

pub returns-in-Err : goal.returns-in-Err
returns-in-Err c x w =
    let k = made (goal.at.returns-in-Err c).Start x in
    let r = refusal_of c.in-Err.refusal in
    nack-refused k w.sound c.args.worker c.args.offset c.args.generation c.args.now (delay_of c.args.delay) r
    (first-refused (token_rows (view k) c.args.worker rights.nacking c.args.offset c.args.generation) (attempt_of (view k) c.args.offset) r (c.in-Err.ensures.0 k w rights.nacking refl))

pub returns-then-next_generation-eq-MAX : goal.returns-then-next_generation-eq-MAX
returns-then-next_generation-eq-MAX c x w =
    let s = (goal.at.returns-then-next_generation-eq-MAX c).Start in
    nack_exhausted (made s x) w.sound c.args.worker c.args.offset c.args.generation c.args.now (delay_of c.args.delay)
    (owned s x _ (c.in-Ok.ensures.0 (made s x) w rights.nacking refl)).0 c.if-next_generation-eq-MAX.true

pub returns-then-ceiling-next_generation : goal.returns-then-ceiling-next_generation
returns-then-ceiling-next_generation c x w =
    let s = (goal.at.returns-then-ceiling-next_generation c).Start in
    nack-due (made s x) w.sound c.args.worker c.args.offset c.args.generation c.args.now (delay_of c.args.delay)
    (owned s x _ (c.in-Ok.ensures.0 (made s x) w rights.nacking refl)).0 c.if-next_generation-eq-MAX.false c.if-ceiling-next_generation.true

pub nack_at-nacked-requires : goal.nack_at-nacked-requires
nack_at-nacked-requires c =
    omega (arith, owned-used c.args.offset c.args.generation c.args.len c.args.offsets.now c.args.slots.now c.args.generations.now c.in-Ok.ensures.1, c.requires.1)

pub returns : goal.returns
returns c x w =
    let s = (goal.at.returns c).Start in
    let k = made s x in
    let o = owned s x _ (c.in-Ok.ensures.0 k w rights.nacking refl) in
    nack_requeued k w.sound c.args.worker c.args.offset c.args.generation c.args.now c.in-Ok.held.deliveries (delay_of c.args.delay)
    (nack-passed k w.sound c.args.worker c.args.offset c.args.generation c.args.now (delay_of c.args.delay) o.0 c.if-next_generation-eq-MAX.false c.if-ceiling-next_generation.false) o.1
    c.nack_delay-capped_nanos.result c.nack_delay-capped_nanos.ensures c.delay_in_hours-delay_nanos.result c.delay_in_hours-delay_nanos.ensures (answers.nack_of c.nack_at-nacked.result.outcome) _
    (c.nack_at-nacked.ensures k.table (table-whole w) c.args.offset c.args.generation c.in-Ok.ensures.1)
