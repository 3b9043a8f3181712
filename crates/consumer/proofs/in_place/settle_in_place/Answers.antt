-- `settle_in_place` meets its contract: the token's test, the cursor's, then the effect, on every consumer that has the parts that it is
-- lent. Assumes nothing.
use mathlib.Core.Path.{◌≡◌, refl, sym, ◌∙◌}
use Prim.Native.Nat.{ℕ}
use Rattle.types.specs.Refusal.{done}
use Rattle.types.specs.Refused.{refusal_of}
use Rattle.types.specs.Table.{Passed, checked}
use Rattle.cursor.specs.Answers as cursor
use Rattle.cursor.specs.View.{ack_cursor}
use Rattle.consumer.specs.Rights as rights
use Rattle.consumer.specs.Calls.{token_rows, attempt_of}
use Rattle.consumer.specs.Parts.{settling}
use Rattle.consumer.specs.View.{view}
use Rattle.consumer.specs.declared.Consumer.{Consumer}
use Rattle.consumer.proofs.CallsReturns.{table-whole}
use Rattle.consumer.proofs.CallsToken.{first-refused, test-passed, ack-refused, ack-shed, ack-settled}
use Rattle.lease.proofs.Tokens.{owned-used}
use Rattle.consumer.proofs.in_place.settle_in_place.Goals as goal
use Rattle.consumer.proofs.in_place.settle_in_place.Goals.{Start}

-- a consumer with the parts that the arguments are
abbrev made : Start → Consumer → Consumer
made s =
    settling s.args.rights.now (ack_cursor s.args.committed s.args.starts.now s.args.ends.now s.args.runs) s.args.len s.args.offsets.now
    s.args.slots.now s.args.generations.now s.args.deliveries.now s.args.workers.now

-- the token's rows are passed
owned : (s : Start) (x : Consumer) (n : ℕ) → let k = view (made s x) in
    done n ≡ checked (token_rows k s.args.worker rights.settling s.args.offset s.args.generation) (done (attempt_of k s.args.offset))
    → Passed (token_rows k s.args.worker rights.settling s.args.offset s.args.generation)
owned s x n e =
    let k = view (made s x) in
    (test-passed (token_rows k s.args.worker rights.settling s.args.offset s.args.generation) n (attempt_of k s.args.offset) e).0

pub returns-in-Err : goal.returns-in-Err
returns-in-Err c x w =
    let k = made (goal.at.returns-in-Err c).Start x in
    let r = refusal_of c.in-Err.refusal in
    ack-refused k w.sound c.args.worker c.args.offset c.args.generation r
    (first-refused (token_rows (view k) c.args.worker rights.settling c.args.offset c.args.generation) (attempt_of (view k) c.args.offset) r (c.in-Err.ensures.0 k w rights.settling refl))

pub returns-then-is_shed : goal.returns-then-is_shed
returns-then-is_shed c x w =
    let s = (goal.at.returns-then-is_shed c).Start in
    ack-shed (made s x) w.sound c.args.worker c.args.offset c.args.generation (owned s x _ (c.in-Ok.ensures.0 (made s x) w rights.settling refl))
    (cursor.ack_of c.ack_in_place-noted.result.outcome) _ c.ack_in_place-noted.ensures (sym c.is_shed.ensures ∙ c.if-is_shed.true)

pub ack_at-left-requires : goal.ack_at-left-requires
ack_at-left-requires c =
    (owned-used c.args.offset c.args.generation c.args.len c.args.offsets.now c.args.slots.now c.args.generations.now c.in-Ok.ensures.1, c.requires.1)

pub returns : goal.returns
returns c x w =
    let s = (goal.at.returns c).Start in
    ack-settled (made s x) w.sound c.args.worker c.args.offset c.args.generation (owned s x _ (c.in-Ok.ensures.0 (made s x) w rights.settling refl))
    (cursor.ack_of c.ack_in_place-noted.result.outcome) _ c.ack_in_place-noted.ensures (sym c.is_shed.ensures ∙ c.if-is_shed.false)
    (done tt) _ (c.ack_at-left.ensures (made s x).table (table-whole w) c.args.offset c.args.generation c.in-Ok.ensures.1)
