-- `check_pairs` meets its contract. The loop's invariant: what the pairs that are left answer behind the last offset is
-- what all of them answer. Assumes nothing.
use Prim.Native.Nat.{ℕ}
use native.Mathlib.Omega.{arith}
use mathlib.Core.Path.{◌≡◌, sym, ap, ◌∙◌}
use Rattle.types.specs.Refusal.{done}
use Rattle.types.specs.Table.{checked}
use Rattle.raw.specs.Bytes.{number_at}
use Rattle.attempt.specs.Snapshot.{apart, offset_at, pairs_as, limit_table, pairs_table}
use Rattle.attempt.specs.Versions.{byte_of}
use Rattle.attempt.proofs.Reading.{falls, rises, ordered, order-start, too_many, few}
use Rattle.attempt.proofs.check_pairs.Goals as goal
use Rattle.attempt.proofs.check_pairs.Goals.{After-loop-i, After-read_u64-offset}

-- after the loop only the row of 19, which stands behind the pairs, is left
end : (c : After-loop-i)
    → let a = c.args in
    checked (limit_table (pairs_as (byte_of a.version) a.count a.input.now)) (done a.count)
    ≡ checked (pairs_table (pairs_as (byte_of a.version) a.count a.input.now)) (done a.count)
end c =
    let a = c.args in
    let l = c.loop-i in
    sym (ordered (apart (byte_of a.version)) a.input.now a.count l.i l.prev (limit_table (pairs_as (byte_of a.version) a.count a.input.now)) (omega arith)) ∙ l.invariant

-- the offset that a turn reads
offset : (c : After-read_u64-offset)
    → c.read_u64-offset.result ≡ number_at 8 (offset_at (apart (byte_of c.args.version)) c.loop-i.i) c.args.input.now
offset c = c.read_u64-offset.ensures ∙ ap (λ (k : ℕ). number_at 8 k c.args.input.now) c.offset_at.ensures

pub loop-i-init : goal.loop-i-init
loop-i-init c =
    let a = c.args in
    rw c.read_u64-prev.ensures (sym (order-start (apart (byte_of a.version)) a.input.now a.count (limit_table (pairs_as (byte_of a.version) a.count a.input.now))))

pub returns-then-offset-prev : goal.returns-then-offset-prev
returns-then-offset-prev c =
    let a = c.args in
    let l = c.loop-i in
    let law = falls (apart (byte_of a.version)) a.input.now a.count l.i l.prev (limit_table (pairs_as (byte_of a.version) a.count a.input.now)) (omega arith) in
    let read = offset (goal.at.returns-then-offset-prev c).After-read_u64-offset in
    rw read (sym (law (rw read at c.if-offset-prev.true)) ∙ l.invariant)

pub loop-i-preserved : goal.loop-i-preserved
loop-i-preserved c =
    let a = c.args in
    let l = c.loop-i in
    let law = rises (apart (byte_of a.version)) a.input.now a.count l.i l.prev (limit_table (pairs_as (byte_of a.version) a.count a.input.now)) (omega arith) in
    let read = offset (goal.at.loop-i-preserved c).After-read_u64-offset in
    rw read (sym (law (rw read at c.if-offset-prev.false)) ∙ l.invariant)

pub returns-then-count-gt-PAIRS : goal.returns-then-count-gt-PAIRS
returns-then-count-gt-PAIRS c =
    sym (too_many (byte_of c.args.version) c.args.count c.args.input.now c.if-count-gt-PAIRS.true) ∙ end (goal.at.returns-then-count-gt-PAIRS c).After-loop-i

pub returns : goal.returns
returns c =
    sym (few (byte_of c.args.version) c.args.count c.args.input.now c.if-count-gt-PAIRS.false) ∙ end (goal.at.returns c).After-loop-i
