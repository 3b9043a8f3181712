-- `ninotskev_bench_claims_and_acks` meets its contract. The loop's invariant: the turns from i on lead from table and cursor to
-- the end. Assumes nothing.
use native.Mathlib.Nat.{sub-zero}
use mathlib.Core.Path.{◌≡◌, sym, ap, ◌∙◌}
use Rattle.cursor.specs.View as cursor
use Rattle.lease.specs.State.{view}
use Rattle.bench.specs.Drivers.{group, handled, stand_of}
use Rattle.bench.proofs.Drivers.{left_by, works-next, works-over}
use Rattle.bench.proofs.ninotskev_bench_claims_and_acks.Goals as goal

pub loop-i-init : goal.loop-i-init
loop-i-init c =
    let t = c.claim_below-table.ensures in
    (t.sound, c.new-cursor.ensures.sound, rw (t.is, c.new-cursor.ensures.is) (simp sub-zero))

pub claim-claimed-requires : goal.claim-claimed-requires
claim-claimed-requires c = c.loop-i.invariant.0

pub ack-released-requires : goal.ack-released-requires
ack-released-requires c = c.claim-claimed.ensures.sound

pub ack-acked-requires : goal.ack-acked-requires
ack-acked-requires c = c.loop-i.invariant.1

pub loop-i-preserved : goal.loop-i-preserved
loop-i-preserved c =
    let s = c.args in
    let next = works-next s.window (group (view c.loop-i.table) (cursor.view c.loop-i.cursor)) c.loop-i.i s.n c.loop-i-test.true in
    let turn : group (view c.ack-released.result.table) (cursor.view c.ack-acked.result.cursor) ≡ handled s.window (group (view c.loop-i.table) (cursor.view c.loop-i.cursor)) c.loop-i.i =
    rw (left_by c.ack-released.ensures.is, left_by c.claim-claimed.ensures.is, left_by c.ack-acked.ensures.is) in
    (c.ack-released.ensures.sound, c.ack-acked.ensures.sound, rw turn (sym next) ∙ c.loop-i.invariant.2)

pub in_flight-requires : goal.in_flight-requires
in_flight-requires c = c.loop-i.invariant.0

pub returns : goal.returns
returns c =
    let s = c.args in
    rw c.in_flight.ensures (ap stand_of (sym (works-over s.window (group (view c.loop-i.table) (cursor.view c.loop-i.cursor)) c.loop-i.i s.n c.loop-i-test.false) ∙ c.loop-i.invariant.2))
