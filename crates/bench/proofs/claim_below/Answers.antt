-- `claim_below` meets its contract. The loop's invariant: the claims from i on lead from the table to the end. Assumes nothing.
use native.Mathlib.Nat.{sub-zero}
use mathlib.Core.Path.{sym, ◌∙◌}
use Rattle.lease.specs.State.{view}
use Rattle.bench.proofs.Drivers.{left_by, claims-next, claims-over}
use Rattle.bench.proofs.claim_below.Goals as goal

pub loop-i-init : goal.loop-i-init
loop-i-init c = (c.new-table.ensures.sound, rw (c.new-table.ensures.is, c.default.ensures) (simp sub-zero))

pub claim-requires : goal.claim-requires
claim-requires c = c.loop-i.invariant.0

pub loop-i-preserved : goal.loop-i-preserved
loop-i-preserved c =
    let n = c.args.n in
    let u = c.claim.ensures in
    (u.sound, rw (left_by u.is) (sym (claims-next (view c.loop-i.table) c.loop-i.i n c.loop-i-test.true)) ∙ c.loop-i.invariant.1)

pub returns : goal.returns
returns c =
    record {
      is = sym (claims-over (view c.loop-i.table) c.loop-i.i c.args.n c.loop-i-test.false) ∙ c.loop-i.invariant.1;
      sound = c.loop-i.invariant.0;
    }
