-- `put_pairs` meets its contract. The loop's invariant: the pairs that are left, written one by one, give what all of them gave at the
-- start. Assumes nothing.
use Prim.Native.Nat.{◌+◌}
use native.Mathlib.Omega.{arith}
use mathlib.Core.Path.{◌≡◌, sym, ◌∙◌}
use lib.ListN.{drop}
use lib.Seq.{drop-drop}
use Rattle.tables.specs.Merge.{merge}
use Rattle.attempt.proofs.PairByPair.{putting, putting-more, putting-all}
use Rattle.checkpoint.specs.Counts.{leased, carried}
use Rattle.checkpoint.proofs.Merged.{leases-left, counts-left, none_left, listed-length}
use Rattle.checkpoint.proofs.counts.Columns.put_pairs.Goals as goal

pub loop-k-preserved : goal.loop-k-preserved
loop-k-preserved g c =
    let l = c.loop-k in
    let a = c.args in
    let p = c.requires.0.listed in
    let r = c.next-next.result in
    let is = c.next-next.ensures in
    let more = putting-more (a.self.len + a.self.carried_len) a.at l.k r.offset r.attempt _ _ l.out _ is.is c.put_v2.ensures in
    record {
      leases = omega (arith, is.left, leases-left p l.i l.j, l.invariant.leases);
      counts = omega (arith, is.right, counts-left p l.i l.j, l.invariant.counts);
      taken = omega (arith, is.one, l.invariant.taken);
      long = c.put_v2.auto.out ∙ l.invariant.long;
      left = rw (← drop-drop r.left l.i (leased g.T.Number.numbers a.self), ← drop-drop r.right l.j (carried g.T.Number.numbers a.self)) (more ∙ l.invariant.left);
    }

pub returns : goal.returns
returns g c =
    let l = c.loop-k in
    let a = c.args in
    let p = c.requires.0.listed in
    let ours = leased g.T.Number.numbers a.self in
    let theirs = carried g.T.Number.numbers a.self in
    let none = none_left p l.i l.j (omega (arith, l.invariant.taken, l.invariant.leases, l.invariant.counts, c.loop-k-test.false)) (omega (arith, l.invariant.taken, l.invariant.leases, l.invariant.counts, c.loop-k-test.false)) in
    let written : putting (a.self.len + a.self.carried_len) a.at l.k (merge (drop l.i ours) (drop l.j theirs)) l.out ≡ l.out = rw none in
    sym written ∙ l.invariant.left ∙ putting-all (a.self.len + a.self.carried_len) a.at (merge ours theirs) a.out.now (listed-length p) c.requires.1
