-- `put_pairs` meets its contract. The loop's invariant: the pairs that are left, written one by one, give what all of them gave at the
-- start. Assumes nothing.
use Rattle.std.proofs.Common.{◌+◌, ◌≤◌, ◌≡◌, length, drop}
use Rattle.tables.specs.Merge.{merge}
use Rattle.attempt.proofs.PairByPair.{putting}
use Rattle.checkpoint.specs.Counts.{leased, carried}
use Rattle.checkpoint.proofs.counts.Columns.put_pairs.Given as goal

abbrev pub invariant-loop-k : goal.invariant-loop-k
invariant-loop-k g l =
    let ours = leased g.T.Number.numbers l.self in
    let theirs = carried g.T.Number.numbers l.self in
    record {
      leases : l.i ≤ l.self.len;
      counts : l.j ≤ l.self.carried_len;
      taken : l.i + l.j ≡ l.k;
      long : length l.out ≡ length l.initial.out;
      left : putting (l.self.len + l.self.carried_len) l.at l.k (merge (drop l.i ours) (drop l.j theirs)) l.out ≡ putting (l.self.len + l.self.carried_len) l.at 0 (merge ours theirs) l.initial.out;
    }
