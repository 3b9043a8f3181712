-- `put` meets its contract: what is opened, filled and sealed is the snapshot of both lists merged. Assumes nothing.
use Prim.Native.Nat.{◌+◌}
use Rattle.tables.specs.Merge.{merge}
use Rattle.attempt.proofs.PairByPair.{pairs-encoded}
use Rattle.checkpoint.specs.Counts.{leased, carried}
use Rattle.checkpoint.proofs.Merged.{listed-length}
use Rattle.checkpoint.proofs.counts.Columns.put.Goals as goal

pub returns : goal.returns
returns g c =
    let a = c.args in
    pairs-encoded (merge (leased g.T.Number.numbers a.self) (carried g.T.Number.numbers a.self)) (a.self.len + a.self.carried_len) a.at a.out.now
    c.open_v2.new.out c.put_pairs.new.out _ (listed-length c.requires.0.listed) c.requires.1 c.requires.2 c.open_v2.ensures c.put_pairs.ensures c.seal_v2.ensures
