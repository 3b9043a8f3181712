-- `carried_counts` meets its contract. The loop's invariant: the first i places hold the first i offsets
-- and counts. Assumes nothing.
use Prim.Native.Nat.{ℕ, ◌+◌, ◌<◌}
use native.Mathlib.Omega.{arith}
use mathlib.Core.Path.{subst}
use mathlib.Core.List.{List}
use lib.ListN.{set, replicate}
use Rattle.types.specs.Limits.{CARRIED}
use Rattle.types.proofs.Loops.{Filling, filling-more}
use Rattle.words.specs.Columns.{word}
use Rattle.words.proofs.Columns.{column-at}
use Rattle.lease.specs.Layout.{CARRIED-LEN, CARRIED-OFFSETS, CARRIED-COUNTS, table_in}
use Rattle.lease.proofs.Bounds.{within}
use Rattle.lease.proofs.InWords.{whole, carried_narrow}
use Rattle.lease.proofs.listings.carried_counts.Goals as goal

abbrev zeros : List ℕ
zeros = replicate 128 0

pub overflow_cast-counts : goal.overflow_cast-counts
overflow_cast-counts c =
    omega (arith, carried_narrow c.requires c.loop-i.i c.loop-i-test.true)

pub loop-i-preserved : goal.loop-i-preserved
loop-i-preserved c =
    let w = c.args.table.now in
    let x = table_in w in
    let i = c.loop-i.i in
    let n = word CARRIED-LEN w in
    let few = c.requires.table.carried-len in
    let full = (whole c.requires).full in
    let low : i < CARRIED = omega (arith, c.loop-i-test.true, few) in (
      subst (λ (v : ℕ). Filling x.carried_offsets zeros (set c.loop-i.offsets i v) n (i + 1)) (column-at CARRIED-OFFSETS CARRIED w i low)
          (filling-more 0 (within full.carried-offsets few) c.loop-i-test.true c.loop-i.invariant.0),
      subst (λ (v : ℕ). Filling x.carried_counts zeros (set c.loop-i.counts i v) n (i + 1)) (column-at CARRIED-COUNTS CARRIED w i low)
          (filling-more 0 (within full.carried-counts few) c.loop-i-test.true c.loop-i.invariant.1),
    )
