-- `release_counts` meets its contract. Assumes nothing.
use Prim.Native.Nat.{◌-◌}
use native.Mathlib.Omega.{arith}
use mathlib.Core.Path.{◌≡◌}
use Rattle.types.specs.Limits.{CARRIED}
use Rattle.words.specs.Columns.{word}
use Rattle.words.proofs.Columns.{column-is}
use Rattle.lease.specs.Layout.{CARRIED-LEN, CARRIED-OFFSETS}
use Rattle.lease.proofs.Stores.{carried-taken}
use Rattle.lease.proofs.stored.release_counts.Goals as goal

pub returns : goal.returns
returns c =
    let w = c.args.table.now in
    let n = word CARRIED-LEN w in
    let to = c.position-to.result in
    let less : n - to ≡ n - (to - 0) = omega arith in
    record {
      to = to;
      at = rw (column-is CARRIED-OFFSETS CARRIED w) at c.position-to.ensures;
      is = carried-taken w c.requires.0 c.remove.new.column c.table-1.given.0 c.remove-2.new.column c.table-2-1.given.0
          (record { from = 0; to = to; count = 0 }) (n - to) less c.remove.ensures c.remove-2.ensures;
    }
