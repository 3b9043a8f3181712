-- `LeaseTable::resumed` meets its contract. Assumes nothing.
use native.Mathlib.Omega.{arith}
use mathlib.Core.Path.{◌≡◌, refl}
use lib.ListN.{length}
use borrow.Author.Rules.{rules}
use Rattle.types.specs.Limits.{CARRIED}
use Rattle.types.proofs.Columns.{length-used}
use Rattle.lease.proofs.Carried.{resumed}
use Rattle.lease.proofs.LeaseTable.resumed.Goals as goal

pub returns : goal.returns
returns c =
    let held = c.args.carried in
    let f : length held.offsets ≡ CARRIED = search rules in
    let g : length held.counts ≡ CARRIED = search rules in
    let n = length-used 0 held.len held.offsets held.counts (omega (arith, c.requires.1.few)) (omega (arith, c.requires.1.few)) in
    resumed c.args.self c.requires.0 held c.requires.1 c.if-carried.false (omega (arith, n, c.requires.1.few)) (record { len = c.requires.0.len; carried-len = c.requires.1.few; slots = c.requires.0.slots; is = refl })
