-- `lines` is safe and ends, and lists each block at its place. The invariant: what is expected at block m. Assumes nothing.
use Prim.Native.Nat.{◌-◌, ◌≤◌}
use native.Mathlib.Omega.{arith}
use mathlib.Core.Path.{◌≡◌, refl}
use lib.ListN.{length}
use Rattle.inspect.specs.Places.{place_at}
use borrow.Author.Rules.{rules}
use Rattle.inspect.proofs.listing.lines.Goals as goal

pub loop-m-init : goal.loop-m-init
unfolding place_at
loop-m-init c = (omega arith, c.first-place.ensures)

pub row_at-said-requires : goal.row_at-said-requires
row_at-said-requires c = (omega arith, c.loop-m.invariant.1)

pub run_from-reached-requires : goal.run_from-reached-requires
run_from-reached-requires c = (omega arith, omega arith, c.loop-m.invariant.1)

pub line-requires : goal.line-requires
line-requires c = omega (arith, c.run_from-reached.ensures.further)

pub loop-m-smaller : goal.loop-m-smaller
loop-m-smaller c = omega (arith, c.run_from-reached.ensures.further)

pub loop-m-preserved : goal.loop-m-preserved
loop-m-preserved c =
    let reached = c.run_from-reached.ensures in (reached.inside, reached.place)
