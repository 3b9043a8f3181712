-- `lines` is safe and ends, and lists each block at its place. The invariant: what is expected at block m. Assumes nothing.
use Prim.Native.Nat.{◌-◌, ◌≤◌}
use native.Mathlib.Omega.{arith}
use mathlib.Core.Path.{◌≡◌, refl}
use lib.ListN.{length}
use Rattle.inspect.specs.Places.{place_at}
use borrow.Author.Rules.{rules}
use Rattle.inspect.proofs.listing.lines.Given as goal

abbrev pub invariant-loop-m : goal.invariant-loop-m
invariant-loop-m l = (l.m ≤ l.count) × (l.place ≡ place_at l.area l.half l.m)

abbrev pub decreases-loop-m : goal.decreases-loop-m
decreases-loop-m l = l.count - l.m
