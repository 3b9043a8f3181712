-- `highest_named` meets its contract. The invariant: the greatest group named up to block i, and the greatest one from there on, are
-- together the greatest of all. Assumes nothing.
use Prim.Native.Nat.{◌-◌, ◌/◌, max}
use native.Mathlib.Omega.{arith}
use mathlib.Core.Path.{◌≡◌, ap, ◌∙◌}
use lib.ListN.{length}
use borrow.Author.Rules.{rules}
use Rattle.inspect.specs.Missed.{named_by}
use Rattle.inspect.proofs.Sequence.{part-is-block}
use Rattle.inspect.proofs.Named.{HighestTo, highest_begins, highest_on_lem, highest_ends}
use Rattle.inspect.proofs.missed.highest_named.Given as goal

abbrev pub invariant-loop-i : goal.invariant-loop-i
invariant-loop-i l = HighestTo l.area l.end l.number l.i
