-- `find` meets its contract. The loop's invariant: the place that is looked for is the same from i on. Assumes nothing.
use Prim.Native.Nat.{◌+◌}
use mathlib.Core.Path.{◌≡◌}
use lib.ListN.{drop}
use Rattle.text.specs.Words.{length_to}
use Rattle.text.proofs.words.find.Given as goal

abbrev pub invariant-loop-i : goal.invariant-loop-i
invariant-loop-i l = l.i + length_to l.c (drop l.i l.bytes) ≡ l.from + length_to l.c (drop l.from l.bytes)
