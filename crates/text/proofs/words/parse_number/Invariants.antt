-- `parse_number` meets its contract. The loop's invariant: the word's number is that of the digits from the next one on behind n. Assumes nothing.
use Prim.Native.Nat.{◌≤◌}
use mathlib.Core.Path.{◌≡◌}
use lib.ListN.{drop}
use Rattle.types.specs.Limits.{MAX}
use Rattle.text.specs.Words.{number}
use Rattle.text.proofs.Parsing.{number_from}
use Rattle.text.proofs.words.parse_number.Given as goal

abbrev pub invariant-loop-c : goal.invariant-loop-c
invariant-loop-c l = (l.n ≤ MAX) × (number l.word ≡ number_from l.n (drop l.c-index l.word))
