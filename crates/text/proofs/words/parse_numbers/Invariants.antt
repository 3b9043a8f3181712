-- `parse_numbers` meets its contract. The loop's invariant: at a word's end, the words behind it are those left to gather.
-- Assumes nothing.
use Prim.Native.Nat.{◌-◌, ◌≤◌}
use mathlib.Core.Path.{◌≡◌}
use lib.ListN.{length, drop}
use Rattle.text.specs.Words.{SPACE, length_to, later_words}
use Rattle.text.proofs.Parsing.{Gathering}
use Rattle.text.proofs.words.parse_numbers.Given as goal

abbrev pub invariant-loop-at : goal.invariant-loop-at
invariant-loop-at l =
    (l.count ≤ l.at) × (length_to SPACE (drop l.at l.line) ≡ 0) ×
    Gathering (later_words (drop l.from l.line)) l.initial.out l.out l.count (later_words (drop l.at l.line))

abbrev pub decreases-loop-at : goal.decreases-loop-at
decreases-loop-at l = length l.line - l.at
