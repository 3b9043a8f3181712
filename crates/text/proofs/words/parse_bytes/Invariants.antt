-- `parse_bytes` meets its contract. The loop's invariant: `count` bytes are in the list, and the digits from `at` on are left. Assumes
-- nothing.
use Prim.Native.Nat.{◌-◌, ◌≤◌}
use mathlib.Core.Path.{◌≡◌}
use lib.ListN.{length}
use Rattle.text.specs.Words.{all_hex, is_bytes}
use Rattle.text.proofs.Hex.{Decoding}
use Rattle.text.proofs.words.parse_bytes.Given as goal

abbrev pub invariant-loop-at : goal.invariant-loop-at
invariant-loop-at l = (l.at ≤ length l.word) × Decoding l.word l.initial.out l.out l.count l.at × (is_bytes l.word ≡ all_hex l.word)

abbrev pub decreases-loop-at : goal.decreases-loop-at
decreases-loop-at l = length l.word - l.at
