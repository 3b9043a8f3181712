-- How the code's types stand for pairs and for answers, and the parts of the contracts.
-- SPEC.md, "Attempt snapshot".
use Rattle.std.specs.Prelude.{ℕ, List, [], ◌∷◌, map, ltb, take, replicate, Result, Ok, Err}
use Rattle.types.specs.Limits.{PAIRS}
use Rattle.types.specs.Refusal as refusal
use Rattle.types.specs.Table.{◌⇒◌, Answer, answer, guarded}
use Rattle.types.specs.Keyed.{Entry}
use Rattle.types.specs.Lists.{pair, entries_of}
use Rattle.types.specs.declared.Pair.{Pair}
use Rattle.attempt.specs.Snapshot.{encode_version}
use Rattle.attempt.specs.declared.AttemptSnapshotError.{AttemptSnapshotError}
use Rattle.attempt.specs.declared.AttemptSnapshotError.TheVariants.{Truncated, UnsupportedVersion, BadLength, CountMismatch}
use Rattle.attempt.specs.declared.AttemptSnapshotError.TheVariants.{BadCrc, NotSorted, TooManyPairs}
use Rattle.attempt.specs.declared.Decoded.{Decoded}

-- an array without pairs
abbrev pub nil : Pair
nil = pair 0 0

unfoldable pub blank : List Pair
blank = replicate 128 nil

-- the numbers of pairs in two columns
abbrev pub offsets_of : List (Entry ℕ) → List ℕ
offsets_of = map (λ e. e.key)

abbrev pub attempts_of : List (Entry ℕ) → List ℕ
attempts_of = map (λ e. e.value)

-- the refusal that an error is, and what a check answers: it, or the number of pairs
abbrev pub attempt_error : AttemptSnapshotError → refusal.Refusal
attempt_error Truncated = refusal.AttemptTruncated
attempt_error (UnsupportedVersion version) = refusal.AttemptUnsupportedVersion version
attempt_error (BadLength len) = refusal.AttemptBadLength len
attempt_error (CountMismatch declared actual) = refusal.CountMismatch declared actual
attempt_error BadCrc = refusal.AttemptBadCrc
attempt_error (NotSorted offset prev) = refusal.NotSorted offset prev
attempt_error TooManyPairs = refusal.TooManyPairs

abbrev pub decode_of : Result ℕ AttemptSnapshotError → refusal.Result ℕ
decode_of (Ok count) = refusal.done count
decode_of (Err error) = refusal.refused (attempt_error error)

-- the pairs that were decoded into an array without pairs
abbrev pub decoded_of : Result Decoded AttemptSnapshotError → Answer ℕ (List (Entry ℕ))
decoded_of (Ok r) = answer (refusal.done r.count) (entries_of r.pairs)
decoded_of (Err error) = answer (refusal.refused (attempt_error error)) (entries_of blank)

-- encoding the first n pairs of an array of 128: over 128 is 19
abbrev pub encode_front : ℕ → ℕ → List Pair → ℕ → List ℕ → Answer ℕ (List ℕ)
encode_front version n pairs at out =
    guarded (ltb PAIRS n ⇒ refusal.TooManyPairs ∷ []) out (encode_version version (entries_of (take n pairs)) at out)

abbrev pub encode_first : ℕ → List Pair → ℕ → List ℕ → Answer ℕ (List ℕ)
encode_first n pairs at out = encode_front 1 n pairs at out

abbrev pub encode_first2 : ℕ → List Pair → ℕ → List ℕ → Answer ℕ (List ℕ)
encode_first2 n pairs at out = encode_front 2 n pairs at out
