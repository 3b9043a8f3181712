-- Different refusals have different numbers, none of them 0: each is made again from its number and its values. Assumes nothing.
use Prim.Native.Nat.{ℕ, ◌-◌}
use native.Mathlib.Omega.{arith}
use mathlib.Core.Path.{◌≡◌, refl, sym, ap, ◌∙◌}
use mathlib.Core.List.{List, [], ◌∷◌}
use lib.ListN.{length, get_or}
use Rattle.types.specs.Refusal.{Refusal, UnlimitedDeliverNotAllowed, TooManySteps, ZeroThreshold, BadArea, Damaged, CursorTruncated, CursorBadLength, CursorUnsupportedVersion, CursorBadCrc, EmptyRange, NotSortedDisjointAndAboveCommitted, TooManyRuns, AttemptTruncated, AttemptUnsupportedVersion, AttemptBadLength, CountMismatch, AttemptBadCrc, NotSorted, TooManyPairs, OutTooShort, LastOffset, Settled, InFlight, Fenced, Exhausted, CheckpointDue, Full, CapReached, Shed, Held, JournalFull, BoundsReversed, BadHours, NeverOpen, Closed, UnequalLengths, Falling, UnknownWorker, NotPermitted, ForeignToken, numbered, NumberedApart}

-- a refusal without values, with one and with two
abbrev plain : Refusal → List ℕ → Refusal
plain r vs = r

abbrev one : (ℕ → Refusal) → List ℕ → Refusal
one f vs = f (get_or vs 0 0)

abbrev two : (ℕ → ℕ → Refusal) → List ℕ → Refusal
two f vs = f (get_or vs 0 0) (get_or vs 1 0)

-- what stands for a number that no refusal has
abbrev unused : List ℕ → Refusal
unused = plain JournalFull

-- the refusals in order
abbrev in_order : List (List ℕ → Refusal)
in_order =
    plain UnlimitedDeliverNotAllowed ∷ plain TooManySteps ∷ plain ZeroThreshold ∷ plain BadArea ∷ one Damaged
    ∷ plain CursorTruncated ∷ one CursorBadLength ∷ one CursorUnsupportedVersion ∷ plain CursorBadCrc ∷ two EmptyRange
    ∷ two NotSortedDisjointAndAboveCommitted ∷ plain TooManyRuns
    ∷ plain AttemptTruncated ∷ one AttemptUnsupportedVersion ∷ one AttemptBadLength ∷ two CountMismatch ∷ plain AttemptBadCrc
    ∷ two NotSorted ∷ plain TooManyPairs ∷ plain OutTooShort
    ∷ plain LastOffset ∷ plain Settled ∷ plain InFlight ∷ plain Fenced ∷ plain Exhausted ∷ plain CheckpointDue ∷ plain Full
    ∷ plain CapReached ∷ plain Shed ∷ plain Held ∷ plain JournalFull
    ∷ plain BoundsReversed ∷ plain BadHours ∷ plain NeverOpen ∷ one Closed ∷ plain UnequalLengths ∷ one Falling
    ∷ plain UnknownWorker ∷ plain NotPermitted ∷ plain ForeignToken ∷ []

abbrev made : ℕ → List ℕ → Refusal
made n vs = get_or in_order (n - 1) unused vs

-- the refusal again, and as many values as its number has
abbrev Again : Refusal → Type 0
Again r =
    (made (numbered r).number (numbered r).values ≡ r) ×
    (length (numbered (made (numbered r).number [])).values ≡ length (numbered r).values)

again : (r : Refusal) → Again r
again UnlimitedDeliverNotAllowed = (refl, refl)
again TooManySteps = (refl, refl)
again ZeroThreshold = (refl, refl)
again BadArea = (refl, refl)
again (Damaged x) = (refl, refl)
again CursorTruncated = (refl, refl)
again (CursorBadLength x) = (refl, refl)
again (CursorUnsupportedVersion x) = (refl, refl)
again CursorBadCrc = (refl, refl)
again (EmptyRange x y) = (refl, refl)
again (NotSortedDisjointAndAboveCommitted x y) = (refl, refl)
again TooManyRuns = (refl, refl)
again AttemptTruncated = (refl, refl)
again (AttemptUnsupportedVersion x) = (refl, refl)
again (AttemptBadLength x) = (refl, refl)
again (CountMismatch x y) = (refl, refl)
again AttemptBadCrc = (refl, refl)
again (NotSorted x y) = (refl, refl)
again TooManyPairs = (refl, refl)
again OutTooShort = (refl, refl)
again LastOffset = (refl, refl)
again Settled = (refl, refl)
again InFlight = (refl, refl)
again Fenced = (refl, refl)
again Exhausted = (refl, refl)
again CheckpointDue = (refl, refl)
again Full = (refl, refl)
again CapReached = (refl, refl)
again Shed = (refl, refl)
again Held = (refl, refl)
again JournalFull = (refl, refl)
again BoundsReversed = (refl, refl)
again BadHours = (refl, refl)
again NeverOpen = (refl, refl)
again (Closed x) = (refl, refl)
again UnequalLengths = (refl, refl)
again (Falling x) = (refl, refl)
again UnknownWorker = (refl, refl)
again NotPermitted = (refl, refl)
again ForeignToken = (refl, refl)

pub numbered-apart : NumberedApart
unfolding NumberedApart
numbered-apart r q e =
    record {
      as_many = sym (again r).1 ∙ rw e (again q).1;
      same = λ v. sym (again r).0 ∙ rw (e, v) (again q).0;
    }

-- 0 is the number of an outcome: a refusal of that number would be the first, whose number is 1
pub number_not_0 : (r : Refusal) → (numbered r).number ≡ 0 → ⊥
number_not_0 r e =
    let first : UnlimitedDeliverNotAllowed ≡ r = rw e at (again r).0 in
    omega (arith, e, ap (λ (q : Refusal). (numbered q).number) first)
