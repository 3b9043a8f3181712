-- The refusals, each with its number and its values, and what a call
-- answers: a refusal, or an outcome of its own, which has number 0.
-- SPEC.md, "Refusals".
use Rattle.std.specs.Prelude.{ℕ, ◌≡◌, List, [], ◌∷◌, length}
use Rattle.std.proofs.Math.Option.{Option, none, some}

pub data Refusal : Type 0 where
  UnlimitedDeliverNotAllowed : Refusal
  TooManySteps : Refusal
  ZeroThreshold : Refusal
  BadArea : Refusal
  -- the block, counted from 0
  Damaged : ℕ → Refusal
  CursorTruncated : Refusal
  -- the length
  CursorBadLength : ℕ → Refusal
  -- the version byte
  CursorUnsupportedVersion : ℕ → Refusal
  CursorBadCrc : Refusal
  -- start and end
  EmptyRange : ℕ → ℕ → Refusal
  -- start and the end before it
  NotSortedDisjointAndAboveCommitted : ℕ → ℕ → Refusal
  TooManyRuns : Refusal
  AttemptTruncated : Refusal
  -- the version byte
  AttemptUnsupportedVersion : ℕ → Refusal
  -- the length
  AttemptBadLength : ℕ → Refusal
  -- the count declared and the actual one
  CountMismatch : ℕ → ℕ → Refusal
  AttemptBadCrc : Refusal
  -- the offset and the one before it
  NotSorted : ℕ → ℕ → Refusal
  TooManyPairs : Refusal
  OutTooShort : Refusal
  LastOffset : Refusal
  Settled : Refusal
  InFlight : Refusal
  Fenced : Refusal
  Exhausted : Refusal
  CheckpointDue : Refusal
  Full : Refusal
  CapReached : Refusal
  Shed : Refusal
  -- nothing meets it any longer
  Held : Refusal
  JournalFull : Refusal
  -- an interval whose first bound is above its second
  BoundsReversed : Refusal
  -- bits above 47 or a shift of a week or more; a week with no open half hour; the clock of the next opening
  BadHours : Refusal
  NeverOpen : Refusal
  Closed : ℕ → Refusal
  -- lists of unequal length; the place of the second member of the first falling pair, from 0
  UnequalLengths : Refusal
  Falling : ℕ → Refusal
  -- there is no worker of that number; the worker may not do that; the token is another worker's
  UnknownWorker : Refusal
  NotPermitted : Refusal
  ForeignToken : Refusal

-- the code of an answer: the refusal's number, which is 0 where nothing was refused, and the values
pub record Code : Type 0 where
  pub number : ℕ
  pub values : List ℕ

abbrev pub code : ℕ → List ℕ → Code
code n vs = record { number = n; values = vs }

abbrev pub numbered : Refusal → Code
numbered UnlimitedDeliverNotAllowed = code 1 []
numbered TooManySteps = code 2 []
numbered ZeroThreshold = code 3 []
numbered BadArea = code 4 []
numbered (Damaged block) = code 5 (block ∷ [])
numbered CursorTruncated = code 6 []
numbered (CursorBadLength len) = code 7 (len ∷ [])
numbered (CursorUnsupportedVersion version) = code 8 (version ∷ [])
numbered CursorBadCrc = code 9 []
numbered (EmptyRange start end) = code 10 (start ∷ end ∷ [])
numbered (NotSortedDisjointAndAboveCommitted start prev-end) = code 11 (start ∷ prev-end ∷ [])
numbered TooManyRuns = code 12 []
numbered AttemptTruncated = code 13 []
numbered (AttemptUnsupportedVersion version) = code 14 (version ∷ [])
numbered (AttemptBadLength len) = code 15 (len ∷ [])
numbered (CountMismatch declared actual) = code 16 (declared ∷ actual ∷ [])
numbered AttemptBadCrc = code 17 []
numbered (NotSorted offset prev-offset) = code 18 (offset ∷ prev-offset ∷ [])
numbered TooManyPairs = code 19 []
numbered OutTooShort = code 20 []
numbered LastOffset = code 21 []
numbered Settled = code 22 []
numbered InFlight = code 23 []
numbered Fenced = code 24 []
numbered Exhausted = code 25 []
numbered CheckpointDue = code 26 []
numbered Full = code 27 []
numbered CapReached = code 28 []
numbered Shed = code 29 []
numbered Held = code 30 []
numbered JournalFull = code 31 []
numbered BoundsReversed = code 32 []
numbered BadHours = code 33 []
numbered NeverOpen = code 34 []
numbered (Closed opening) = code 35 (opening ∷ [])
numbered UnequalLengths = code 36 []
numbered (Falling place) = code 37 (place ∷ [])
numbered UnknownWorker = code 38 []
numbered NotPermitted = code 39 []
numbered ForeignToken = code 40 []

-- refusals of one number differ in their values alone: they have as many, and with the same ones they are the same
pub record OneKind (r q : Refusal) : Type 0 where
  pub as_many : length (numbered r).values ≡ length (numbered q).values
  pub same : (numbered r).values ≡ (numbered q).values → r ≡ q

-- different refusals have different numbers
unfoldable pub NumberedApart : Type 0
NumberedApart = (r q : Refusal) → (numbered r).number ≡ (numbered q).number → OneKind r q

-- what a call answers
pub data Result (A : Type 0) : Type 0 where
  refused : Refusal → Result A
  done : A → Result A

-- the values of a number that may be missing
abbrev pub optional : Option ℕ → List ℕ
optional none = []
optional (some n) = n ∷ []

-- the number and the values of an answer, given the values of its outcomes
abbrev pub answered : {A : Type 0} → (A → List ℕ) → Result A → Code
answered values (refused r) = numbered r
answered values (done a) = code 0 (values a)
