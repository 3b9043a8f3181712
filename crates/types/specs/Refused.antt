-- How the code's refusals and results stand for those of the definitions.
-- SPEC.md, "Refusals".
use Rattle.std.specs.Prelude.{ℕ, Option, Some, None, Ok, Err}
use Rattle.std.specs.Prelude as std
use Rattle.std.proofs.Math.Option as math
use Rattle.types.specs.Refusal.{Refusal, Result, refused, done, UnlimitedDeliverNotAllowed, TooManySteps, ZeroThreshold, BadArea, Damaged, CursorTruncated, CursorBadLength, CursorUnsupportedVersion, CursorBadCrc, EmptyRange, NotSortedDisjointAndAboveCommitted, TooManyRuns, AttemptTruncated, AttemptUnsupportedVersion, AttemptBadLength, CountMismatch, AttemptBadCrc, NotSorted, TooManyPairs, OutTooShort, LastOffset, Settled, InFlight, Fenced, Exhausted, CheckpointDue, Full, CapReached, Shed, JournalFull, BoundsReversed, BadHours, NeverOpen, Closed, UnequalLengths, Falling, UnknownWorker, NotPermitted, ForeignToken}
use Rattle.types.specs.declared.refusals.Refusal as code_refusal
use Rattle.types.specs.declared.refusals.Refusal.TheVariants as code

abbrev pub refusal_of : code_refusal.Refusal → Refusal
refusal_of code.UnlimitedDeliverNotAllowed = UnlimitedDeliverNotAllowed
refusal_of code.TooManySteps = TooManySteps
refusal_of code.ZeroThreshold = ZeroThreshold
refusal_of code.BadArea = BadArea
refusal_of (code.Damaged block) = Damaged block
refusal_of code.CursorTruncated = CursorTruncated
refusal_of (code.CursorBadLength len) = CursorBadLength len
refusal_of (code.CursorUnsupportedVersion version) = CursorUnsupportedVersion version
refusal_of code.CursorBadCrc = CursorBadCrc
refusal_of (code.EmptyRange start end) = EmptyRange start end
refusal_of (code.NotSortedDisjointAndAboveCommitted start prev_end) = NotSortedDisjointAndAboveCommitted start prev_end
refusal_of code.TooManyRuns = TooManyRuns
refusal_of code.AttemptTruncated = AttemptTruncated
refusal_of (code.AttemptUnsupportedVersion version) = AttemptUnsupportedVersion version
refusal_of (code.AttemptBadLength len) = AttemptBadLength len
refusal_of (code.CountMismatch declared actual) = CountMismatch declared actual
refusal_of code.AttemptBadCrc = AttemptBadCrc
refusal_of (code.NotSorted offset prev_offset) = NotSorted offset prev_offset
refusal_of code.TooManyPairs = TooManyPairs
refusal_of code.OutTooShort = OutTooShort
refusal_of code.LastOffset = LastOffset
refusal_of code.Settled = Settled
refusal_of code.InFlight = InFlight
refusal_of code.Fenced = Fenced
refusal_of code.Exhausted = Exhausted
refusal_of code.CheckpointDue = CheckpointDue
refusal_of code.Full = Full
refusal_of code.CapReached = CapReached
refusal_of code.Shed = Shed
refusal_of code.JournalFull = JournalFull
refusal_of code.BoundsReversed = BoundsReversed
refusal_of code.BadHours = BadHours
refusal_of code.NeverOpen = NeverOpen
refusal_of (code.Closed opening) = Closed opening
refusal_of code.UnequalLengths = UnequalLengths
refusal_of (code.Falling place) = Falling place
refusal_of code.UnknownWorker = UnknownWorker
refusal_of code.NotPermitted = NotPermitted
refusal_of code.ForeignToken = ForeignToken

-- an answer of the code: a refusal, or what its value stands for
abbrev pub result_of : {T A : Type 0} → (T → A) → std.Result T code_refusal.Refusal → Result A
result_of f (Ok x) = done (f x)
result_of f (Err r) = refused (refusal_of r)

-- the same where the value is a number, a truth, or nothing: it stands for itself
abbrev pub as_is : {T : Type 0} → std.Result T code_refusal.Refusal → Result T
as_is = result_of (λ x. x)

-- what the code may have, or not
abbrev pub option_of : {T A : Type 0} → (T → A) → Option T → math.Option A
option_of f (Some x) = math.some (f x)
option_of f None = math.none
