-- The code's refusal that stands for a refusal of the definitions. Assumes nothing.
use mathlib.Core.Path.{◌≡◌, refl}
use Rattle.types.specs.Refusal.{Refusal, UnlimitedDeliverNotAllowed, TooManySteps, ZeroThreshold, BadArea, Damaged, CursorTruncated, CursorBadLength, CursorUnsupportedVersion, CursorBadCrc, EmptyRange, NotSortedDisjointAndAboveCommitted, TooManyRuns, AttemptTruncated, AttemptUnsupportedVersion, AttemptBadLength, CountMismatch, AttemptBadCrc, NotSorted, TooManyPairs, OutTooShort, LastOffset, Settled, InFlight, Fenced, Exhausted, CheckpointDue, Full, CapReached, Shed, Held, JournalFull, BoundsReversed, BadHours, NeverOpen, Closed, UnequalLengths, Falling, UnknownWorker, NotPermitted, ForeignToken}
use Rattle.types.specs.Refused.{refusal_of}
use Rattle.types.specs.declared.refusals.Refusal as code_refusal
use Rattle.types.specs.declared.refusals.Refusal.TheVariants as code

-- no call is refused by Held
abbrev pub refusal_from : Refusal → code_refusal.Refusal
refusal_from UnlimitedDeliverNotAllowed = code.UnlimitedDeliverNotAllowed
refusal_from TooManySteps = code.TooManySteps
refusal_from ZeroThreshold = code.ZeroThreshold
refusal_from BadArea = code.BadArea
refusal_from (Damaged block) = code.Damaged block
refusal_from CursorTruncated = code.CursorTruncated
refusal_from (CursorBadLength len) = code.CursorBadLength len
refusal_from (CursorUnsupportedVersion version) = code.CursorUnsupportedVersion version
refusal_from CursorBadCrc = code.CursorBadCrc
refusal_from (EmptyRange start end) = code.EmptyRange start end
refusal_from (NotSortedDisjointAndAboveCommitted start prev_end) = code.NotSortedDisjointAndAboveCommitted start prev_end
refusal_from TooManyRuns = code.TooManyRuns
refusal_from AttemptTruncated = code.AttemptTruncated
refusal_from (AttemptUnsupportedVersion version) = code.AttemptUnsupportedVersion version
refusal_from (AttemptBadLength len) = code.AttemptBadLength len
refusal_from (CountMismatch declared actual) = code.CountMismatch declared actual
refusal_from AttemptBadCrc = code.AttemptBadCrc
refusal_from (NotSorted offset prev_offset) = code.NotSorted offset prev_offset
refusal_from TooManyPairs = code.TooManyPairs
refusal_from OutTooShort = code.OutTooShort
refusal_from LastOffset = code.LastOffset
refusal_from Settled = code.Settled
refusal_from InFlight = code.InFlight
refusal_from Fenced = code.Fenced
refusal_from Exhausted = code.Exhausted
refusal_from CheckpointDue = code.CheckpointDue
refusal_from Full = code.Full
refusal_from CapReached = code.CapReached
refusal_from Shed = code.Shed
refusal_from JournalFull = code.JournalFull
refusal_from BoundsReversed = code.BoundsReversed
refusal_from BadHours = code.BadHours
refusal_from NeverOpen = code.NeverOpen
refusal_from (Closed opening) = code.Closed opening
refusal_from UnequalLengths = code.UnequalLengths
refusal_from (Falling place) = code.Falling place
refusal_from UnknownWorker = code.UnknownWorker
refusal_from NotPermitted = code.NotPermitted
refusal_from ForeignToken = code.ForeignToken
refusal_from Held = code.Fenced

pub refusal-back : (f : code_refusal.Refusal) → refusal_from (refusal_of f) ≡ f
refusal-back code.UnlimitedDeliverNotAllowed = refl
refusal-back code.TooManySteps = refl
refusal-back code.ZeroThreshold = refl
refusal-back code.BadArea = refl
refusal-back (code.Damaged block) = refl
refusal-back code.CursorTruncated = refl
refusal-back (code.CursorBadLength len) = refl
refusal-back (code.CursorUnsupportedVersion version) = refl
refusal-back code.CursorBadCrc = refl
refusal-back (code.EmptyRange start end) = refl
refusal-back (code.NotSortedDisjointAndAboveCommitted start prev_end) = refl
refusal-back code.TooManyRuns = refl
refusal-back code.AttemptTruncated = refl
refusal-back (code.AttemptUnsupportedVersion version) = refl
refusal-back (code.AttemptBadLength len) = refl
refusal-back (code.CountMismatch declared actual) = refl
refusal-back code.AttemptBadCrc = refl
refusal-back (code.NotSorted offset prev_offset) = refl
refusal-back code.TooManyPairs = refl
refusal-back code.OutTooShort = refl
refusal-back code.LastOffset = refl
refusal-back code.Settled = refl
refusal-back code.InFlight = refl
refusal-back code.Fenced = refl
refusal-back code.Exhausted = refl
refusal-back code.CheckpointDue = refl
refusal-back code.Full = refl
refusal-back code.CapReached = refl
refusal-back code.Shed = refl
refusal-back code.JournalFull = refl
refusal-back code.BoundsReversed = refl
refusal-back code.BadHours = refl
refusal-back code.NeverOpen = refl
refusal-back (code.Closed opening) = refl
refusal-back code.UnequalLengths = refl
refusal-back (code.Falling place) = refl
refusal-back code.UnknownWorker = refl
refusal-back code.NotPermitted = refl
refusal-back code.ForeignToken = refl
