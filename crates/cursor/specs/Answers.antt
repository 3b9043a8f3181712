-- The outcomes and refusals for the cases of the code's enums, and the parts of the contracts.
-- SPEC.md, "Cursor".
use Rattle.std.specs.Prelude.{ℕ, ◌*◌, ◌≤◌, ◌≡◌, Bool, true, false, List, length, Ok, Err}
use Rattle.std.specs.Prelude as std
use Rattle.std.proofs.Math.Option.{Option, none, some}
use Rattle.types.specs.Refusal.{Refusal, Result, refused, done}
use Rattle.types.specs.Refusal as refusal
use Rattle.types.specs.Table.{Answer, answer, first}
use Rattle.cursor.specs.Cursor.{Cursor, resume_with_ahead}
use Rattle.cursor.specs.Snapshot.{range_count, cursor_in, decode_table, decode_cursor}
use Rattle.cursor.specs.View.{view, Sound}
use Rattle.cursor.specs.declared.AckCursor.{AckCursor}
use Rattle.cursor.specs.declared.BoundedAck.{BoundedAck}
use Rattle.cursor.specs.declared.BoundedAck.TheVariants.{Recorded, Duplicate, Shed}
use Rattle.cursor.specs.declared.AckCursorError.{AckCursorError}
use Rattle.cursor.specs.declared.AckCursorError.TheVariants.{EmptyRange, NotSortedDisjointAndAboveCommitted, TooManyRuns}
use Rattle.cursor.specs.declared.SnapshotError.{SnapshotError}
use Rattle.cursor.specs.declared.SnapshotError.TheVariants.{Truncated, BadLength, UnsupportedVersion, BadCrc, Ranges}
use Rattle.cursor.specs.declared.Range.{Range}
use Rattle.cursor.specs.declared.columns.Figures.{Figures}

abbrev pub ack_of : BoundedAck → Result Bool
ack_of Recorded = done true
ack_of Duplicate = done false
ack_of Shed = refused refusal.Shed

-- where nothing is new the very cursor is given back that was handed in
abbrev pub KeptUnlessNew : Result Bool → AckCursor → AckCursor → Type 0
KeptUnlessNew (done true) before after = Unit {0}
KeptUnlessNew (done false) before after = after ≡ before
KeptUnlessNew (refused r) before after = after ≡ before

-- an operation on a cursor answered as the definition says
pub record Updated (before : AckCursor) (outcome : Result Bool) (after : AckCursor) (right : Answer Bool Cursor) : Type 0 where
  pub is : answer outcome (view after) ≡ right
  pub sound : Sound after
  pub kept : KeptUnlessNew outcome before after

abbrev pub ranges_error : AckCursorError → Refusal
ranges_error (EmptyRange start end) = refusal.EmptyRange start end
ranges_error (NotSortedDisjointAndAboveCommitted start prev-end) = refusal.NotSortedDisjointAndAboveCommitted start prev-end
ranges_error TooManyRuns = refusal.TooManyRuns

abbrev pub snapshot_error : SnapshotError → Refusal
snapshot_error Truncated = refusal.CursorTruncated
snapshot_error (BadLength len) = refusal.CursorBadLength len
snapshot_error (UnsupportedVersion version) = refusal.CursorUnsupportedVersion version
snapshot_error BadCrc = refusal.CursorBadCrc
snapshot_error (Ranges error) = ranges_error error

-- the refusal that an answer is, if it is one
abbrev pub resume_fault : {T : Type 0} → std.Result T AckCursorError → Option Refusal
resume_fault (Ok x) = none
resume_fault (Err error) = some (ranges_error error)

abbrev pub decode_fault : {T : Type 0} → std.Result T SnapshotError → Option Refusal
decode_fault (Ok x) = none
decode_fault (Err error) = some (snapshot_error error)

-- the answer of a call that makes a cursor
abbrev pub resume_of : std.Result AckCursor AckCursorError → Result Cursor
resume_of (Ok c) = done (view c)
resume_of (Err error) = refused (ranges_error error)

abbrev pub decode_of : std.Result AckCursor SnapshotError → Result Cursor
decode_of (Ok c) = done (view c)
decode_of (Err error) = refused (snapshot_error error)

-- what was made is a cursor
abbrev pub SoundIn : {E : Type 0} → std.Result AckCursor E → Type 0
SoundIn (Ok c) = Sound c
SoundIn (Err error) = Unit {0}

-- ranges are resumed as the definition says
pub record ResumedIs (committed : ℕ) (ahead : List Range) (r : std.Result AckCursor AckCursorError) : Type 0 where
  pub is : resume_of r ≡ resume_with_ahead committed ahead
  pub sound : SoundIn r

-- a snapshot is decoded as the definition says
pub record DecodedIs (bytes : List ℕ) (r : std.Result AckCursor SnapshotError) : Type 0 where
  pub is : decode_of r ≡ decode_cursor bytes
  pub sound : SoundIn r

-- the figures of a snapshot are those of the cursor in it
pub record FiguresOf (bytes : List ℕ) (f : Figures) : Type 0 where
  pub committed : f.committed ≡ (cursor_in bytes).committed
  pub runs : f.runs ≡ range_count bytes
  pub within : 16 * f.runs ≤ length bytes

abbrev pub FiguresIn : List ℕ → std.Result Figures SnapshotError → Type 0
FiguresIn bytes (Ok f) = FiguresOf bytes f
FiguresIn bytes (Err error) = Unit {0}

-- a snapshot is tested as the definition says
pub record CheckedIs (bytes : List ℕ) (r : std.Result Figures SnapshotError) : Type 0 where
  pub fault : decode_fault r ≡ first (decode_table bytes)
  pub figures : FiguresIn bytes r
