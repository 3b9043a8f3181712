-- What the code's writing record and the answers of begin and step stand for, the invariant of the record, and the parts of the
-- contracts.
-- SPEC.md, "Checkpoint".
use Rattle.std.specs.Prelude.{ℕ, ◌+◌, ◌<◌, ◌≡◌, Bool, true, false, cond, List, length, take, Ok, Err}
use Rattle.std.specs.Prelude as std
use Rattle.types.specs.Refusal.{Result, refused, done}
use Rattle.types.specs.Refused.{refusal_of, result_of}
use Rattle.types.specs.Table.{answer, Kept}
use Rattle.types.specs.declared.refusals.Refusal.{Refusal}
use Rattle.consumer.specs.State.{State, blocks_of}
use Rattle.consumer.specs.View.{view, Sound}
use Rattle.consumer.specs.declared.Consumer.{Consumer}
use Rattle.checkpoint.specs.Checkpoint.{cursor_bytes, attempt_bytes, payload_of, writes, writing, begin, Left, going, finished, BlockWritten, lent, step}
use Rattle.checkpoint.specs.Checkpoint as checkpoint
use Rattle.checkpoint.specs.Valid.{ValidWriting}
use Rattle.checkpoint.specs.declared.Writing.{Writing}
use Rattle.checkpoint.specs.declared.Begun.{Begun}
use Rattle.checkpoint.specs.declared.Stepped.{Stepped}
use Rattle.checkpoint.specs.declared.Wrote.{Wrote}

abbrev pub view_writing : Writing → checkpoint.Writing
view_writing w = writing (view w.consumer) w.written

-- the payload of a state at the front of bytes, with the lengths of its two snapshots
pub record Encoded (s : State) (bytes : List ℕ) (lc la : ℕ) : Type 0 where
  pub cursor-len : lc ≡ length (cursor_bytes s)
  pub attempt_len_lem : la ≡ length (attempt_bytes s)
  pub payload : take (lc + la) bytes ≡ payload_of s

pub record SoundWriting (w : Writing) : Type 0 where
  pub consumer : Sound w.consumer
  pub valid : ValidWriting (view_writing w)
  pub encoded : Encoded (view w.consumer) w.payload w.cursor_len w.attempt_len

-- ## begin
abbrev pub begin_of : std.Result ℕ Refusal → Writing → Result checkpoint.Writing
begin_of (Ok n) w = done (view_writing w)
begin_of (Err r) w = refused (refusal_of r)

-- a record that is begun is sound, and has as many block writes before it as its answer says
abbrev pub SoundBegun : std.Result ℕ Refusal → Writing → Type 0
SoundBegun (Ok n) w = SoundWriting w × (n ≡ writes (view w.consumer))
SoundBegun (Err r) w = Unit {0}

-- begin by a worker: answer and record are the definition's, and the record has the very consumer, begun or refused
pub record BegunIs (before : Consumer) (worker : ℕ) (r : Begun) : Type 0 where
  pub is : begin_of r.answer r.writing ≡ begin (view before) worker
  pub sound : SoundBegun r.answer r.writing
  pub kept : r.writing.consumer ≡ before

-- ## step
abbrev pub written_of : Wrote → BlockWritten
written_of b = record { block = b.block; last = b.finished }

abbrev pub step_of : std.Result Wrote Refusal → Result BlockWritten
step_of = result_of written_of

-- whether that was the last write; a step that is refused is not
abbrev pub is_finished : std.Result Wrote Refusal → Bool
is_finished (Ok b) = b.finished
is_finished (Err r) = false

-- what is left: after the last write the consumer, else the record
abbrev pub left_after : Bool → Writing → Left
left_after last w = cond last (finished (view w.consumer)) (going (view_writing w))

abbrev pub SoundAfter : Bool → Writing → Type 0
SoundAfter true w = Sound w.consumer
SoundAfter false w = SoundWriting w

abbrev pub left_of : std.Result Wrote Refusal → Writing → Left
left_of r w = left_after (is_finished r) w

abbrev pub SoundLeft : std.Result Wrote Refusal → Writing → Type 0
SoundLeft r w = SoundAfter (is_finished r) w

-- step: answer, what is left and the lent area are the definition's, and a refusal gives back the very record
pub record SteppedIs (before : Writing) (a : List ℕ) (r : Stepped) (a' : List ℕ) : Type 0 where
  pub is : answer (step_of r.answer) (lent (left_of r.answer r.writing) a') ≡ step (view_writing before) a
  pub sound : SoundLeft r.answer r.writing
  pub kept : Kept (step_of r.answer) before r.writing

-- ## where a step writes
-- a block of the area that the consumer was started on
pub record Into (w : Writing) (a : List ℕ) (i : ℕ) : Type 0 where
  pub sound : SoundWriting w
  pub area : length a ≡ w.consumer.area_len
  pub inside : i < blocks_of (view w.consumer)
