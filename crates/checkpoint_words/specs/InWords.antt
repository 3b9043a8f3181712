-- What the functions on a record's words promise: those of checkpoint/specs/Writing.antt, of words and a payload.
-- SPEC.md, "Checkpoint".
use Rattle.std.specs.Prelude.{◌≡◌, List, ℕ, ◌+◌, Bool, true, false, cond, set, Ok, Err}
use Rattle.std.specs.Prelude as std
use Rattle.types.specs.Table.{answer, Kept}
use Rattle.types.specs.declared.refusals.Refusal.{Refusal}
use Rattle.checkpoint.specs.Checkpoint.{Left, going, finished, lent, writes, begin, step}
use Rattle.checkpoint.specs.Writing.{begin_of, step_of, is_finished}
use Rattle.checkpoint.specs.declared.Wrote.{Wrote}
use Rattle.checkpoint.specs.declared.counts.Columns.{Columns}
use Rattle.lease.specs.Layout.{REDELIVERIES, table_in}
use Rattle.consumer_words.specs.Layout.{TABLE, CEILING, NEXT-NUMBER, NEXT-BLOCK, consumer_in, view}
use Rattle.checkpoint_words.specs.Layout.{WRITTEN, writing_in, view_writing, Sound, SoundWriting}

-- ## begin
-- a record that is begun is sound, and has as many block writes before it as its answer says
abbrev pub SoundBegun : std.Result ℕ Refusal → (w p : List ℕ) → Type 0
SoundBegun (Ok n) w p = SoundWriting w p × (n ≡ writes (view w))
SoundBegun (Err r) w p = Unit {0}

-- begin by a worker: answer and record are the definition's, the words are those of the very consumer, and a refusal leaves all words and bytes
pub record Begins (r : std.Result ℕ Refusal) (worker : ℕ) (w p w' p' : List ℕ) : Type 0 where
  pub is : begin_of r (writing_in w' p') ≡ begin (view w) worker
  pub sound : SoundBegun r w' p'
  pub same : consumer_in w' ≡ consumer_in w
  pub kept : Kept (begin_of r (writing_in w' p')) w w'
  pub payload-kept : Kept (begin_of r (writing_in w' p')) p p'

-- the columns of a lease table's words that have its counts
pub record Counts (t : List ℕ) (r : Columns ℕ) : Type 0 where
  pub len : r.len ≡ (table_in t).len
  pub carried-len : r.carried_len ≡ (table_in t).carried_len
  pub offsets : r.offsets.now ≡ (table_in t).offsets
  pub slots : r.slots.now ≡ (table_in t).slots
  pub deliveries : r.deliveries.now ≡ (table_in t).deliveries
  pub carried-offsets : r.carried_offsets.now ≡ (table_in t).carried_offsets
  pub carried-counts : r.carried_counts.now ≡ (table_in t).carried_counts

-- ## step
-- what is left: after the last write the consumer, else the record
abbrev pub left_in : std.Result Wrote Refusal → (w p : List ℕ) → Left
left_in r w p = cond (is_finished r) (finished (view w)) (going (view_writing w p))

abbrev pub SoundAfter : Bool → (w p : List ℕ) → Type 0
SoundAfter true w p = Sound w
SoundAfter false w p = SoundWriting w p

abbrev pub SoundLeft : std.Result Wrote Refusal → (w p : List ℕ) → Type 0
SoundLeft r w p = SoundAfter (is_finished r) w p

-- the words after the stores of a step: the blocks written, the ceiling, the redelivery counter, the next group's number and block
abbrev pub stored : (n c r g b : ℕ) → List ℕ → List ℕ
stored n c r g b w = set (set (set (set (set w WRITTEN n) CEILING c) (TABLE + REDELIVERIES) r) NEXT-NUMBER g) NEXT-BLOCK b

-- answer, what is left and the lent area are the definition's, and a refusal leaves the very words
pub record Steps (r : std.Result Wrote Refusal) (p w a w' a' : List ℕ) : Type 0 where
  pub is : answer (step_of r) (lent (left_in r w' p) a') ≡ step (view_writing w p) a
  pub sound : SoundLeft r w' p
  pub kept : Kept (step_of r) w w'
