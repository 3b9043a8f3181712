-- What a begin makes of a sound consumer: how long its two snapshots are, both of them one behind the other at the front of the
-- bytes, and a number for the group or none. Assumes nothing.
use Prim.Native.Nat.{ℕ, ◌+◌, ◌*◌, ◌≤◌, ◌<◌}
use native.Mathlib.Omega.{arith}
use native.Mathlib.Numerals.{add-one}
use mathlib.Core.Path.{◌≡◌, refl, sym, ap, ◌∙◌}
use mathlib.Core.List.{List}
use mathlib.Core.Option.{some}
use lib.ListN.{length, take, length-append}
use borrow.Author.Tests.{lt-ltb, le-ltb}
use Rattle.types.specs.Limits.{MAX32, PAIRS}
use Rattle.std.specs.Prelude.{Ok, Err}
use Rattle.types.specs.Refusal.{Result}
use Rattle.types.specs.Refused.{refusal_of}
use Rattle.types.specs.declared.refusals.Refusal.{Refusal}
use Rattle.types.specs.declared.refusals.Refusal.TheVariants.{JournalFull}
use Rattle.types.specs.Table.{Passed, answer}
use Rattle.types.specs.Table as table
use Rattle.types.proofs.Table.{passed_none, first-met-before, first_none_before}
use Rattle.raw.specs.Bytes.{overwrite, write}
use Rattle.raw.proofs.Bytes.{take-overwritten, wrote, wrote-behind}
use Rattle.cursor.proofs.Search.{runs-is}
use Rattle.cursor.proofs.Snapshot.{cursor-length}
use Rattle.attempt.specs.Snapshot.{encode_into2}
use Rattle.attempt.proofs.Snapshot.{attempts-length}
use Rattle.lease.specs.Counts.{all_attempt_counts}
use Rattle.journal.proofs.Area.{whole_says}
use Rattle.journal.specs.Blocks.{bodies_for}
use Rattle.consumer.specs.State.{State}
use Rattle.consumer.specs.Valid.{Valid}
use Rattle.consumer.specs.Rights.{checkpointing}
use Rattle.consumer.specs.Calls.{call_rows}
use Rattle.consumer.specs.View.{view, Sound}
use Rattle.consumer.specs.declared.Consumer.{Consumer}
use Rattle.consumer.proofs.Area.{area-taken}
use Rattle.consumer.proofs.Counts.{counts-few}
use Rattle.checkpoint.specs.Checkpoint.{cursor_bytes, attempt_bytes, payload_of, bodies, zeroed_for, zeros, begin_rows, begin_table, begin}
use Rattle.checkpoint.specs.Writing.{SoundWriting}
use Rattle.checkpoint.specs.Parts.{recording, Lent, BegunAs}
use Rattle.checkpoint.proofs.Payload.{payload-fits}
use Rattle.checkpoint.proofs.Places.{state-room}
use Rattle.checkpoint.proofs.Merged.{both-counted, counts-merged}

-- ## The lengths
module _ (c : Consumer) (l : Lent c) where
  pub cursor-size : 13 + 16 * c.cursor.runs ≡ length (cursor_bytes (view c))
  cursor-size = omega (arith, cursor-length (view c).cursor, runs-is c.cursor l.cursor)

  count : length (all_attempt_counts (view c).table) ≡ c.table.len + c.table.carried_len
  count = sym (ap length (counts-merged c l.table l.sound)) ∙ both-counted c l.table l.sound

  pub few-counts : c.table.len + c.table.carried_len ≤ 128
  few-counts = omega (arith, count, counts-few (view c) l.sound.valid)

  pub attempt_size : 9 + 12 * (c.table.len + c.table.carried_len) ≡ length (attempt_bytes (view c))
  attempt_size = omega (arith, attempts-length 2 (all_attempt_counts (view c).table), count)

-- ## The two snapshots
module _ (s : State) (v : Valid s) (b₀ b₁ b₂ : List ℕ) (o₁ o₂ : Result ℕ) (lc la : ℕ)
    (size : length b₀ ≡ 3606)
    (first : lc ≡ length (cursor_bytes s))
    (second : la ≡ length (attempt_bytes s))
    (e₁ : answer o₁ b₁ ≡ write 0 (cursor_bytes s) b₀)
    (e₂ : answer o₂ b₂ ≡ encode_into2 (all_attempt_counts s.table) lc b₁) where
  fits : length (cursor_bytes s) + length (attempt_bytes s) ≤ length b₀
  fits = let p = payload-fits s v in omega (arith, p.cursor_high, p.attempt_high)

  behind : answer o₂ b₂ ≡ write lc (attempt_bytes s) b₁
  behind = e₂ ∙ rw (le-ltb PAIRS (length (all_attempt_counts s.table)) (counts-few s v))

  both : b₂ ≡ overwrite 0 (payload_of s) b₀
  both =
      let front = wrote 0 (cursor_bytes s) b₀ e₁ (omega (arith, fits)) in
      wrote-behind lc (attempt_bytes s) b₁ behind 0 (cursor_bytes s) b₀ (omega (arith, first)) front (omega (arith, fits))

  pub both-encoded : take (lc + la) b₂ ≡ payload_of s
  both-encoded =
      let total = length-append (cursor_bytes s) (attempt_bytes s) in
      let m : lc + la ≡ 0 + length (payload_of s) = omega (arith, first, second) in
      rw (m, both) (take-overwritten 0 (payload_of s) b₀ (omega (arith, fits)))

-- ## The answer
module _ (c : Consumer) (s : Sound c) where
  module _ (lc la : ℕ) (first : lc ≡ length (cursor_bytes (view c))) (second : la ≡ length (attempt_bytes (view c))) where
    -- the bodies, counted as the code does
    pub bodies-counted : bodies_for (lc + la) ≡ bodies (view c)
    bodies-counted = rw ((payload-fits (view c) s.valid).total, first, second)

    pub bodies-few : (n : ℕ) → n ≡ bodies_for (lc + la) → n ≤ 8
    bodies-few n e = omega (arith, e ∙ bodies-counted, (payload-fits (view c) s.valid).few-bodies)

    pub zeroed-few : (n z : ℕ) → n ≡ bodies_for (lc + la) → z ≡ zeroed_for c.area_len c.next.block n → z ≤ 128
    zeroed-few n z e f =
        let is : z ≡ zeros (view c) = rw (← (e ∙ bodies-counted)) f in
        omega (arith, is, (state-room (view c) s.valid).zeroed, (whole_says c.area_len (area-taken c.area_len s.valid.area)).most)

  -- the block of its next group is within the largest area
  pub block-small : c.next.block ≤ 128
  block-small = omega (arith, s.valid.within, (whole_says c.area_len (area-taken c.area_len s.valid.area)).most)

-- whatever record the consumer stands in, for a worker that may
module _ (c : Consumer) (s : Sound c) (w lc' la' : ℕ) (bytes : List ℕ) (worker : ℕ) (p : Passed (call_rows (view c) worker checkpointing)) where
  its_own : table.first (begin_table (view c) worker) ≡ table.first (begin_rows (view c))
  its_own = first_none_before (call_rows (view c) worker checkpointing) (begin_rows (view c)) (passed_none (call_rows (view c) worker checkpointing) p)

  pub begin-refused : MAX32 < c.next.number → BegunAs (Err JournalFull) worker (recording w lc' la' bytes c) (recording w lc' la' bytes c)
  unfolding begin
  begin-refused h =
      let none = lt-ltb MAX32 c.next.number h in
      record { begun = record { is = rw (its_own, none); sound = tt; kept = refl }; kept = refl }

  module _ (lc la : ℕ) (first : lc ≡ length (cursor_bytes (view c))) (second : la ≡ length (attempt_bytes (view c))) where
    pub begin-done : c.next.number ≤ MAX32 → (n z : ℕ) → n ≡ bodies_for (lc + la) → z ≡ zeroed_for c.area_len c.next.block n
        → (after : List ℕ) → take (lc + la) after ≡ payload_of (view c)
        → BegunAs (Ok (z + (n + 1))) worker (recording w lc' la' bytes c) (recording 0 lc la after c)
    unfolding begin
    begin-done h n z count zeroed after payload =
        let n-is : n ≡ bodies (view c) = count ∙ bodies-counted c s lc la first second in
        let sound : SoundWriting (recording 0 lc la after c) =
        record {
          consumer = s;
          valid = record { state = s.valid; numbered = h; few = omega arith };
          encoded = record { cursor-len = first; attempt_len_lem = second; payload = payload };
        } in
        record {
          begun = record { is = rw (its_own, le-ltb MAX32 c.next.number h); sound = (sound, rw (zeroed, n-is, add-one (bodies (view c)))); kept = refl };
          kept = tt;
        }

-- ## A worker that may not
module _ (c : Consumer) (worker w lc la : ℕ) (bytes : List ℕ) where
  pub begin_unpermitted : (r : Refusal) → some (refusal_of r) ≡ table.first (call_rows (view c) worker checkpointing)
      → BegunAs (Err r) worker (recording w lc la bytes c) (recording w lc la bytes c)
  unfolding begin
  begin_unpermitted r e =
      let met = first-met-before (call_rows (view c) worker checkpointing) (begin_rows (view c)) (refusal_of r) (sym e) in
      record { begun = record { is = rw met; sound = tt; kept = refl }; kept = refl }
