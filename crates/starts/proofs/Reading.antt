-- The last group read: it lies in the area, so the lent memory begins with its payload, and the two snapshots that the code takes
-- from there are those of the payload. Assumes nothing.
use Prim.Native.Nat.{ℕ, ◌+◌, ◌*◌, ◌-◌, ◌≤◌}
use native.Mathlib.Omega.{arith}
use mathlib.Core.Path.{◌≡◌, ap, ◌∙◌}
use mathlib.Core.List.{List, ◌++◌}
use lib.ListN.{length, take, drop, length-append, length-drop}
use lib.Seq.{take-append-le, drop-append-le}
use borrow.Author.Tests.{le-ltb}
use Rattle.std.specs.Prelude as std
use Rattle.types.specs.Refusal.{Result}
use Rattle.types.specs.Refused.{as_is}
use Rattle.types.specs.declared.refusals.Refusal.{Refusal}
use Rattle.types.specs.Table.{Answer, answer}
use Rattle.cursor.specs.Snapshot.{decode_cursor}
use Rattle.attempt.specs.Snapshot.{decode_attempts}
use Rattle.journal.specs.Area.{block_at}
use Rattle.journal.specs.Answers.{header_in, read_payload}
use Rattle.journal.specs.Blocks.{bodies_for, cursor_length, attempt_length, ceiling_of, payload_length}
use Rattle.journal.specs.Walks.{payload}
use Rattle.journal.specs.declared.Header.{Header}
use Rattle.journal.proofs.Area.{Inside, inside-says, part_at, part-is}
use Rattle.journal.proofs.Group.{payload-length}
use Rattle.consumer.specs.State.{State}
use Rattle.consumer.specs.State as state
use Rattle.consumer.specs.declared.NextGroup.{NextGroup}
use Rattle.starts.specs.Restart.{from_snapshots, read_group}
use Rattle.starts.specs.Starting.{next_group_of, Lies}
use Rattle.starts.specs.Parts.{Columns, ReadIs}
use Rattle.starts.specs.declared.in_place.RestartedAt.{RestartedAt}
use Rattle.starts.proofs.Parts.{read_as}

module _ (a : List ℕ) (i : ℕ) (l : Lies a i) where
  within : Inside (length a) (i + bodies_for (payload_length (block_at a i)))
  within = inside-says (length a) (i + bodies_for (payload_length (block_at a i))) l.inside

  pub header-fits : 512 * i + 512 ≤ length a
  header-fits = omega (arith, within.fits)

  pub area_small : length a ≤ 65536
  area_small = within.area.most

  payload-whole : length (payload a i) ≡ payload_length (block_at a i)
  payload-whole = payload-length a i (omega (arith, within.fits))

  module _ (h : Header) (is : h ≡ header_in (part_at a i)) where
    said : h ≡ header_in (block_at a i)
    said = is ∙ ap header_in (part-is a i)

    cursor-said : h.cursor_len ≡ cursor_length (block_at a i)
    cursor-said = ap (λ (x : Header). x.cursor_len) said

    attempt_said : h.attempt_len ≡ attempt_length (block_at a i)
    attempt_said = ap (λ (x : Header). x.attempt_len) said

    ceiling-said : h.ceiling ≡ ceiling_of (block_at a i)
    ceiling-said = ap (λ (x : Header). x.ceiling) said

    module _ (out after : List ℕ) (p : std.Result ℕ Refusal) (room : length out ≡ 3606) (e : answer (as_is p) after ≡ read_payload i a out) where
      lent : after ≡ payload a i ++ drop (payload_length (block_at a i)) out
      unfolding read_payload
      lent =
          let n = le-ltb (length out) (payload_length (block_at a i)) (omega (arith, l.cursor, l.attempts)) in
          ap (λ (x : Answer ℕ (List ℕ)). x.state) (rw (l.inside, n) at e)

      pub lent_length : h.cursor_len + h.attempt_len ≤ length after
      lent_length = rw (lent, cursor-said, attempt_said) (simp length-append (omega (arith, payload-whole)))

      -- the cursor's snapshot, and the attempts' behind it
      first_part : take h.cursor_len after ≡ take (cursor_length (block_at a i)) (payload a i)
      first_part =
          rw (cursor-said, lent)
          (take-append-le (cursor_length (block_at a i)) (payload a i) (drop (payload_length (block_at a i)) out) (omega (arith, payload-whole)))

      second-part : take (h.cursor_len + h.attempt_len - h.cursor_len) (drop h.cursor_len after)
          ≡ take (attempt_length (block_at a i)) (drop (cursor_length (block_at a i)) (payload a i))
      second-part =
          let lc = cursor_length (block_at a i) in
          let rest = drop (payload_length (block_at a i)) out in
          let n : h.cursor_len + h.attempt_len - h.cursor_len ≡ attempt_length (block_at a i) = omega (arith, attempt_said) in
          rw (n, cursor-said, lent, drop-append-le lc (payload a i) rest (omega (arith, payload-whole)))
          (take-append-le (attempt_length (block_at a i)) (drop lc (payload a i)) rest (simp length-drop (omega (arith, payload-whole))))

      module _ (next : NextGroup) where
        abbrev taken : state.Configuration → Result State
        taken k =
            from_snapshots k (length a) (decode_cursor (take h.cursor_len after))
            (decode_attempts (take (h.cursor_len + h.attempt_len - h.cursor_len) (drop h.cursor_len after)))
            h.ceiling (next_group_of next)

        same : (k : state.Configuration) → taken k ≡ read_group k a i (next_group_of next)
        same k = rw (first_part, second-part, ceiling-said)

        pub group-read : (r : std.Result RestartedAt Refusal) (p p' : Columns) → ReadIs taken (length a) r p p' → ReadIs (λ k. read_group k a i (next_group_of next)) (length a) r p p'
        group-read = read_as taken (length a) (λ k. read_group k a i (next_group_of next)) same
