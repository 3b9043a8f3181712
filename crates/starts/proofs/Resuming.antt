-- A restart from two snapshots: what each decoder's answer says of the definition, and the parts that go on from both.
-- Assumes nothing.
use Prim.Native.Nat.{ℕ, ◌≤◌}
use native.Mathlib.Omega.{arith}
use mathlib.Core.Path.{◌≡◌, ap, ◌∙◌}
use mathlib.Core.List.{List, ◌++◌}
use lib.ListN.{length, take, drop, length-append, length-drop}
use Rattle.std.specs.Prelude.{Ok, Err}
use Rattle.types.specs.Limits.{CARRIED}
use Rattle.types.specs.Refusal.{Result, refused, done}
use Rattle.types.specs.Refused.{refusal_of}
use Rattle.types.specs.declared.refusals.Refusal.{Refusal}
use Rattle.types.specs.Keyed.{Entry}
use Rattle.types.specs.Lists.{entries_of}
use Rattle.cursor.specs.Cursor.{Cursor}
use Rattle.cursor.specs.View as cursor
use Rattle.cursor.specs.Snapshot.{column_from, cursor_in, decode_cursor}
use Rattle.cursor.specs.Answers.{snapshot_error, DecodedIs, CheckedIs}
use Rattle.cursor.specs.declared.SnapshotError.{SnapshotError}
use Rattle.cursor.specs.declared.columns.Figures.{Figures}
use Rattle.cursor.proofs.Walking.{length-column}
use Rattle.attempt.specs.Snapshot.{decode_attempts}
use Rattle.attempt.specs.declared.Decoded.{Decoded}
use Rattle.attempt.proofs.Codec.{Reads}
use Rattle.consumer.specs.State.{State}
use Rattle.consumer.specs.State as state
use Rattle.consumer.specs.declared.NextGroup.{NextGroup}
use Rattle.starts.specs.Restart.{resumed, unsettled_counts, from_snapshots}
use Rattle.starts.specs.Starting.{next_group_of}
use Rattle.starts.specs.Parts.{Columns, cursor_by, counts_by, ReadIs}
use Rattle.starts.specs.declared.in_place.RestartedAt.{RestartedAt}
use Rattle.starts.proofs.Parts.{refused-read}

-- ## what the test of the cursor's snapshot says
module _ (b : List ℕ) where
  pub cursor-said : (error : SnapshotError) → CheckedIs b (Err error) → decode_cursor b ≡ refused (snapshot_error error)
  unfolding decode_cursor
  cursor-said error is = rw (← is.fault)

  pub cursor-held : (f : Figures) → CheckedIs b (Ok f) → decode_cursor b ≡ done (cursor_in b)
  unfolding decode_cursor
  cursor-held f is = rw (← is.fault)

-- a column that ranges were read into is as long as it was
pub column-long : (n from : ℕ) (b before after : List ℕ) → after ≡ column_from n from b ++ drop n before → n ≤ 128 → length before ≡ 128 → length after ≡ 128
column-long n from b before after e few h = rw e (omega (arith, length-append (column_from n from b) (drop n before), length-column b n from, length-drop n before))

-- ## the two snapshots together
module _ (cb ab : List ℕ) (ceiling : ℕ) (next : NextGroup) (size : ℕ) where
  abbrev right : state.Configuration → Result State
  right k = from_snapshots k size (decode_cursor cb) (decode_attempts ab) ceiling (next_group_of next)

  pub cursor-refused : (r : Refusal) (p : Columns) → decode_cursor cb ≡ refused (refusal_of r) → ReadIs right size (Err r) p p
  cursor-refused r p e = refused-read right size r p (λ k. rw e)

  pub attempts-refused : (k : Cursor) → decode_cursor cb ≡ done k → (r : Refusal) (p : Columns) → decode_attempts ab ≡ refused (refusal_of r)
      → ReadIs right size (Err r) p p
  attempts-refused k e r p q = refused-read right size r p (λ c. rw (e, q))

  -- the numbers that go on
  abbrev numbers : (committed runs carried : ℕ) → RestartedAt
  numbers committed runs n =
      record { committed = committed; runs = runs; carried_len = n; ceiling = ceiling; number = next.number; block = next.block }

  pub both_read : (committed runs n : ℕ) (before after : Columns) → DecodedIs cb (Ok (cursor_by (numbers committed runs n) after))
      → (r : Decoded) → (q : Reads ab r) → n ≤ CARRIED
      → counts_by (numbers committed runs n) after ≡ unsettled_counts (cursor.view (cursor_by (numbers committed runs n) after)) (entries_of (take r.count r.pairs))
      → ReadIs right size (Ok (numbers committed runs n)) before after
  both_read committed runs n before after d r q few carried =
      let k = cursor.view (cursor_by (numbers committed runs n) after) in
      let counts : counts_by (numbers committed runs n) after ≡ unsettled_counts k q.list = carried ∙ ap (unsettled_counts k) q.pairs in
      record {
        is = λ c. rw (← d.is, q.bytes) (ap (λ (l : List (Entry ℕ)). done (resumed c size k l ceiling (next_group_of next))) counts);
        measured = record { cursor = d.sound; few = few };
        kept = tt;
      }
