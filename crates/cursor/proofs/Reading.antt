-- What the decoder's functions answer, over plain values. Assumes nothing.
use Prim.Native.Nat.{ℕ, zero, suc, ◌+◌, ◌-◌, ◌*◌, ◌%◌, ◌≤◌, ◌<◌}
use native.Mathlib.Omega.{arith}
use Rattle.std.specs.Prelude.{Ok, Err}
use mathlib.Core.Path.{◌≡◌, sym, subst}
use mathlib.Core.Bool.{true, false}
use mathlib.Core.List.{List, ◌++◌}
use mathlib.Core.Option.{none, some}
use lib.ListN.{length, get_or}
use borrow.Author.Tests.{lt-ltb, le-ltb, eq-eqb, ne_eqb, ltb-false}
use Rattle.types.specs.Refusal.{CursorTruncated, CursorBadLength, CursorUnsupportedVersion, CursorBadCrc}
use Rattle.types.specs.Table.{first}
use Rattle.types.proofs.Table.{first_none, first-met-before, first_none_before}
use Rattle.raw.specs.Bytes.{IsBytes}
use Rattle.crc.specs.Seal.{is_sealed}
use Rattle.cursor.specs.Cursor.{Valid, resume_table}
use Rattle.cursor.specs.Snapshot.{read_ranges, range_count, cursor_in, frame_table, decode_table, decode_cursor}
use Rattle.cursor.specs.View.{view}
use Rattle.cursor.specs.Answers.{snapshot_error, DecodedIs}
use Rattle.cursor.specs.declared.AckCursor.{AckCursor}
use Rattle.cursor.specs.declared.SnapshotError.{SnapshotError}
use Rattle.cursor.proofs.Snapshot.{length-read, accepted, read-valid}

-- n ranges in the bytes, and more behind them
pub read_more : (n more pos : ℕ) (bytes : List ℕ) → read_ranges (n + more) pos bytes ≡ read_ranges n pos bytes ++ read_ranges more (pos + 16 * n) bytes
read_more zero more pos bytes =
    let m : 0 + more ≡ more = omega arith in
    let z : pos + 16 * 0 ≡ pos = omega arith in
    rw (m, z)
read_more (suc n) more pos bytes =
    let s : suc n + more ≡ suc (n + more) = omega arith in
    let p : pos + 16 * suc n ≡ pos + 16 + 16 * n = omega arith in
    rw (s, p, read_more n more (pos + 16) bytes)

-- the rows that `check_frame` goes down
module _ (bytes : List ℕ) where
  pub truncated : length bytes < 13 → first (frame_table bytes) ≡ some CursorTruncated
  truncated h = rw (lt-ltb _ _ h)

  module _ (long : 13 ≤ length bytes) where
    pub bad-length : ((length bytes - 13) % 16 ≡ 0 → ⊥) → first (frame_table bytes) ≡ some (CursorBadLength (length bytes))
    bad-length h = rw (le-ltb _ _ long, ne_eqb _ _ h)

    module _ (whole : (length bytes - 13) % 16 ≡ 0) where
      pub other-version : (get_or bytes 0 0 ≡ 1 → ⊥) → first (frame_table bytes) ≡ some (CursorUnsupportedVersion (get_or bytes 0 0))
      other-version h = rw (le-ltb _ _ long, eq-eqb _ _ whole, ne_eqb _ _ h)

      module _ (version : get_or bytes 0 0 ≡ 1) where
        pub bad-crc : is_sealed bytes ≡ false → first (frame_table bytes) ≡ some CursorBadCrc
        bad-crc h = rw (le-ltb _ _ long, eq-eqb _ _ whole, eq-eqb _ _ version, h)

        pub framed : is_sealed bytes ≡ true → first (frame_table bytes) ≡ none
        framed h = rw (le-ltb _ _ long, eq-eqb _ _ whole, eq-eqb _ _ version, h)

  -- what `decode_snapshot` answers
  pub decode_refused : (e : SnapshotError) → some (snapshot_error e) ≡ first (decode_table bytes) → DecodedIs bytes (Err e)
  unfolding decode_cursor
  decode_refused e t = record { is = rw (← t); sound = tt }

  pub decode_restored : IsBytes bytes → none ≡ first (decode_table bytes) → (c : AckCursor) → c.runs ≡ range_count bytes → view c ≡ cursor_in bytes → DecodedIs bytes (Ok c)
  unfolding decode_cursor
  decode_restored h t c n e =
      let a = accepted bytes (first_none (decode_table bytes) (sym t)) in
      let v = read-valid bytes h a in
      record {
        is = rw (← t, e);
        sound = record { few = rw (n, ← length-read (range_count bytes) 9 bytes) v.few; valid = subst Valid (sym e) v };
      }

  -- a fault of the frame comes before those of the ranges
  pub frame_refused : (e : SnapshotError) → some (snapshot_error e) ≡ first (frame_table bytes) → some (snapshot_error e) ≡ first (decode_table bytes)
  frame_refused e h = sym (first-met-before (frame_table bytes) (resume_table (cursor_in bytes).committed (cursor_in bytes).ahead) (snapshot_error e) (sym h))

  module _ (h : none ≡ first (frame_table bytes)) where
    pub ranges-left : first (decode_table bytes) ≡ first (resume_table (cursor_in bytes).committed (cursor_in bytes).ahead)
    ranges-left = first_none_before (frame_table bytes) (resume_table (cursor_in bytes).committed (cursor_in bytes).ahead) (sym h)

    pub frame_fits : (13 ≤ length bytes) × (9 + 16 * range_count bytes ≤ length bytes)
    frame_fits =
        let long : 13 ≤ length bytes = ltb-false (length bytes) 13 (first_none (frame_table bytes) (sym h)).0 in
        (long, omega arith)
