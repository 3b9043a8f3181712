-- Laws of the cursor snapshot: its length; that decoding gives the cursor back, and encoding the bytes; and that what is
-- accepted, in bytes or as ranges, is a valid cursor. Assumes nothing.
use Prim.Native.Nat.{ℕ, zero, suc, ◌+◌, ◌-◌, ◌*◌, ◌%◌, ◌<◌, ◌≤◌}
use native.Mathlib.Omega.{arith}
use native.Mathlib.Nat.{add_assoc}
use mathlib.Core.Path.{◌≡◌, refl, sym, ap, subst, ◌∙◌}
use mathlib.Core.Bool.{true, not}
use mathlib.Core.List.{List, [], ◌∷◌, ◌++◌}
use lib.Dec.{ltb}
use lib.ListN.{length, take, drop, get_or}
use lib.Seq.{drop-drop, take-add}
use borrow.Author.Tests.{ltb-false, leb-false, eqb-true, not-false, le-ltb, lt-leb, eq-eqb}
use Rattle.types.specs.Limits.{MAX, RANGES}
use Rattle.types.specs.Refusal.{done, TooManyRuns}
use Rattle.types.specs.Table.{◌⇒◌, Passed}
use Rattle.types.proofs.Table.{checked-done, checked-passed, passed-append, append-passed}
use Rattle.raw.specs.Bytes.{IsBytes, le, number_at}
use Rattle.raw.proofs.Bytes.{bytes-append, bytes_le, unle-le, number_lt, le-number}
use Rattle.crc.specs.Seal.{sealed, is_sealed}
use Rattle.crc.proofs.Seal.{length-sealed, bytes-sealed, sealed_ok, sealed-of}
use Rattle.cursor.specs.Ranges.{Above, EndsFit}
use Rattle.cursor.specs.Cursor.{Cursor, cursor, Valid, ranges_table, resume_table, resume_with_ahead}
use Rattle.cursor.specs.Snapshot.{range_bytes, ranges_bytes, body_bytes, encode_cursor, read_ranges, range_count, cursor_in, frame_table, decode_table, decode_cursor}
use Rattle.cursor.specs.declared.Range.{Range}

-- ## lengths

pub length-ranges : (l : List Range) → length (ranges_bytes l) ≡ 16 * length l
length-ranges [] = refl
length-ranges (r ∷ rs) = omega (arith, length-ranges rs)

pub length-body : (c : Cursor) → length (body_bytes c) ≡ 9 + 16 * length c.ahead
length-body c = omega (arith, length-ranges c.ahead)

pub cursor-length : (c : Cursor) → length (encode_cursor c) ≡ 13 + 16 * length c.ahead
unfolding encode_cursor
cursor-length c = length-sealed (body_bytes c) ∙ omega (arith, length-body c)

pub length-read : (n pos : ℕ) (bytes : List ℕ) → length (read_ranges n pos bytes) ≡ n
length-read zero pos bytes = refl
length-read (suc n) pos bytes = ap suc (length-read n (pos + 16) bytes)

-- ## ranges that a table let through

above-passed : (n : ℕ) (l : List Range) → EndsFit l → Passed (ranges_table n l) → Above n l
above-passed n [] f p = tt
above-passed n (r ∷ rs) f p =
    (leb-false r.start n p.1.0, leb-false r.end r.start p.0, f.0, above-passed r.end rs f.1 p.1.1)

passed-above : (n : ℕ) (l : List Range) → Above n l → Passed (ranges_table n l)
passed-above n [] a = tt
passed-above n (r ∷ rs) a = (lt-leb r.end r.start a.1, (lt-leb r.start n a.0, passed-above r.end rs a.3))

module _ (n : ℕ) (l : List Range) where
  passed-both : Passed (resume_table n l) → Passed (ranges_table n l) × (length l ≤ RANGES)
  passed-both p =
      let q = passed-append (ranges_table n l) (ltb RANGES (length l) ⇒ TooManyRuns ∷ []) p in
      (q.0, ltb-false RANGES (length l) q.1.0)

  pub passed-few : Passed (resume_table n l) → length l ≤ RANGES
  passed-few p = (passed-both p).1

  pub passed-valid : n ≤ MAX → EndsFit l → Passed (resume_table n l) → Valid (cursor n l)
  passed-valid m f p = let q = passed-both p in record { fits = m; above = above-passed n l f q.0; few = q.1 }

  passed-resume : Valid (cursor n l) → Passed (resume_table n l)
  passed-resume v = append-passed (ranges_table n l) (ltb RANGES (length l) ⇒ TooManyRuns ∷ []) (passed-above n l v.above) (le-ltb RANGES (length l) v.few, tt)

  -- a valid cursor's ranges are resumed, and what is resumed is valid
  pub resume-back : Valid (cursor n l) → resume_with_ahead n l ≡ done (cursor n l)
  unfolding resume_with_ahead
  resume-back v = checked-passed (resume_table n l) (done (cursor n l)) (passed-resume v)

  pub resumed-valid : (c : Cursor) → n ≤ MAX → EndsFit l → resume_with_ahead n l ≡ done c → (c ≡ cursor n l) × Valid c
  unfolding resume_with_ahead
  resumed-valid c m f e =
      let d = checked-done (resume_table n l) (cursor n l) c e in
      (sym d.1, rw (← d.1) (passed-valid m f d.0))

-- ## bytes that are accepted

pub record Accepted (bytes : List ℕ) : Type 0 where
  pub long : 13 ≤ length bytes
  pub whole : (length bytes - 13) % 16 ≡ 0
  pub version : get_or bytes 0 0 ≡ 1
  pub seal : is_sealed bytes ≡ true
  pub ranges : Passed (resume_table (cursor_in bytes).committed (cursor_in bytes).ahead)

pub accepted : (bytes : List ℕ) → Passed (decode_table bytes) → Accepted bytes
accepted bytes p =
    let q = passed-append (frame_table bytes) (resume_table (cursor_in bytes).committed (cursor_in bytes).ahead) p in
    let f = q.0 in
    record {
      long = ltb-false (length bytes) 13 f.0;
      whole = eqb-true ((length bytes - 13) % 16) 0 (not-false _ f.1.0);
      version = eqb-true (get_or bytes 0 0) 1 (not-false _ f.1.1.0);
      seal = not-false (is_sealed bytes) f.1.1.1.0;
      ranges = q.1;
    }

decoded : (bytes : List ℕ) (c : Cursor) → decode_cursor bytes ≡ done c → Accepted bytes × (cursor_in bytes ≡ c)
unfolding decode_cursor
decoded bytes c e =
    let d = checked-done (decode_table bytes) (cursor_in bytes) c e in
    (accepted bytes d.0, d.1)

ends-fit : (n pos : ℕ) (bytes : List ℕ) → IsBytes bytes → EndsFit (read_ranges n pos bytes)
ends-fit zero pos bytes h = tt
ends-fit (suc n) pos bytes h = (omega (arith, number_lt 8 (pos + 8) bytes h), ends-fit n (pos + 16) bytes h)

pub read-valid : (bytes : List ℕ) → IsBytes bytes → Accepted bytes → Valid (cursor_in bytes)
read-valid bytes h a =
    passed-valid (number_at 8 1 bytes) (read_ranges (range_count bytes) 9 bytes)
    (omega (arith, number_lt 8 1 bytes h)) (ends-fit (range_count bytes) 9 bytes h) a.ranges

pub decoded-valid : (bytes : List ℕ) (c : Cursor) → IsBytes bytes → decode_cursor bytes ≡ done c → Valid c
decoded-valid bytes c h e = let d = decoded bytes c e in rw (← d.1) (read-valid bytes h d.0)

-- ## reading what was written

-- reading goes by what stands from its place on
read-drop : (n k pos : ℕ) (bytes : List ℕ) → read_ranges n (k + pos) bytes ≡ read_ranges n pos (drop k bytes)
read-drop zero k pos bytes = refl
read-drop (suc n) k pos bytes = rw (add_assoc, add_assoc, drop-drop, drop-drop) (rw (read-drop n k (pos + 16) bytes))

read-written : (n : ℕ) (l : List Range) (behind : List ℕ) → Above n l → read_ranges (length l) 0 (ranges_bytes l ++ behind) ≡ l
read-written n [] behind a = refl
read-written n (r ∷ rs) behind a =
    rw (read-drop (length rs) 16 0 (ranges_bytes (r ∷ rs) ++ behind), read-written r.end rs behind a.3)
    (rw (unle-le 8 r.start (omega arith), unle-le 8 r.end (omega arith)))

module _ (c : Cursor) (v : Valid c) where
  written_count : range_count (encode_cursor c) ≡ length c.ahead
  written_count = omega (arith, cursor-length c)

  written-cursor : cursor_in (encode_cursor c) ≡ c
  unfolding encode_cursor
  written-cursor =
      rw (written_count, read-drop (length c.ahead) 9 0 (encode_cursor c), unle-le 8 c.committed (omega (arith, v.fits)))
      (ap (cursor c.committed) (read-written c.committed c.ahead (le 4 _) v.above))

  written_frame : Passed (frame_table (encode_cursor c))
  unfolding encode_cursor
  written_frame =
      let size = cursor-length c in
      let n = length (encode_cursor c) in
      (le-ltb n 13 (omega arith), (ap not (eq-eqb ((n - 13) % 16) 0 (omega arith)), (refl, (ap not (sealed_ok (body_bytes c)), tt))))

  -- a valid cursor comes back
  pub cursor-back : decode_cursor (encode_cursor c) ≡ done c
  unfolding decode_cursor
  cursor-back =
      let bytes = encode_cursor c in
      let ranges = subst (λ (d : Cursor). Passed (resume_table d.committed d.ahead)) (sym written-cursor) (passed-resume c.committed c.ahead v) in
      checked-passed (decode_table bytes) (done (cursor_in bytes))
      (append-passed (frame_table bytes) (resume_table (cursor_in bytes).committed (cursor_in bytes).ahead) written_frame ranges)
      ∙ ap done written-cursor

-- ## writing what was read

pieces : {x u y v z w : List ℕ} → x ≡ u → y ≡ v → z ≡ w → x ++ (y ++ z) ≡ u ++ (v ++ w)
pieces p q r = rw (p, q, r)

ranges-again : (n pos : ℕ) (bytes : List ℕ) → IsBytes bytes → pos + 16 * n ≤ length bytes → ranges_bytes (read_ranges n pos bytes) ≡ take (16 * n) (drop pos bytes)
ranges-again zero pos bytes h room = refl
ranges-again (suc n) pos bytes h room =
    let e : 16 * suc n ≡ 8 + (8 + 16 * n) = omega arith in
    let parts : take (16 * suc n) (drop pos bytes) ≡ take 8 (drop pos bytes) ++ (take 8 (drop (pos + 8) bytes) ++ take (16 * n) (drop (pos + 16) bytes)) = rw (e, take-add 8 (8 + 16 * n) (drop pos bytes), take-add 8 (16 * n) (drop 8 (drop pos bytes)), drop-drop 8 8 (drop pos bytes), drop-drop 8 pos bytes, drop-drop 16 pos bytes) in
    pieces (le-number 8 pos bytes h (omega arith)) (le-number 8 (pos + 8) bytes h (omega arith)) (ranges-again n (pos + 16) bytes h (omega arith)) ∙ sym parts

first_byte : (bytes : List ℕ) (b : ℕ) → 0 < length bytes → get_or bytes 0 0 ≡ b → take 1 bytes ≡ b ∷ []
first_byte [] b h e = absurd (omega arith)
first_byte (x ∷ bytes) b h e = rw e

body-again : (bytes : List ℕ) → IsBytes bytes → Accepted bytes → body_bytes (cursor_in bytes) ≡ take (length bytes - 4) bytes
body-again bytes h a =
    let n : ℕ = range_count bytes in
    let size : length bytes - 4 ≡ 1 + (8 + 16 * n) = omega (arith, a.long, a.whole) in
    let parts : take (length bytes - 4) bytes ≡ take 1 bytes ++ (take 8 (drop 1 bytes) ++ take (16 * n) (drop 9 bytes)) = rw (size, take-add 1 (8 + 16 * n) bytes, take-add 8 (16 * n) (drop 1 bytes), drop-drop 8 1 bytes) in
    let version : 1 ∷ [] ≡ take 1 bytes = sym (first_byte bytes 1 (omega (arith, a.long)) a.version) in
    pieces {x = 1 ∷ []} version (le-number 8 1 bytes h (omega (arith, a.long))) (ranges-again n 9 bytes h (omega (arith, a.long))) ∙ sym parts

-- bytes that are accepted are those that encoding their cursor gives
pub cursor-again : (bytes : List ℕ) (c : Cursor) → IsBytes bytes → decode_cursor bytes ≡ done c → encode_cursor c ≡ bytes
unfolding encode_cursor
cursor-again bytes c h e =
    let d = decoded bytes c e in
    rw (← d.1) (ap sealed (body-again bytes h d.0) ∙ sym (sealed-of bytes h d.0.seal))

bytes-ranges : (l : List Range) → IsBytes (ranges_bytes l)
bytes-ranges [] = tt
bytes-ranges (r ∷ rs) = bytes-append (range_bytes r) (ranges_bytes rs) (bytes-append (le 8 r.start) (le 8 r.end) (bytes_le 8 r.start) (bytes_le 8 r.end)) (bytes-ranges rs)

pub bytes-cursor : (c : Cursor) → IsBytes (encode_cursor c)
unfolding encode_cursor
bytes-cursor c = bytes-sealed (body_bytes c) (omega arith, bytes-append (le 8 c.committed) (ranges_bytes c.ahead) (bytes_le 8 c.committed) (bytes-ranges c.ahead))
