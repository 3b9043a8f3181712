-- What the encoder's functions write, over plain values. Assumes nothing.
use Prim.Native.Nat.{ℕ, ◌+◌, ◌-◌, ◌*◌, ◌≤◌, ◌<◌}
use native.Mathlib.Omega.{arith}
use mathlib.Core.Path.{◌≡◌, refl, sym, ◌∙◌}
use mathlib.Core.List.{List, [], ◌∷◌}
use lib.ListN.{length, take, drop, get_or, set}
use Rattle.types.specs.Refusal.{Result, refused, done, OutTooShort}
use Rattle.types.specs.Table.{answer}
use Rattle.types.specs.Zipped.{zipped}
use Rattle.raw.specs.Bytes.{le, overwrite, write}
use Rattle.raw.proofs.Bytes.{length-overwrite, overwrite_none, overwrite-byte, overwrite-append, write-room, write-short, wrote, wrote-next, wrote-behind}
use Rattle.crc.specs.Crc32c.{crc}
use Rattle.crc.proofs.Seal.{length-sealed, sealed-put}
use Rattle.cursor.specs.Ranges.{range}
use Rattle.cursor.specs.Cursor.{Cursor}
use Rattle.cursor.specs.Snapshot.{range_bytes, ranges_bytes, body_bytes, encode_cursor}
use Rattle.cursor.specs.declared.Range.{Range}
use Rattle.cursor.proofs.Snapshot.{length-body, cursor-length}
use Rattle.cursor.proofs.View.{ranges-from, ranges-over}

-- the loop of `write_ranges`: the ranges that are left, written from the next place on
module _ (n : ℕ) (s e : List ℕ) (hs : n ≤ length s) (he : n ≤ length e) (i at : ℕ) (out : List ℕ) where
  abbrev pos : ℕ
  pos = at + 16 * i

  abbrev left : ℕ → List ℕ
  left k = ranges_bytes (drop k (zipped range (take n s) (take n e)))

  pub put-more : (o₁ o₂ : List ℕ) {r₁ r₂ : Result ℕ} → i < n → pos + 16 ≤ length out
      → answer r₁ o₁ ≡ write pos (le 8 (get_or s i 0)) out → answer r₂ o₂ ≡ write (pos + 8) (le 8 (get_or e i 0)) o₁
      → overwrite (at + 16 * (i + 1)) (left (i + 1)) o₂ ≡ overwrite pos (left i) out
  put-more o₁ o₂ h room p q =
      let r : Range = range (get_or s i 0) (get_or e i 0) in
      let first : o₁ ≡ overwrite pos (le 8 (get_or s i 0)) out = wrote pos (le 8 (get_or s i 0)) out p (omega arith) in
      let both : o₂ ≡ overwrite pos (range_bytes r) out = wrote-behind (pos + 8) (le 8 (get_or e i 0)) o₁ q pos (le 8 (get_or s i 0)) out refl first (omega arith) in
      let next : at + 16 * (i + 1) ≡ pos + 16 = omega arith in
      rw (next, both, ranges-from n s e hs he i h) (overwrite-append pos (range_bytes r) (left (i + 1)) out room)

  pub put-end : n ≤ i → overwrite pos (left i) out ≡ out
  put-end h = rw (ranges-over n s e hs he i h) (overwrite_none pos out)

-- `write_body`: the version, then committed, then the ranges
pub body-put : (c : Cursor) (n at : ℕ) (bs o₁ o₂ : List ℕ) {r : Result ℕ} → length c.ahead ≡ n → at + (9 + 16 * n) ≤ length bs
    → answer r o₁ ≡ write (at + 1) (le 8 c.committed) (set bs at 1)
    → o₂ ≡ overwrite (at + 9) (ranges_bytes c.ahead) o₁
    → o₂ ≡ overwrite at (body_bytes c) bs
body-put c n at bs o₁ o₂ size room committed ranges =
    let byte : set bs at 1 ≡ overwrite at (1 ∷ []) bs = overwrite-byte at 1 bs (omega arith) in
    let head : o₁ ≡ overwrite at (1 ∷ le 8 c.committed) bs = wrote-behind (at + 1) (le 8 c.committed) (set bs at 1) committed at (1 ∷ []) bs refl byte (omega arith) in
    ranges ∙ rw head (overwrite-append at (1 ∷ le 8 c.committed) (ranges_bytes c.ahead) bs (omega arith))

-- what `encode_snapshot` answers, without room and with it
module _ (c : Cursor) (n at : ℕ) (bs : List ℕ) (size : length c.ahead ≡ n) where
  pub too_short : length bs < at + (13 + 16 * n) → answer (refused OutTooShort) bs ≡ write at (encode_cursor c) bs
  too_short h = sym (write-short at (encode_cursor c) bs (omega (arith, cursor-length c)))

  pub encoded : (o₁ o₂ : List ℕ) (check k : ℕ) {r : Result ℕ} → at + (13 + 16 * n) ≤ length bs → k ≡ 9 + 16 * n
      → o₁ ≡ overwrite at (body_bytes c) bs → check ≡ crc (take (at + k - at) (drop at o₁)) → answer r o₂ ≡ write (at + k) (le 4 check) o₁
      → answer r o₂ ≡ write at (encode_cursor c) bs
  unfolding encode_cursor
  encoded o₁ o₂ check k {r} room e put sum seal =
      let body : length (body_bytes c) ≡ k = omega (arith, length-body c) in
      let part : at + k - at ≡ k = omega arith in
      let long : length o₁ ≡ length bs = rw put (length-overwrite at (body_bytes c) bs (omega arith)) in
      let whole = length-sealed (body_bytes c) in
      let next : at + k + 4 ≡ at + length (encode_cursor c) = omega arith in
      let outcome : r ≡ done (at + k + 4) = wrote-next (at + k) (le 4 check) o₁ seal (omega arith) in
      let bytes : o₂ ≡ overwrite at (encode_cursor c) bs = sealed-put (body_bytes c) k at bs o₁ o₂ check body (omega arith) put (rw part at sum) seal in
      rw (outcome, bytes, next) (sym (write-room at (encode_cursor c) bs (omega arith)))
