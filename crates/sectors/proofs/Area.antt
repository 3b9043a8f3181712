-- The fronts of a journal's sectors, put one after the other into an area, are the area of that journal; and each of its blocks is the
-- front of its own sector. Assumes nothing.
use Prim.Native.Nat.{ℕ, zero, suc, ◌+◌, ◌*◌, ◌≤◌, ◌<◌}
use native.Mathlib.Omega.{arith}
use native.Mathlib.Nat.{suc-mul, mul-le-mul_right}
use mathlib.Core.Path.{◌≡◌, refl, sym, ap, ◌∙◌}
use mathlib.Core.List.{List, ◌++◌, append_assoc, append-nil}
use lib.ListN.{length, take, drop, length-append, length-take, length-drop, drop_of_length-le}
use lib.Dec.{ltb}
use lib.Seq.{take_all, take_at, drop_at, drop-drop, take-append-le, drop-append-le}
use borrow.Author.Tests.{ne_eqb, ltb-true, ltb-false}
use Rattle.types.proofs.Cases.{split}
use Rattle.raw.specs.Bytes.{overwrite}
use Rattle.journal.specs.Area.{block_at, write_at}
use Rattle.journal.specs.Sound.{is_kind}
use Rattle.sectors.specs.File.{file_bytes, sector_of, sector_at, front, fronts_in, area_of, gathered, Gathers, BlocksApart, UnreadUnsound}

-- a block over another is its bytes over them
pub block-over : (a b : List ℕ) (i : ℕ) → length b ≡ 512 → overwrite (512 * i) b a ≡ write_at a i b
unfolding write_at
block-over a b i whole = rw whole

module _ (b journals j : ℕ) (file : List ℕ) (size : length file ≡ file_bytes b journals) (in-it : j < journals) where
  -- the sectors of the journal lie in the file
  front-whole : (i : ℕ) → i < b → length (front (sector_at file (sector_of b j i))) ≡ 512
  front-whole i h =
      let upto : suc j * b ≤ journals * b = mul-le-mul_right b in-it in
      simp (length-take, length-drop) (omega (arith, suc-mul j b, size))

  fronts-length : (n : ℕ) → n ≤ b → length (fronts_in b file j n) ≡ 512 * n
  unfolding fronts_in
  fronts-length zero h = refl
  fronts-length (suc n) h =
      simp length-append (omega (arith, fronts-length n (omega arith), front-whole n h))

  -- one more block behind n of them
  gathered-is : (a : List ℕ) (n : ℕ) → n ≤ b → 512 * n ≤ length a → gathered b file j n a ≡ fronts_in b file j n ++ drop (512 * n) a
  unfolding gathered fronts_in write_at
  gathered-is a zero h room = refl
  gathered-is a (suc n) h room =
      let B = fronts_in b file j n in
      let D = drop (512 * n) a in
      let F = front (sector_at file (sector_of b j n)) in
      let before : gathered b file j n a ≡ B ++ D = gathered-is a n (omega arith) (omega arith) in
      let long : length B ≡ 512 * n = fronts-length n (omega arith) in
      let more : 512 * n + 512 ≡ 512 * suc n = omega arith in
      let rest : drop (512 * n + 512) (B ++ D) ≡ drop (512 * suc n) a =
      sym (drop-drop 512 (512 * n) (B ++ D)) ∙ ap (drop 512) (drop_at B D (512 * n) long) ∙ drop-drop 512 (512 * n) a ∙ rw more in
      rw (before, take_at B D (512 * n) long, rest) (sym (append_assoc B F (drop (512 * suc n) a)))

  -- each block is where it was put
  front_at : (n i : ℕ) → n ≤ b → i < n → block_at (fronts_in b file j n) i ≡ front (sector_at file (sector_of b j i))
  unfolding fronts_in block_at
  front_at zero i h l = absurd (omega arith)
  front_at (suc n) i h l =
      let B = fronts_in b file j n in
      let F = front (sector_at file (sector_of b j n)) in
      let long : length B ≡ 512 * n = fronts-length n (omega arith) in
      split (ltb i n)
      (λ t.
      let less : i < n = ltb-true i n t in
      ap (take 512) (drop-append-le (512 * i) B F (omega arith))
      ∙ take-append-le 512 (drop (512 * i) B) F (simp length-drop (omega arith))
      ∙ front_at n i (omega arith) less)
      (λ t.
      let same : i ≡ n = omega (arith, ltb-false i n t) in
      rw (same, drop_at B F (512 * n) long) (take_all 512 F (omega (arith, front-whole n h))))

pub gathers : Gathers
unfolding Gathers
gathers b journals j file a size in-it whole =
    gathered-is b journals j file size in-it a b (omega arith) (omega arith)
    ∙ rw (drop_of_length-le a {i = 512 * b} (omega arith)) (append-nil (area_of b file j))

pub blocks-apart : BlocksApart
unfolding BlocksApart
blocks-apart b journals j i file size in-it h = front_at b journals j file size in-it b i (omega arith) h

pub unread-unsound : UnreadUnsound
unfolding UnreadUnsound is_kind
unread-unsound kind few = rw (ne_eqb 255 kind (λ e. omega arith))
