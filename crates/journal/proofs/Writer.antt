-- The block writer's steps over plain lists: zeros, then the fields one after another, then the check, make the block
-- as it is laid down. Assumes nothing.
use Prim.Native.Nat.{ℕ, zero, suc, ◌+◌, ◌*◌, ◌-◌, ◌%◌, ◌≤◌, ◌<◌, min}
use native.Mathlib.Omega.{arith}
use native.Mathlib.Nat.{sub-zero, zero-sub}
use native.Mathlib.Decide.{dec_le}
use mathlib.Core.Path.{◌≡◌, refl, sym, ap, ◌∙◌}
use mathlib.Core.Bool.{true, false}
use mathlib.Core.List.{List, ◌∷◌, ◌++◌}
use lib.ListN.{length, take, drop, set, replicate, length-drop, drop_of_length-le}
use lib.Seq.{take_all, take_at, take-append-add, drop-append-add, drop-drop}
use borrow.Author.Tests.{eq-eqb, ne_eqb}
use Rattle.types.specs.Refusal.{Result, refused, done}
use Rattle.types.specs.Refusal as refusal
use Rattle.types.specs.Table.{Answer, answer}
use Rattle.raw.specs.Bytes.{le, overwrite, write}
use Rattle.raw.proofs.Bytes.{wrote}
use Rattle.crc.specs.Crc32c.{crc}
use Rattle.crc.specs.Seal.{sealed}
use Rattle.journal.specs.Blocks.{bodies_for, chunk_of, opening, header_block, body_block}
use Rattle.journal.specs.Area.{outside, write_at}
use Rattle.journal.specs.Answers.{fill, write_block}
use Rattle.journal.proofs.Area.{inside-says, part_at, part-is, block-length}

-- ## The check
pub seal-made : (before after : List ℕ) (check : ℕ) (o : Result ℕ) → length before ≡ 512 → check ≡ crc (take 508 before)
    → answer o after ≡ write 508 (le 4 check) before → after ≡ sealed (take 508 before)
seal-made before after check o whole is written =
    wrote 508 (le 4 check) before written (omega arith)
    ∙ rw (is, drop_of_length-le before {i = 512} (omega arith))

-- ## The first eight bytes
module _ (kind second third k : ℕ) (b₀ b₁ b₂ b₃ : List ℕ) (o₁ o₂ : Result ℕ)
    (whole : length b₀ ≡ 512)
    (byte : second < 256)
    (zeros : b₁ ≡ replicate (length b₀) 0)
    (e₁ : answer o₁ b₂ ≡ write 2 (le 2 third) (set (set b₁ 0 kind) 1 second))
    (e₂ : answer o₂ b₃ ≡ write 4 (le 4 k) b₂) where
  pub opened : b₃ ≡ opening kind second third k ++ replicate 504 0
  opened =
      let low : second % 256 ≡ second = omega arith in
      let z : b₁ ≡ replicate 512 0 = zeros ∙ rw whole in
      let x₁ : List ℕ = set (set (replicate 512 0) 0 kind) 1 second in
      let q₁ : b₂ ≡ overwrite 2 (le 2 third) x₁ = wrote 2 (le 2 third) x₁ (rw z at e₁) (omega arith) in
      let x₂ : List ℕ = overwrite 2 (le 2 third) x₁ in
      wrote 4 (le 4 k) x₂ (rw q₁ at e₂) (omega arith) ∙ rw low

-- ## A header
module _ (k ceiling lc la n : ℕ) (b₀ b₁ b₂ b₃ b₄ : List ℕ) (o₁ o₂ o₃ : Result ℕ)
    (count : n ≡ bodies_for (lc + la) % 256)
    (e₀ : b₀ ≡ opening 1 n 0 k ++ replicate 504 0)
    (e₁ : answer o₁ b₁ ≡ write 8 (le 8 ceiling) b₀)
    (e₂ : answer o₂ b₂ ≡ write 16 (le 2 lc) b₁)
    (e₃ : answer o₃ b₃ ≡ write 18 (le 2 la) b₂)
    (e₄ : b₄ ≡ sealed (take 508 b₃)) where
  pub header_made : b₄ ≡ header_block k ceiling lc la
  unfolding header_block
  header_made =
      let low : n % 256 ≡ bodies_for (lc + la) % 256 = omega arith in
      let x₀ : List ℕ = opening 1 n 0 k ++ replicate 504 0 in
      let q₁ : b₁ ≡ overwrite 8 (le 8 ceiling) x₀ = wrote 8 (le 8 ceiling) x₀ (rw e₀ at e₁) (omega arith) in
      let x₁ : List ℕ = overwrite 8 (le 8 ceiling) x₀ in
      let q₂ : b₂ ≡ overwrite 16 (le 2 lc) x₁ = wrote 16 (le 2 lc) x₁ (rw q₁ at e₂) (omega arith) in
      let x₂ : List ℕ = overwrite 16 (le 2 lc) x₁ in
      let q₃ : b₃ ≡ overwrite 18 (le 2 la) x₂ = wrote 18 (le 2 la) x₂ (rw q₂ at e₃) (omega arith) in
      e₄ ∙ rw (q₃, low)

-- ## A body
module _ {A : Type 0} (x : A) where
  take-replicate : (m n : ℕ) → m ≤ n → take m (replicate n x) ≡ replicate m x
  take-replicate zero n h = refl
  take-replicate (suc m) zero h = absurd (omega arith)
  take-replicate (suc m) (suc n) h = ap (λ l. x ∷ l) (take-replicate m n (omega arith))

  drop-replicate : (m n : ℕ) → drop m (replicate n x) ≡ replicate (n - m) x
  drop-replicate zero n = rw sub-zero
  drop-replicate (suc m) zero = rw zero-sub
  drop-replicate (suc m) (suc n) =
      let e : n - m ≡ suc n - suc m = omega arith in
      drop-replicate m n ∙ ap (λ k. replicate k x) e

-- bytes written over zeros behind the fields, and cut off before the check
padded : (fields chunk : List ℕ) → length fields ≡ 8 → length chunk ≤ 500
    → take 508 (overwrite 8 chunk (fields ++ replicate 504 0)) ≡ fields ++ (chunk ++ replicate (500 - length chunk) 0)
padded fields chunk e h =
    let at : 8 + length chunk ≡ length fields + length chunk = omega arith in
    let all : 508 ≡ length fields + (length chunk + (500 - length chunk)) = omega arith in
    rw (
      take_at fields (replicate 504 0) 8 e,
      at,
      drop-append-add fields (replicate 504 0) (length chunk),
      drop-replicate zero (length chunk) 504,
    )
    (ap (λ n. take n (fields ++ (chunk ++ replicate (504 - length chunk) 0))) all
    ∙ take-append-add fields (chunk ++ replicate (504 - length chunk) 0) (length chunk + (500 - length chunk))
    ∙ ap (λ l. fields ++ l) (take-append-add chunk (replicate (504 - length chunk) 0) (500 - length chunk)
    ∙ ap (λ l. chunk ++ l) (take-replicate zero (500 - length chunk) (504 - length chunk) (omega arith))))

module _ (k j : ℕ) (chunk : List ℕ) (b₀ b₁ b₂ : List ℕ) (o : Result ℕ)
    (few : length chunk ≤ 500)
    (e₀ : b₀ ≡ opening 2 j (length chunk) k ++ replicate 504 0)
    (e₁ : answer o b₁ ≡ write 8 chunk b₀)
    (e₂ : b₂ ≡ sealed (take 508 b₁)) where
  pub body-made : b₂ ≡ body_block k j chunk
  unfolding body_block
  body-made =
      let x₀ : List ℕ = opening 2 j (length chunk) k ++ replicate 504 0 in
      let q₁ : b₁ ≡ overwrite 8 chunk x₀ = wrote 8 chunk x₀ (rw e₀ at e₁) (omega arith) in
      e₂ ∙ ap sealed (ap (take 508) q₁ ∙ padded (opening 2 j (length chunk) k) chunk refl few)

-- a place or a number of elements past the end is as good as the end
module _ {A : Type 0} (l : List A) (n : ℕ) where
  take_min : take (min n (length l)) l ≡ take n l
  take_min =
      elim (dec_le (length l) n) [
        | yes h ↦ take_all (min n (length l)) l (omega arith) ∙ sym (take_all n l h)
        | no h ↦ let e : min n (length l) ≡ n = omega arith in rw e
      ]

  drop_min : drop (min n (length l)) l ≡ drop n l
  drop_min =
      elim (dec_le (length l) n) [
        | yes h ↦ drop_of_length-le l {i = min n (length l)} (omega arith) ∙ sym (drop_of_length-le l {i = n} h)
        | no h ↦ let e : min n (length l) ≡ n = omega arith in rw e
      ]

-- the part of a payload that the code takes is the chunk of the body
pub chunk_part : (j from to : ℕ) (p : List ℕ) → from ≡ min (500 * (j - 1)) (length p) → to ≡ min (from + 500) (length p)
    → take (to - from) (drop from p) ≡ chunk_of j p
chunk_part j from to p e f =
    let l : length (drop from p) ≡ length p - from = length-drop from p in
    let n : to - from ≡ min 500 (length (drop from p)) = omega arith in
    rw (n, take_min (drop from p) 500, e, drop_min p (500 * (j - 1)))

-- ## The answer
module _ (b part : List ℕ) where
  pub fill-whole : (after : List ℕ) → length part ≡ 512 → after ≡ b → answer (done tt) after ≡ fill b part
  unfolding fill
  fill-whole after h e = rw (eq-eqb (length part) 512 h, e)

  pub fill-refused : (length part ≡ 512 → ⊥) → answer (refused refusal.BadArea) part ≡ fill b part
  unfolding fill
  fill-refused n = rw (ne_eqb (length part) 512 n)

-- a block handed on as a part of the area, and put back filled
module _ (a : List ℕ) (i : ℕ) (b : List ℕ) where
  pub outside-refused : outside (length a) i ≡ true → answer (refused refusal.BadArea) a ≡ write_block i b a
  unfolding write_block
  outside-refused t = rw t

  pub part_filled : (part : List ℕ) (o : Result (Unit {0})) → outside (length a) i ≡ false
      → answer o part ≡ fill b (part_at a i)
      → answer o (take (512 * i) a ++ (part ++ drop (512 * i + 512 - 512 * i) (drop (512 * i) a))) ≡ write_block i b a
  unfolding write_block write_at
  part_filled part o t f =
      let n : 512 * i + 512 - 512 * i ≡ 512 = omega arith in
      let whole : length (part_at a i) ≡ 512 =
      ap length (part-is a i) ∙ block-length a i (inside-says (length a) i t).fits in
      let q : answer o part ≡ answer (done tt) b = f ∙ sym (fill-whole b (part_at a i) b whole refl) in
      let outcome : o ≡ done tt = ap (λ (x : Answer (Unit {0}) (List ℕ)). x.outcome) q in
      let state : part ≡ b = ap (λ (x : Answer (Unit {0}) (List ℕ)). x.state) q in
      rw (outcome, state, t, n, drop-drop 512 (512 * i) a)
