-- What is written reads back: the fields of a header, and the fields and the content of a body. Assumes nothing.
use Prim.Native.Nat.{ℕ, zero, suc, ◌+◌, ◌-◌, ◌≤◌, ◌<◌, ◌^◌}
use native.Mathlib.Omega.{arith}
use mathlib.Core.Path.{◌≡◌, refl, ap, ◌∙◌}
use mathlib.Core.Bool.{true}
use mathlib.Core.List.{List, ◌++◌, append_assoc}
use lib.ListN.{length, take, replicate, length-append, length-replicate}
use lib.Seq.{take_at, drop_at, drop-append-add}
use Rattle.raw.specs.Bytes.{all_zero, le}
use Rattle.raw.proofs.Bytes.{unle-le}
use Rattle.crc.specs.Crc32c.{crc}
use Rattle.crc.specs.Seal.{sealed, is_sealed}
use Rattle.crc.proofs.Seal.{sealed_ok, length-sealed}
use Rattle.journal.specs.Blocks.{
  bodies_for,
  opening,
  header_block,
  body_block,
  kind_of,
  group_of,
  body_count,
  ceiling_of,
  cursor_length,
  attempt_length,
  index_of,
  used_of,
  content_of,
}
use Rattle.journal.specs.Sound.{zeros_at}
use Rattle.journal.specs.declared.Header.{Header}
use Rattle.journal.specs.Answers.{header_in, header_bytes}

module _ (k ceiling lc la : ℕ) where
  pub header-length : length (header_block k ceiling lc la) ≡ 512
  unfolding header_block
  header-length = refl

  pub header-kind : kind_of (header_block k ceiling lc la) ≡ 1
  unfolding header_block
  header-kind = refl

  pub header-sealed : is_sealed (header_block k ceiling lc la) ≡ true
  unfolding header_block
  header-sealed =
      sealed_ok (opening 1 (bodies_for (lc + la)) 0 k ++ (le 8 ceiling ++ (le 2 lc ++ (le 2 la ++ replicate 488 0))))

  pub header-zeros : zeros_at 2 2 (header_block k ceiling lc la) ≡ true
  unfolding header_block
  header-zeros = refl

  pub header-rest : zeros_at 488 20 (header_block k ceiling lc la) ≡ true
  unfolding header_block
  header-rest = refl

  pub header-count : bodies_for (lc + la) < 256 → body_count (header_block k ceiling lc la) ≡ bodies_for (lc + la)
  unfolding header_block
  header-count h = omega arith

  pub header-number : k < 256 ^ 4 → group_of (header_block k ceiling lc la) ≡ k
  unfolding header_block
  header-number = unle-le 4 k

  pub header-ceiling : ceiling < 256 ^ 8 → ceiling_of (header_block k ceiling lc la) ≡ ceiling
  unfolding header_block
  header-ceiling = unle-le 8 ceiling

  pub header-cursor : lc < 256 ^ 2 → cursor_length (header_block k ceiling lc la) ≡ lc
  unfolding header_block
  header-cursor = unle-le 2 lc

  pub header_attempt : la < 256 ^ 2 → attempt_length (header_block k ceiling lc la) ≡ la
  unfolding header_block
  header_attempt = unle-le 2 la

-- a header written says what it was given
pub header-back : (h : Header)
    → h.number < 256 ^ 4 → h.ceiling < 256 ^ 8 → h.cursor_len < 256 ^ 2 → h.attempt_len < 256 ^ 2
    → header_in (header_bytes h) ≡ h
header-back h k c l a =
    rw (
      header-number h.number h.ceiling h.cursor_len h.attempt_len k,
      header-ceiling h.number h.ceiling h.cursor_len h.attempt_len c,
      header-cursor h.number h.ceiling h.cursor_len h.attempt_len l,
      header_attempt h.number h.ceiling h.cursor_len h.attempt_len a,
    )

pub zeros : (n : ℕ) → all_zero (replicate n 0) ≡ true
zeros zero = refl
zeros (suc n) = zeros n

module _ (k j : ℕ) (chunk : List ℕ) (few : length chunk ≤ 500) where
  abbrev fields : List ℕ
  fields = opening 2 j (length chunk) k

  abbrev padded : List ℕ
  padded = chunk ++ replicate (500 - length chunk) 0

  body_is : body_block k j chunk ≡ sealed (fields ++ padded)
  unfolding body_block
  body_is = refl

  padded-length : length padded ≡ 500
  padded-length = simp (length-append, length-replicate) (omega arith)

  inner_length : length (fields ++ padded) ≡ 508
  inner_length = length-append fields padded ∙ omega (arith, padded-length)

  pub body-length : length (body_block k j chunk) ≡ 512
  body-length = ap length body_is ∙ length-sealed (fields ++ padded) ∙ omega (arith, inner_length)

  pub body-kind : kind_of (body_block k j chunk) ≡ 2
  unfolding body_block
  body-kind = refl

  pub body-sealed : is_sealed (body_block k j chunk) ≡ true
  body-sealed = rw body_is (sealed_ok (fields ++ padded))

  pub body-index : j < 256 → index_of (body_block k j chunk) ≡ j
  unfolding body_block
  body-index h = omega arith

  pub body-used : used_of (body_block k j chunk) ≡ length chunk
  unfolding body_block
  body-used = unle-le 2 (length chunk) (omega arith)

  pub body-number : k < 256 ^ 4 → group_of (body_block k j chunk) ≡ k
  unfolding body_block
  body-number = unle-le 4 k

  pub body_content : content_of (body_block k j chunk) ≡ padded
  unfolding body_block
  body_content = take_at padded (le 4 (crc (fields ++ padded))) 500 padded-length

  -- the payload bytes in front of the zeros
  pub body-payload : take (length chunk) (content_of (body_block k j chunk)) ≡ chunk
  body-payload = rw body_content (take_at chunk (replicate (500 - length chunk) 0) (length chunk) refl)

  pub body-rest : zeros_at (500 - length chunk) (8 + length chunk) (body_block k j chunk) ≡ true
  body-rest =
      let n : ℕ = 500 - length chunk in
      let check : List ℕ = le 4 (crc (fields ++ padded)) in
      rw (
        body_is,
        append_assoc fields padded check,
        drop-append-add fields (padded ++ check) (length chunk),
        append_assoc chunk (replicate n 0) check,
        drop_at chunk (replicate n 0 ++ check) (length chunk) refl,
        take_at (replicate n 0) check n (length-replicate n 0),
      )
      (zeros n)
