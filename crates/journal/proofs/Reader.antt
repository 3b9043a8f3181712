-- The reader's steps over plain values: the copying loop has the first bytes of the payload in front, and behind them
-- what stood there. Assumes nothing.
use Prim.Native.Nat.{ℕ, zero, suc, ◌+◌, ◌*◌, ◌-◌, ◌≤◌, ◌<◌, min}
use native.Mathlib.Omega.{arith}
use native.Mathlib.Numerals.{add-one}
use native.Mathlib.Nat.{zero-add, add-zero, sub-zero}
use mathlib.Core.Path.{◌≡◌, sym, ap, ◌∙◌}
use mathlib.Core.Bool.{true, false}
use mathlib.Core.List.{List, ◌++◌, append_assoc}
use lib.ListN.{length, take, drop, length-take, length-drop}
use lib.Seq.{length-take-le, take-add, take_at, take-take, take-append-le, drop-append-add, drop-drop}
use borrow.Author.Tests.{lt-ltb, le-ltb}
use Rattle.types.specs.Refusal.{Result, refused, done}
use Rattle.types.specs.Refusal as refusal
use Rattle.types.specs.Table.{answer}
use Rattle.types.proofs.Cases.{split}
use Rattle.raw.specs.Bytes.{overwrite, write}
use Rattle.raw.proofs.Bytes.{part-part, length-overwrite, wrote}
use Rattle.journal.specs.declared.Header.{Header}
use Rattle.journal.specs.Area.{outside, block_at}
use Rattle.journal.specs.Blocks.{bodies_for, payload_length, content_of}
use Rattle.journal.specs.Walks.{contents, payload}
use Rattle.journal.specs.Answers.{read_payload, header_in}
use Rattle.journal.proofs.Area.{inside-says, says-inside, part_at, part-is, block-length}
use Rattle.journal.proofs.Sound.{differ}
use Rattle.journal.proofs.Group.{contents-length}

-- ## Contents
module _ (a : List ℕ) where
  -- the content of a block, as a part of the area
  content_part : (i m : ℕ) → m ≤ 500 → take m (content_of (block_at a i)) ≡ take m (drop (512 * i + 8) a)
  unfolding block_at
  content_part i m h =
      take-take m 500 (drop 8 (take 512 (drop (512 * i) a))) h ∙ part-part m 8 512 (512 * i) a (omega arith)

  content_length : (i : ℕ) → 512 * i + 512 ≤ length a → length (content_of (block_at a i)) ≡ 500
  content_length i h = simp (length-take, length-drop) (omega (arith, block-length a i h))

  contents-drop : (j n x : ℕ) → j ≤ n → 512 * (x + n) ≤ length a
      → drop (500 * j) (contents a n x) ≡ contents a (n - j) (x + j)
  contents-drop zero n x h f = rw (sub-zero, add-zero)
  contents-drop (suc j) zero x h f = absurd (omega arith)
  contents-drop (suc j) (suc n) x h f =
      let c : List ℕ = content_of (block_at a x) in
      let e : 500 * suc j ≡ length c + 500 * j = omega (arith, content_length x (omega arith)) in
      let m : suc n - suc j ≡ n - j = omega arith in
      let y : x + suc j ≡ suc x + j = omega arith in
      rw (e, m, y)
      (drop-append-add c (contents a n (suc x)) (500 * j) ∙ contents-drop j n (suc x) (omega arith) (omega arith))

  -- bytes of body j, counted from 0
  contents-part : (n x j m : ℕ) → j < n → m ≤ 500 → 512 * (x + n) ≤ length a
      → take m (drop (500 * j) (contents a n x)) ≡ take m (drop (512 * (x + j) + 8) a)
  contents-part n x j m h k f =
      let s : n - j ≡ suc (n - suc j) = omega arith in
      let c : List ℕ = content_of (block_at a (x + j)) in
      let l : m ≤ length c = omega (arith, content_length (x + j) (omega arith)) in
      rw (contents-drop j n x (omega arith) f, s)
      (take-append-le m c (contents a (n - suc j) (suc (x + j))) l ∙ content_part (x + j) m k)

-- ## The copy
-- the payload of t bytes in the bodies from block x on
abbrev payload_from : List ℕ → ℕ → ℕ → List ℕ
payload_from a x t = take t (contents a (bodies_for t) x)

part_length : (l : List ℕ) (n m : ℕ) → n + m ≤ length l → length (take m (drop n l)) ≡ m
part_length l n m h = simp (length-take, length-drop) (omega arith)

-- m bytes more behind the first n
front-more : (p before out : List ℕ) (n m : ℕ) → out ≡ take n p ++ drop n before → n + m ≤ length p
    → overwrite n (take m (drop n p)) out ≡ take (n + m) p ++ drop (n + m) before
front-more p before out n m e h =
    let c : length (take m (drop n p)) ≡ m = part_length p n m h in
    let f : length (take n p) ≡ n = length-take-le n p (omega arith) in
    let b : drop (n + m) (take n p ++ drop n before) ≡ drop (n + m) before =
    ap (λ k. drop (k + m) (take n p ++ drop n before)) (sym f)
    ∙ drop-append-add (take n p) (drop n before) m
    ∙ drop-drop m n before in
    rw (e, take_at (take n p) (drop n before) n f, c, b, take-add n m p)
    (sym (append_assoc (take n p) (take m (drop n p)) (drop (n + m) before)))

place-more : (d copied size total : ℕ) → copied ≡ min (500 * d) total → copied < total → size ≡ min 500 (total - copied)
    → (copied ≡ 500 * d) × (copied + size ≤ total) × (copied + size ≡ min (500 * (d + 1)) total)
place-more d copied size total e h f = (omega arith, omega arith, omega arith)

-- the bodies before block `at` are copied
pub record Copied (a : List ℕ) (first total : ℕ) (before out : List ℕ) (at copied : ℕ) : Type 0 where
  pub from : first ≤ at
  pub place : copied ≡ min (500 * (at - first)) total
  pub same : length out ≡ length before
  pub front : out ≡ take copied (payload_from a first total) ++ drop copied before

module _ (a : List ℕ) (first total : ℕ) (before : List ℕ)
    (fits : 512 * (first + bodies_for total) ≤ length a)
    (room : total ≤ length before) where
  abbrev all : List ℕ
  all = payload_from a first total

  all-length : length all ≡ total
  all-length = simp length-take (omega (arith, contents-length a (bodies_for total) first fits))

  module _ (out : List ℕ) (at copied : ℕ) (s : Copied a first total before out at copied) where
    pub copy_within : copied < total → at < first + bodies_for total
    copy_within h = omega (arith, s.place, s.from)

    -- the part of the area that is copied next
    module _ (size : ℕ) (h : copied < total) (e : size ≡ min 500 (total - copied)) where
      abbrev part : List ℕ
      part = take size (drop (512 * at + 8) a)

      part-next : take size (drop copied all) ≡ part
      part-next =
          let m = place-more (at - first) copied size total s.place h e in
          let x : first + (at - first) ≡ at = omega (arith, s.from) in
          let here : at - first < bodies_for total = omega (arith, copy_within h, s.from) in
          let few : size ≤ 500 = omega arith in
          part-part size copied total 0 (contents a (bodies_for total) first) m.1
          ∙ rw (zero-add, m.0) (rw x at (contents-part a (bodies_for total) first (at - first) size here few fits))

      pub copy_more : (o : Result ℕ) (after : List ℕ)
          → answer o after ≡ write copied (take (512 * at + 8 + size - (512 * at + 8)) (drop (512 * at + 8) a)) out
          → Copied a first total before after (at + 1) (copied + size)
      copy_more o after w =
          let m = place-more (at - first) copied size total s.place h e in
          let n : 512 * at + 8 + size - (512 * at + 8) ≡ size = omega arith in
          let y : at + 1 - first ≡ at - first + 1 = omega (arith, s.from) in
          let l : length part ≡ size = ap length (sym part-next) ∙ part_length all copied size (rw all-length m.1) in
          let fit : copied + length part ≤ length out = rw l (omega (arith, s.same, m.1)) in
          let put : after ≡ overwrite copied part out = wrote copied part out (rw n at w) fit in
          record {
            from = omega (arith, s.from);
            place = rw y m.2;
            same = ap length put ∙ length-overwrite copied part out fit ∙ s.same;
            front = put
                ∙ rw (← part-next) (front-more all before out copied size s.front (omega (arith, all-length)));
          }

-- ## The answer
outside-more : (n i m : ℕ) → outside n i ≡ true → outside n (i + m) ≡ true
outside-more n i m t =
    split (outside n (i + m)) (λ e. e)
    (λ e.
    let s = inside-says n (i + m) e in
    absurd (differ t (says-inside n i (record { area = s.area; fits = omega (arith, s.fits) }))))

module _ (a : List ℕ) (i : ℕ) (out : List ℕ) where
  pub read-nothing : outside (length a) i ≡ true → answer (refused refusal.BadArea) out ≡ read_payload i a out
  unfolding read_payload
  read-nothing t = rw (outside-more (length a) i (bodies_for (payload_length (block_at a i))) t)

  -- the header was read from the block
  module _ (h : Header) (read : h ≡ header_in (part_at a i)) (n : ℕ)
      (count : n ≡ bodies_for (h.cursor_len + h.attempt_len)) where
    abbrev size : ℕ
    size = h.cursor_len + h.attempt_len

    size_is : payload_length (block_at a i) ≡ size
    size_is = rw (read, part-is a i)

    pub read-outside : outside (length a) (i + n) ≡ true → answer (refused refusal.BadArea) out ≡ read_payload i a out
    unfolding read_payload
    read-outside t = rw (size_is, ← count, t)

    module _ (there : outside (length a) (i + n) ≡ false) where
      pub read_short : length out < size → answer (refused refusal.OutTooShort) out ≡ read_payload i a out
      unfolding read_payload
      read_short s = rw (size_is, ← count, there, lt-ltb (length out) size s)

      pub read_done : (after : List ℕ) → size ≤ length out → after ≡ payload_from a (i + 1) size ++ drop size out
          → answer (done size) after ≡ read_payload i a out
      unfolding read_payload payload
      read_done after s e = rw (size_is, ← count, there, le-ltb (length out) size s, count, e, add-one i)
