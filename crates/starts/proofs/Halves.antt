-- Where a restart begins to read: the half that it takes lies in the area, and goes by the first blocks of both halves alone; the
-- second half begins with a group. Assumes nothing.
use Prim.Native.Nat.{ℕ, ◌+◌, ◌*◌, ◌≤◌, ◌<◌}
use native.Mathlib.Omega.{arith}
use mathlib.Core.Path.{◌≡◌, refl, sym, ap, ◌∙◌}
use Rattle.std.specs.Prelude.{Some, None}
use Rattle.std.specs.Prelude as std
use mathlib.Core.Bool.{Bool, true, false, cond}
use mathlib.Core.List.{List}
use lib.Dec.{ltb}
use lib.ListN.{length, take, drop, length-take, length-drop}
use borrow.Author.Tests.{ne_eqb, le-leb, lt-leb}
use Rattle.types.specs.Limits.{MAX32}
use Rattle.types.proofs.Cases.{split, both}
use Rattle.raw.specs.Bytes.{IsBytes}
use Rattle.raw.proofs.Bytes.{number_lt}
use Rattle.journal.specs.Area.{blocks, block_at}
use Rattle.journal.specs.Blocks.{group_of}
use Rattle.journal.specs.Sound.{is_kind, has_header_kind, well_formed, sound_but_number}
use Rattle.journal.specs.Answers.{header_in}
use Rattle.journal.specs.declared.Header.{Header}
use Rattle.journal.proofs.Area.{part_at, part-is}
use Rattle.journal.proofs.Sound.{headless}
use Rattle.consumer.specs.State.{next_group_at, half_blocks}
use Rattle.starts.specs.Restart.{opens, first_number, second_wins, origin, limit, unfit_at}
use Rattle.starts.specs.Starting.{OpeningIs}

pub data Origin (a : List ℕ) : Type 0 where
  first : second_wins a ≡ false → (origin a).block ≡ 0 → (origin a).number ≡ cond (opens a 0) (first_number a 0) 1 → Origin a
  second : opens a (half_blocks (length a)) ≡ true → (origin a).block ≡ half_blocks (length a)
      → (origin a).number ≡ first_number a (half_blocks (length a)) → Origin a

pub origin-is : (a : List ℕ) → Origin a
unfolding origin
origin-is a =
    split (second_wins a)
    (λ t. second (both (opens a (half_blocks (length a))) _ t).0 (rw t) (rw t))
    (λ t. first t (rw t) (rw t))

-- the half that is read lies in the area
pub limit-within : (a : List ℕ) → ((origin a).block ≤ limit a) × (limit a ≤ blocks a)
limit-within a = go (origin-is a)
  where
    go : Origin a → ((origin a).block ≤ limit a) × (limit a ≤ blocks a)
    go (first t b n) = omega (arith, b)
    go (second t b n) = omega (arith, b)

-- areas of one length with the same first blocks of their halves
pub origin-same : (a a' : List ℕ) → length a' ≡ length a → block_at a' 0 ≡ block_at a 0
    → block_at a' (half_blocks (length a)) ≡ block_at a (half_blocks (length a)) → origin a' ≡ origin a
unfolding origin
origin-same a a' size one two = rw (size, one, two)

-- a first number is a u32
pub origin-fits : (a : List ℕ) → ((i : ℕ) → IsBytes (block_at a i)) → (origin a).number ≤ MAX32
origin-fits a h = go (origin-is a)
  where
    fits : (i : ℕ) → first_number a i ≤ MAX32
    fits i = omega (arith, number_lt 4 4 (block_at a i) (h i))

    chosen : (b : Bool) → cond b (first_number a 0) 1 ≤ MAX32
    chosen true = fits 0
    chosen false = omega arith

    go : Origin a → (origin a).number ≤ MAX32
    go (first t b n) = rw n (chosen (opens a 0))
    go (second t b n) = rw n (fits (half_blocks (length a)))

-- ## Blocks that are no headers
module _ (a : List ℕ) (i : ℕ) (h : has_header_kind (block_at a i) ≡ false) where
  pub opens_not : opens a i ≡ false
  opens_not = headless (i + half_blocks (length a)) (group_of (block_at a i)) i (block_at a i) h

  pub not_unfit : (k : ℕ) → unfit_at a k i ≡ false
  unfolding well_formed
  not_unfit k = split (ltb i (limit a)) (λ t. rw (t, h)) (λ t. rw t)

-- where neither half opens, the first one is read, and 1 is expected
pub origin_none : (a : List ℕ) → opens a 0 ≡ false → opens a (half_blocks (length a)) ≡ false → origin a ≡ next_group_at 1 0
unfolding origin
origin_none a one two = rw (two, one)

-- ## As the code finds it
-- a part of the area that is no block opens nothing
pub opens-short : (a : List ℕ) (i : ℕ) → length a < 512 * i + 512 → opens a i ≡ false
unfolding block_at is_kind
opens-short a i h = opens_not a i (rw (ne_eqb (length (take 512 (drop (512 * i) a))) 512 (λ q. omega (arith, simp (length-take, length-drop) at q))))

-- a block is tested under its own number
module _ (a : List ℕ) (i half : ℕ) (e : half ≡ half_blocks (length a)) (t : Bool) (sound : t ≡ sound_but_number (i + half) i (part_at a i)) where
  pub opens-tested : opens a i ≡ t
  opens-tested = sym (sound ∙ rw (e, part-is a i))

  pub opens-found : t ≡ true → (h : Header) → h ≡ header_in (part_at a i) → OpeningIs a i (Some h.number)
  opens-found u h is = (opens-tested ∙ u, ap (λ (x : Header). x.number) is ∙ rw (part-is a i))

-- ## The half that opens under the greater number
pub origin-first : (a : List ℕ) → opens a 0 ≡ true
    → (opens a (half_blocks (length a)) ≡ true → first_number a (half_blocks (length a)) ≤ first_number a 0)
    → origin a ≡ next_group_at (first_number a 0) 0
unfolding origin
origin-first a t r =
    split (opens a (half_blocks (length a)))
    (λ u. rw (t, u, le-leb (first_number a (half_blocks (length a))) (first_number a 0) (omega (arith, r u))))
    (λ u. rw (u, t))

pub origin-second : (a : List ℕ) → opens a (half_blocks (length a)) ≡ true
    → (opens a 0 ≡ true → first_number a 0 < first_number a (half_blocks (length a)))
    → origin a ≡ next_group_at (first_number a (half_blocks (length a))) (half_blocks (length a))
unfolding origin
origin-second a t r =
    split (opens a 0)
    (λ u. rw (t, u, lt-leb (first_number a (half_blocks (length a))) (first_number a 0) (r u)))
    (λ u. rw (t, u))

-- ## The openings of both halves, as the code finds them
module _ (a : List ℕ) (f s : std.Option ℕ) (one : OpeningIs a 0 f) (two : OpeningIs a (half_blocks (length a)) s) where
  pub at-second : (n m : ℕ) → s ≡ Some n → m ≡ half_blocks (length a) → ((k : ℕ) → f ≡ Some k → k < n) → next_group_at n m ≡ origin a
  at-second n m p e under =
      let second = rw p at two in
      rw (e, second.1) (sym (origin-second a second.0 (go f refl)))
    where
      go : (o : std.Option ℕ) → f ≡ o → opens a 0 ≡ true → first_number a 0 < first_number a (half_blocks (length a))
      go (Some k) q t =
          let first = rw q at one in
          let second = rw p at two in
          omega (arith, first.1, second.1, under k q)
      go None q t = absurd (let first : opens a 0 ≡ false = rw q at one in cc)

  pub at-first : (k : ℕ) → f ≡ Some k → ((n : ℕ) → s ≡ Some n → n ≤ k) → next_group_at k 0 ≡ origin a
  at-first k p over =
      let first = rw p at one in
      rw first.1 (sym (origin-first a first.0 (go s refl)))
    where
      go : (o : std.Option ℕ) → s ≡ o → opens a (half_blocks (length a)) ≡ true → first_number a (half_blocks (length a)) ≤ first_number a 0
      go (Some n) q t =
          let first = rw p at one in
          let second = rw q at two in
          omega (arith, first.1, second.1, over n q)
      go None q t = absurd (let second : opens a (half_blocks (length a)) ≡ false = rw q at two in cc)

  pub at_none : f ≡ None → s ≡ None → next_group_at 1 0 ≡ origin a
  at_none p q = sym (origin_none a (rw p at one) (rw q at two))
