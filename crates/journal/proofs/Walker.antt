-- The walker's steps over plain values. In the loop over the bodies of a group, the first unsound one is to be found
-- among those that are left; a turn reads its block as a part of the area; in the walk's loop, the rest of the walk
-- answers what the whole answers; in the search behind a block, none of those before has kind 1 and a right check.
-- Assumes nothing.
use Prim.Native.Nat.{ℕ, suc, ◌+◌, ◌*◌, ◌-◌, ◌/◌, ◌≤◌, ◌<◌, ◌^◌, min}
use native.Mathlib.Omega.{arith}
use native.Mathlib.Decide.{dec_lt}
use native.Mathlib.Numerals.{add-one}
use mathlib.Core.Path.{◌≡◌, refl, sym, ap, ◌∙◌}
use mathlib.Core.Bool.{Bool, true, false}
use mathlib.Core.List.{List}
use mathlib.Core.Option.{Option, none, some}
use lib.ListN.{length, drop, length-take, length-drop}
use Rattle.types.specs.Refusal.{Refusal, Result, refused, done, BadArea, Damaged}
use Rattle.raw.specs.Bytes.{IsBytes}
use Rattle.raw.proofs.Bytes.{bytes_take, bytes_drop, number_lt}
use Rattle.journal.specs.Area.{bad_length, blocks, block_at}
use Rattle.journal.specs.Blocks.{Counted, used_in, body_count, cursor_length, attempt_length}
use Rattle.journal.specs.Sound.{has_header_kind, sound_header, sound_body}
use Rattle.journal.specs.Walks.{first_unsound, Found, nothing, unsound, group, or_unsound, group_at, Stop, stop, after, walk_from, walk, header_behind}
use Rattle.journal.specs.Answers.{turn_of, walk_in}
use Rattle.journal.proofs.Area.{part_at, part-is}
use Rattle.journal.proofs.Sound.{Header, header-says, well_formed_counted, no_kind}
use Rattle.journal.proofs.Walks.{says_nothing, says-bodies, group-says, past_end, walk_turn, none-behind, some-behind}

-- ## The bodies of a group
module _ (a : List ℕ) (k i n t : ℕ) where
  -- the bodies before j are sound
  pub record Scanned (j : ℕ) : Type 0 where
    pub first : 1 ≤ j
    pub most : j ≤ n + 1
    pub rest : first_unsound a k i n t (n + 1 - j) j ≡ first_unsound a k i n t n 1

  module _ (j : ℕ) (s : Scanned j) where
    -- what the test of body j found
    module _ (used : ℕ) (u : Bool) (h : j ≤ n)
        (is : used ≡ used_in j n t)
        (test : u ≡ sound_body k j used (part_at a (i + j))) where
      tested : sound_body k j (used_in j n t) (block_at a (i + j)) ≡ u
      tested = sym (test ∙ rw (is, part-is a (i + j)))

      left : n + 1 - j ≡ suc (n - j)
      left = omega arith

      pub scan_more : u ≡ true → Scanned (j + 1)
      scan_more e =
          let m : n + 1 - (j + 1) ≡ n - j = omega arith in
          let q : j + 1 ≡ suc j = omega arith in
          record { first = omega arith; most = omega arith; rest = rw (m, q) (rw (left, tested, e) at s.rest) }

      pub scan_unsound : u ≡ false → refused (Damaged (i + j)) ≡ turn_of (or_unsound (first_unsound a k i n t n 1) (i + suc n))
      scan_unsound e = rw (← s.rest, left, tested, e)

-- ## A turn
module _ (a : List ℕ) (hi k i : ℕ) where
  abbrev part : List ℕ
  part = part_at a i

  module _ (u : Bool) (test : u ≡ sound_header hi k i part) where
    tested-header : sound_header hi k i (block_at a i) ≡ u
    tested-header = sym (test ∙ rw (part-is a i))

    pub turn-nothing : u ≡ false → done none ≡ turn_of (group_at a hi k i)
    turn-nothing e = rw (says_nothing a hi k i (tested-header ∙ e))

    module _ (e : u ≡ true) (lc la : ℕ) (c : lc ≡ cursor_length part) (t : la ≡ attempt_length part) where
      sound : Header hi k i part
      sound = header-says hi k i part (sym test ∙ e)

      -- the bodies that the header counts lie in the area
      pub turn-counted : 512 * hi ≤ length a
          → Counted (body_count part) (lc + la) × (512 * (i + 1 + body_count part) ≤ length a)
      turn-counted h = (rw (c, t) (well_formed_counted part sound.form), omega (arith, sound.fits))

      pub turn-bodies : (r : Result (Option ℕ))
          → r ≡ turn_of (or_unsound (first_unsound a k i (body_count part) (lc + la) (body_count part) 1) (i + suc (body_count part)))
          → r ≡ turn_of (group_at a hi k i)
      turn-bodies r q = q ∙ rw (c, t, part-is a i) (sym (ap turn_of (says-bodies a hi k i (tested-header ∙ e))))

-- what a turn answered is what it found
pub found-nothing : (f : Found) → done none ≡ turn_of f → f ≡ nothing
found-nothing nothing h = refl
found-nothing (unsound j) h = absurd (cc)
found-nothing (group e) h = absurd (cc)

pub found-group : (f : Found) (e : ℕ) → done (some e) ≡ turn_of f → f ≡ group e
found-group nothing e h = absurd (cc)
found-group (unsound j) e h = absurd (cc)
found-group (group g) e h = cc

-- ## The walk
module _ (a : List ℕ) (hi : ℕ) (last : Option ℕ) (k i : ℕ) (w : Result Stop) (so_far : walk_from a hi last k i ≡ w) where
  turned : after (group_at a hi k i) (stop last k i) (λ e. walk_from a hi (some i) (suc k) e) ≡ w
  turned = sym (walk_turn a hi last k i) ∙ so_far

  pub walk_ends : group_at a hi k i ≡ nothing → stop last k i ≡ w
  walk_ends e = rw e at turned

  pub walk-past : hi ≤ i → stop last k i ≡ w
  walk-past h = walk_ends (past_end a hi k i h)

  pub walk_breaks : (r : Refusal) → refused r ≡ turn_of (group_at a hi k i) → refused r ≡ w
  walk_breaks r h = go (group_at a hi k i) refl
    where
      go : (f : Found) → group_at a hi k i ≡ f → refused r ≡ w
      go nothing e = absurd (let n = rw e at h in cc)
      go (unsound j) e =
          let n : ◌≡◌ {A = Result (Option ℕ)} (refused r) (refused (Damaged j)) = rw e at h in
          let same : r ≡ Damaged j = cc in
          rw same (rw e at turned)
      go (group g) e = absurd (let n = rw e at h in cc)

  pub walk-goes : (e : ℕ) → group_at a hi k i ≡ group e → walk_from a hi (some i) (k + 1) e ≡ w
  walk-goes e g = rw add-one (rw g at turned)

-- a group has a number of four bytes, and takes a block at least
module _ (a : List ℕ) (hi k i e : ℕ) (found : group_at a hi k i ≡ group e) where
  pub group-number : IsBytes a → k < 256 ^ 4
  unfolding block_at
  group-number bytes =
      let g = group-says a hi k i e found in
      let n = number_lt 4 4 (block_at a i) (bytes_take 512 (drop (512 * i) a) (bytes_drop (512 * i) a bytes)) in
      omega (arith, g.header.number)

  pub group_advances : i < e
  group_advances = omega (arith, (group-says a hi k i e found).behind)

-- ## The search for a header behind a block
module _ (a : List ℕ) where
  -- a block behind the area's end has no 512 bytes
  no_block : (i : ℕ) → length a / 512 ≤ i → has_header_kind (block_at a i) ≡ false
  unfolding block_at
  no_block i h =
      let short : length (block_at a i) ≡ min 512 (length a - 512 * i) = simp (length-take, length-drop) in
      sym (no_kind 1 (block_at a i) (λ k. omega (arith, k.whole, short)))

  module _ (at : ℕ) where
    -- no block between has kind 1 and a right check
    abbrev pub Searched : ℕ → Type 0
    Searched i = (j : ℕ) → at < j → j < i → has_header_kind (block_at a j) ≡ false

    pub search_none : (i : ℕ) → i ≤ suc at → Searched i
    search_none i h j l m = absurd (omega arith)

    module _ (i : ℕ) (u : Bool) (test : u ≡ has_header_kind (part_at a i)) where
      tested-kind : has_header_kind (block_at a i) ≡ u
      tested-kind = sym (test ∙ rw (part-is a i))

      pub search_more : u ≡ false → Searched i → Searched (i + 1)
      search_more t s j l h =
          elim (dec_lt j i) [
            | yes q ↦ s j l q
            | no q ↦ let e : j ≡ i = omega arith in rw e (tested-kind ∙ t)
          ]

      pub search_found : (hi : ℕ) → at < i → i < hi → u ≡ true → true ≡ header_behind a hi at
      search_found hi l h t = sym (some-behind a hi at i l h (tested-kind ∙ t))

    -- the blocks behind the area's end count for nothing
    pub search_ended : (hi i : ℕ) → min hi (length a / 512) ≤ i → Searched i → false ≡ header_behind a hi at
    search_ended hi i h s =
        sym (none-behind a hi at (λ j l m. elim (dec_lt j i) [ yes q ↦ s j l q | no q ↦ no_block j (omega arith) ]))

-- what the call answers
module _ (hi k i : ℕ) (a : List ℕ) where
  pub walk_refused : bad_length (length a) ≡ true → refused BadArea ≡ walk_in hi k i a
  unfolding walk_in
  walk_refused t = rw t

  pub walk-answered : (end : ℕ) (w : Result Stop) → bad_length (length a) ≡ false → end ≡ min hi (blocks a)
      → w ≡ walk a end k i → w ≡ walk_in hi k i a
  unfolding walk_in
  walk-answered end w t e q = q ∙ rw (t, e)
