-- Which half a restart reads, before and after a block write. Where it reads groups, the next number is above the first one, so that a
-- group in the other half, under the next number, is the one that wins; and no block that is no header, outside the groups, changes the
-- half that is read. Assumes nothing.
use Prim.Native.Nat.{ℕ, suc, ◌+◌, ◌*◌, ◌/◌, ◌≤◌, ◌<◌}
use native.Mathlib.Omega.{arith}
use native.Mathlib.Decide.{ℕ_discrete}
use mathlib.Core.Path.{◌≡◌, refl, sym, ◌∙◌}
use mathlib.Core.Bool.{Bool, true, false, cond, not, ◌&&◌}
use mathlib.Core.List.{List}
use mathlib.Core.Option.{Option, none}
use lib.Dec.{leb}
use lib.ListN.{length}
use borrow.Author.Tests.{lt-leb, le-leb}
use Rattle.types.proofs.Cases.{split}
use Rattle.journal.specs.Area.{block_at, write_at}
use Rattle.journal.specs.Blocks.{group_of}
use Rattle.journal.specs.Sound.{has_header_kind, sound_header}
use Rattle.journal.specs.Walks.{stop}
use Rattle.journal.proofs.Area.{write-length, write_same, write-other}
use Rattle.journal.proofs.Sound.{differ, header-says}
use Rattle.journal.proofs.Walks.{LastIs, at_once, behind, says_nothing, stop_inj, walk_turn, walk-ended}
use Rattle.consumer.specs.State.{NextGroup, next_group_at, half_blocks, half_end, otherHalf}
use Rattle.consumer.proofs.Area.{InUse, in_use}
use Rattle.consumer.proofs.Area as area
use Rattle.starts.specs.Restart.{opens, first_number, second_wins, origin, limit, walk_of}
use Rattle.starts.proofs.Halves.{Origin, first, second, origin-is, limit-within, origin-same, origin_none, opens_not}

-- ## the half that wins
-- the first one opens, and the second one has no greater number
pub first-wins : (a : List ℕ) (k : ℕ) → opens a 0 ≡ true → first_number a 0 ≡ k
    → (opens a (half_blocks (length a)) ≡ true → first_number a (half_blocks (length a)) ≤ k) → origin a ≡ next_group_at k 0
unfolding origin
first-wins a k one is rival =
    split (opens a (half_blocks (length a)))
    (λ t. rw (t, one, is, le-leb (first_number a (half_blocks (length a))) k (rival t)))
    (λ t. rw (t, one, is))

-- the second one opens, and the first one doesn't, or has a smaller number
pub second-wins : (a : List ℕ) (k : ℕ) → opens a (half_blocks (length a)) ≡ true → first_number a (half_blocks (length a)) ≡ k
    → (opens a 0 ≡ true → first_number a 0 < k) → origin a ≡ next_group_at k (half_blocks (length a))
unfolding origin
second-wins a k two is rival =
    split (opens a 0)
    (λ t. rw (two, t, is, lt-leb k (first_number a 0) (rival t)))
    (λ t. rw (two, t, is))

-- ## where a walk over it ended
-- nothing opens and there is no group, or the half that is read opens, and the next number is above its first one
pub data Read (a : List ℕ) (last : Option ℕ) (next : NextGroup) : Type 0 where
  empty : last ≡ none → next.number ≡ 1 → next.block ≡ 0 → origin a ≡ next_group_at 1 0 → opens a 0 ≡ false
      → opens a (half_blocks (length a)) ≡ false → Read a last next
  filled : opens a (origin a).block ≡ true → first_number a (origin a).block ≡ (origin a).number → (origin a).block < next.block
      → (origin a).number < next.number → Read a last next

module _ (a : List ℕ) (last : Option ℕ) (next : NextGroup) (walks : walk_of a ≡ stop last next.number next.block) where
  abbrev middle : ℕ
  middle = half_blocks (length a)

  abbrev lo : ℕ
  lo = (origin a).block

  abbrev k₀ : ℕ
  k₀ = (origin a).number

  ended : LastIs a (limit a) none k₀ lo last next.number next.block
  ended = (walk-ended a (limit a) none k₀ lo last next.number next.block walks).last-is

  -- a half that opens holds its first group
  opened : opens a lo ≡ true → first_number a lo ≡ k₀ → Read a last next
  opened t is = go ended
    where
      go : LastIs a (limit a) none k₀ lo last next.number next.block → Read a last next
      go (at_once p q r) =
          let sound : sound_header (limit a) next.number next.block (block_at a next.block) ≡ true = rw (r, q, ← is) t in
          absurd (differ sound (walk-ended a (limit a) none k₀ lo last next.number next.block walks).no_header)
      go (behind h m p q r s g) = filled t is (omega (arith, g.behind)) (omega arith)

  -- where the first half is read and doesn't open, neither does the second, and no group is met
  unopened : second_wins a ≡ false → lo ≡ 0 → k₀ ≡ 1 → opens a 0 ≡ false → Read a last next
  unopened wins at is t =
      let other : opens a middle ≡ false = split (opens a middle) (λ u. absurd (differ (rw (u, t)) wins)) (λ u. u) in
      let whole : origin a ≡ next_group_at 1 0 = origin_none a t other in
      let no_header : sound_header (limit a) k₀ lo (block_at a lo) ≡ false =
      split (sound_header (limit a) k₀ lo (block_at a lo))
      (λ u. absurd (differ (opens-under u) t))
      (λ u. u) in
      let here : walk_of a ≡ stop none k₀ lo = walk_turn a (limit a) none k₀ lo ∙ rw (says_nothing a (limit a) k₀ lo no_header) in
      let end = stop_inj (sym here ∙ walks) in
      empty end.0 (end.1 ∙ is) (end.2 ∙ at) whole t other
    where
      opens-under : sound_header (limit a) k₀ lo (block_at a lo) ≡ true → opens a 0 ≡ true
      opens-under u =
          let own : group_of (block_at a lo) ≡ k₀ = (header-says (limit a) k₀ lo (block_at a lo) u).number in
          rw (← at, own) u

  pub read : Read a last next
  read = go (origin-is a)
    where
      go : Origin a → Read a last next
      go (second t b n) = opened (rw b t) (rw b (sym n))
      go (first t b n) =
          split (opens a 0)
          (λ u. opened (rw b u) (rw b (sym (n ∙ rw u))))
          (λ u. unopened t b (n ∙ rw u) u)

  -- it lies in the half that is read
  pub in_half : (lo ≤ next.block) × (next.block ≤ limit a)
  in_half =
      let e = walk-ended a (limit a) none k₀ lo last next.number next.block walks in
      (e.rises, e.within (limit-within a).0)

-- ## the half in use
-- on an area of two halves, it is the half that is read
module _ (a : List ℕ) (last : Option ℕ) (next : NextGroup) (walks : walk_of a ≡ stop last next.number next.block)
    (halves : area.Halves (length a)) where
  pub data Seat : Type 0 where
    in_first : (origin a).block ≡ 0 → next.block ≤ half_blocks (length a) → half_end (length a) next.block ≡ half_blocks (length a)
        → otherHalf (length a) next.block ≡ half_blocks (length a) → Seat
    in_second_lem : (origin a).block ≡ half_blocks (length a) → half_blocks (length a) < next.block
        → half_end (length a) next.block ≡ half_blocks (length a) + half_blocks (length a) → otherHalf (length a) next.block ≡ 0 → Seat

  pub seat : Seat
  seat = go (origin-is a) (read a last next walks) (in_use (length a) next.block)
    where
      go : Origin a → Read a last next → InUse (length a) next.block → Seat
      go (first t b n) r (area.first l e) = in_first b l (rw e) (rw e)
      go (first t b n) r (area.second l e) = absurd (omega (arith, b, (in_half a last next walks).1))
      go (second t b n) (empty p q x w y z) u = absurd (differ t z)
      go (second t b n) (filled p q x y) (area.first l e) = absurd (omega (arith, b))
      go (second t b n) (filled p q x y) (area.second l e) = in_second_lem b l (rw e (sym halves.equal)) (rw e)

  -- ## a block that is no header, outside the groups
  module _ (i : ℕ) (b : List ℕ) (fits : 512 * i + 512 ≤ length a) (whole : length b ≡ 512) (out : i < next.block → i < (origin a).block)
      (no_header : has_header_kind b ≡ false) where
    abbrev after : List ℕ
    after = write_at a i b

    long : length after ≡ length a
    long = write-length a i b fits whole

    other : (j : ℕ) → (j ≡ i → ⊥) → block_at after j ≡ block_at a j
    other = write-other a i b fits whole

    closed : (j : ℕ) → i ≡ j → opens after j ≡ false
    closed j e = opens_not after j (rw (← e, write_same a i b fits whole) no_header)

    -- where the first block of the first half is written, nothing is read, or the second half
    at_first : i ≡ 0 → Read a last next → origin after ≡ origin a
    at_first at (empty p q x w y z) =
        rw w (origin_none after (closed 0 at) (rw (long, other (half_blocks (length a)) (λ e. omega (arith, halves.enough))) z))
    at_first at (filled p q x y) = from_second (origin-is a)
      where
        from_second : Origin a → origin after ≡ origin a
        from_second (first t l n) = absurd (omega (arith, l, out (omega arith)))
        from_second (second t l n) =
            let same : block_at after (half_blocks (length a)) ≡ block_at a (half_blocks (length a)) = other (half_blocks (length a)) (λ e. omega (arith, halves.enough)) in
            let is : origin a ≡ next_group_at (first_number a (half_blocks (length a))) (half_blocks (length a)) = rw (← n, ← l) in
            rw is
            (second-wins after (first_number a (half_blocks (length a))) (rw (long, same) t) (rw (long, same)) (λ u. absurd (differ u (closed 0 at)))
            ∙ rw long)

    at_second : i ≡ half_blocks (length a) → Seat → origin after ≡ origin a
    unfolding origin
    at_second at (in_second_lem l x e o) = absurd (omega (arith, l, out (omega arith)))
    at_second at (in_first l x e o) = from_first (origin-is a)
      where
        same : block_at after 0 ≡ block_at a 0
        same = other 0 (λ q. omega (arith, halves.enough))

        from_first : Origin a → origin after ≡ origin a
        from_first (second t m n) = absurd (omega (arith, halves.enough))
        from_first (first t m n) =
            let shut : opens after (half_blocks (length after)) ≡ false = closed (half_blocks (length after)) (at ∙ rw long) in
            rw (shut, t, long, same)

    pub origin-kept : origin after ≡ origin a
    origin-kept =
        elim (ℕ_discrete i 0) [
          | yes p ↦ at_first p (read a last next walks)
          | no p ↦ elim (ℕ_discrete i (half_blocks (length a))) [
            | yes q ↦ at_second q seat
            | no q ↦ origin-same a after long (other 0 (λ e. p (sym e))) (other (half_blocks (length a)) (λ e. q (sym e)))
          ]
        ]

  -- ## a header sound in all but the number, at the place of the next group
  module _ (i k : ℕ) (b : List ℕ) (fits : 512 * i + 512 ≤ length a) (whole : length b ≡ 512) (is : k ≡ next.number)
      (sound : sound_header (i + half_blocks (length a)) k i b ≡ true) where
    abbrev written : List ℕ
    written = write_at a i b

    same_size : length written ≡ length a
    same_size = write-length a i b fits whole

    elsewhere : (j : ℕ) → (j ≡ i → ⊥) → block_at written j ≡ block_at a j
    elsewhere = write-other a i b fits whole

    own : group_of b ≡ k
    own = (header-says (i + half_blocks (length a)) k i b sound).number

    opens-there : (j : ℕ) → i ≡ j → (opens written j ≡ true) × (first_number written j ≡ k)
    opens-there j e = rw (← e, write_same a i b fits whole, same_size, own) (sound, refl)

    -- behind the groups of the half in use
    pub origin-stays : i ≡ next.block → i < limit a → origin written ≡ origin a
    origin-stays at inside = go (read a last next walks) seat
      where
        go : Read a last next → Seat → origin written ≡ origin a
        go (empty p q x w y z) u =
            let zero : i ≡ 0 = at ∙ x in
            let t = opens-there 0 zero in
            let one : k ≡ 1 = is ∙ q in
            let shut : opens written (half_blocks (length written)) ≡ false =
            rw (same_size, elsewhere (half_blocks (length a)) (λ e. omega (arith, halves.enough))) z in
            rw w (first-wins written 1 t.0 (t.1 ∙ one) (λ v. absurd (differ v shut)))
        go (filled p q x y) (in_first l m e o) =
            origin-same a written same_size (elsewhere 0 (λ v. omega (arith, l))) (elsewhere (half_blocks (length a)) (λ v. omega (arith, l)))
        go (filled p q x y) (in_second_lem l m e o) =
            origin-same a written same_size (elsewhere 0 (λ v. omega arith)) (elsewhere (half_blocks (length a)) (λ v. omega arith))

    -- at the first block of the other half, where there is a group
    pub origin-moves : i ≡ otherHalf (length a) next.block → 0 < next.block → origin written ≡ next_group_at k i
    origin-moves at some-group = go (read a last next walks) seat
      where
        go : Read a last next → Seat → origin written ≡ next_group_at k i
        go (empty p q x w y z) u = absurd (omega arith)
        go (filled p q x y) (in_first l m e o) =
            let there : i ≡ half_blocks (length written) = at ∙ o ∙ rw same_size in
            let t = opens-there (half_blocks (length written)) there in
            let rival : first_number written 0 ≡ (origin a).number = rw (elsewhere 0 (λ v. omega (arith, halves.enough, at ∙ o))) (rw l at q) in
            second-wins written k t.0 t.1 (λ v. omega (arith, rival)) ∙ rw (← there)
        go (filled p q x y) (in_second_lem l m e o) =
            let there : i ≡ 0 = at ∙ o in
            let t = opens-there 0 there in
            let rival : first_number written (half_blocks (length written)) ≡ (origin a).number =
            rw (same_size, elsewhere (half_blocks (length a)) (λ v. omega (arith, halves.enough))) (rw l at q) in
            first-wins written k t.0 t.1 (λ v. omega (arith, rival)) ∙ rw there
