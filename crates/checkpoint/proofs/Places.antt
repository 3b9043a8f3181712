-- Where the blocks of a checkpoint go: a group has 9 blocks at most, so it always fits in a half, and every block write lies in the
-- half that the group goes to, and is of one block. Assumes nothing.
use Prim.Native.Nat.{ℕ, suc, ◌+◌, ◌*◌, ◌-◌, ◌/◌, ◌≤◌, ◌<◌}
use native.Mathlib.Omega.{arith}
use mathlib.Core.Path.{◌≡◌}
use mathlib.Core.Bool.{true, false}
use lib.ListN.{length}
use borrow.Author.Tests.{ltb-true, ltb-false, leb-true, leb-false, le-ltb}
use Rattle.types.proofs.Cases.{split}
use Rattle.journal.proofs.Blocks.{header-length, body-length}
use Rattle.journal.proofs.Group.{chunk_few}
use Rattle.consumer.specs.State.{State, bad_area, blocks_of, half_blocks, half_end, otherHalf}
use Rattle.consumer.specs.Valid.{Valid}
use Rattle.consumer.proofs.Area.{area-halves, InUse, first, second, in_use}
use Rattle.checkpoint.specs.Checkpoint.{payload_of, bodies, switches_at, header_place, zeroed_for, group_block, zeros, Writing, is_zeroing, is_last, next_body, next_place, next_block}
use Rattle.checkpoint.specs.Valid.{ValidWriting}
use Rattle.checkpoint.proofs.Payload.{payload-fits}

-- ## A group of n bodies
-- it stays in the half in use, behind the last group, or goes to the other half, which is zeroed before
pub data Goes (size block n : ℕ) : Type 0 where
  stays : switches_at size block n ≡ false → block + suc n ≤ half_end size block → header_place size block n ≡ block → zeroed_for size block n ≡ 0
      → Goes size block n
  moves : switches_at size block n ≡ true → half_end size block < block + suc n → header_place size block n ≡ otherHalf size block
      → zeroed_for size block n ≡ half_blocks size → Goes size block n

pub goes : (size block n : ℕ) → Goes size block n
unfolding header_place zeroed_for
goes size block n =
    split (switches_at size block n)
    (λ t. moves t (ltb-true (half_end size block) (block + suc n) t) (rw t) (rw t))
    (λ t. stays t (ltb-false (half_end size block) (block + suc n) t) (rw t) (rw t))

-- it lies in the area, as do the blocks that are zeroed
pub record Room (size block n : ℕ) : Type 0 where
  pub group : header_place size block n + suc n ≤ size / 512
  pub zeroed : header_place size block n + zeroed_for size block n ≤ size / 512

pub has_room : (size block n : ℕ) → bad_area size ≡ false → block ≤ size / 512 → n ≤ 8 → Room size block n
has_room size block n area within few = go (goes size block n) (in_use size block)
  where
    go : Goes size block n → InUse size block → Room size block n
    go (stays t h p z) (first l e) =
        let halves = area-halves size area in
        let end : half_end size block ≡ half_blocks size = rw e in
        record { group = omega (arith, p, end, h, halves.equal); zeroed = omega (arith, p, z, within) }
    go (stays t h p z) (second l e) =
        let end : half_end size block ≡ size / 512 = rw e in
        record { group = omega (arith, p, end, h); zeroed = omega (arith, p, z, within) }
    go (moves t h p z) (first l e) =
        let halves = area-halves size area in
        let other : otherHalf size block ≡ half_blocks size = rw e in
        record { group = omega (arith, p, other, halves.equal, halves.enough); zeroed = omega (arith, p, z, other, halves.equal) }
    go (moves t h p z) (second l e) =
        let halves = area-halves size area in
        let other : otherHalf size block ≡ 0 = rw e in
        record { group = omega (arith, p, other, halves.equal, halves.enough); zeroed = omega (arith, p, z, other, halves.equal) }

-- ## The next group of a state
pub state-room : (s : State) → Valid s → Room s.size s.next.block (bodies s)
state-room s v = has_room s.size s.next.block (bodies s) v.area v.within (payload-fits s v).few-bodies

-- ## The next block write
-- zeros, a body or the header, each with its place
pub data Next (w : Writing) : Type 0 where
  zeroing : is_zeroing w ≡ true → is_last w ≡ false → w.written < zeros w.state → next_place w ≡ group_block w.state + w.written → Next w
  body : is_zeroing w ≡ false → is_last w ≡ false → zeros w.state ≤ w.written → w.written < zeros w.state + bodies w.state
      → next_place w ≡ group_block w.state + suc (w.written - zeros w.state) → Next w
  header : is_zeroing w ≡ false → is_last w ≡ true → zeros w.state + bodies w.state ≤ w.written → next_place w ≡ group_block w.state → Next w

pub next-is : (w : Writing) → Next w
next-is w =
    split (is_zeroing w)
    (λ z.
    let more : w.written < zeros w.state = ltb-true w.written (zeros w.state) z in
    zeroing z (not_last (omega arith)) more (rw z))
    (λ z. split (is_last w)
    (λ t. header z t (leb-true (zeros w.state + bodies w.state) w.written t) (rw (z, t)))
    (λ t. body z t (ltb-false w.written (zeros w.state) z) (leb-false (zeros w.state + bodies w.state) w.written t) (rw (z, t))))
  where
    not_last : w.written < zeros w.state + bodies w.state → is_last w ≡ false
    not_last h = split (is_last w) (λ t. absurd (omega (arith, leb-true (zeros w.state + bodies w.state) w.written t))) (λ t. t)

-- the header goes to its place
pub header-next : (w : Writing) → is_last w ≡ true → next_place w ≡ group_block w.state
header-next w t =
    let not-zeroing : is_zeroing w ≡ false = le-ltb w.written (zeros w.state) (omega (arith, leb-true (zeros w.state + bodies w.state) w.written t)) in
    rw (not-zeroing, t)

-- it lies in the area
pub next-inside : (w : Writing) → ValidWriting w → next_place w < blocks_of w.state
next-inside w v = go (next-is w)
  where
    go : Next w → next_place w < blocks_of w.state
    go (zeroing z t h p) = omega (arith, p, (state-room w.state v.state).zeroed)
    go (body z t l h p) = omega (arith, p, (state-room w.state v.state).group)
    go (header z t h p) = omega (arith, p, (state-room w.state v.state).group)

pub next_fits : (w : Writing) → ValidWriting w → 512 * next_place w + 512 ≤ w.state.size
next_fits w v = omega (arith, next-inside w v)

-- it is a block
pub next-whole : (w : Writing) → length (next_block w) ≡ 512
next-whole w = go (next-is w)
  where
    go : Next w → length (next_block w) ≡ 512
    go (zeroing z t h p) = rw z
    go (body z t l h p) = rw (z, t) (body-length _ _ _ (chunk_few (payload_of w.state) (next_body w)))
    go (header z t h p) = rw (z, t) (header-length _ _ _ _)
