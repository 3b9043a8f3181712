-- Laws of the journal: a restart answers the state that it holds; a block that is no header, whole or torn, leaves it as it was,
-- behind the groups of the half in use or anywhere in the other half; with the header in its place, behind the groups or at the
-- first block of the other half, it holds the state that was taken at begin, without its leases and with their counts carried.
-- Assumes nothing.
use Prim.Native.Nat.{ℕ, suc, ◌+◌, ◌*◌, ◌-◌, ◌/◌, ◌≤◌, ◌<◌, ◌^◌}
use native.Mathlib.Omega.{arith}
use mathlib.Core.Path.{◌≡◌, refl, sym, ap, ◌∙◌}
use mathlib.Core.Bool.{true, false}
use mathlib.Core.List.{List}
use mathlib.Core.Option.{Option, none, some}
use lib.Dec.{ltb}
use lib.ListN.{length}
use lib.Seq.{take_at, drop_at, take_all}
use borrow.Author.Tests.{ltb-true}
use Rattle.types.specs.Limits.{MAX32}
use Rattle.types.specs.Refusal.{done}
use Rattle.types.specs.Table.{Passed}
use Rattle.types.proofs.Cases.{split}
use Rattle.types.proofs.Table.{checked-passed}
use Rattle.cursor.proofs.Snapshot.{cursor-back}
use Rattle.attempt.proofs.Snapshot.{attempts-back}
use Rattle.lease.specs.Counts.{all_attempt_counts}
use Rattle.journal.specs.Area.{block_at, write_at}
use Rattle.journal.specs.Sound.{has_header_kind, sound_header}
use Rattle.journal.specs.Walks.{Stop, stop, payload}
use Rattle.journal.specs.Blocks.{bodies_for, cursor_length, attempt_length, ceiling_of}
use Rattle.journal.proofs.Area.{write-length}
use Rattle.journal.proofs.Blocks.{header-length, header-ceiling, header-cursor, header_attempt}
use Rattle.journal.proofs.Sound.{headless, header-sound}
use Rattle.journal.proofs.Walks.{says_nothing, walk_turn, none-behind}
use Rattle.consumer.specs.State.{Configuration, State, next_group_at, half_blocks, half_end, otherHalf}
use Rattle.consumer.specs.Valid.{Valid}
use Rattle.consumer.proofs.Area.{Halves, area-halves}
use Rattle.consumer.proofs.Counts.{counts-rising, counts-few, counts-counted, counts-fit, counts-unsettled}
use Rattle.checkpoint.specs.Checkpoint.{cursor_bytes, attempt_bytes, payload_of, bodies, group_block, zeros, new_ceiling, body_of, header_of, flushed}
use Rattle.checkpoint.proofs.Payload.{PayloadFits, payload-fits}
use Rattle.checkpoint.proofs.Places.{Goes, stays, moves, goes, state-room}
use Rattle.starts.specs.Restart.{start_table, read_group, origin, limit, walk_of, end_table, last_group, from_walk, restart}
use Rattle.starts.proofs.Valid.{resumed-valid}
use Rattle.starts.proofs.Counts.{counts-carried}
use Rattle.starts.proofs.Halves.{limit-within}
use Rattle.crash_safety.proofs.Invariant.{Groups, Saved, restored, Journal}
use Rattle.crash_safety.proofs.Groups.{OneMore, no-fit, read_same, write-outside, groups-kept, one_more}
use Rattle.crash_safety.proofs.Origins.{Seat, in_first, in_second_lem, seat, origin-kept, origin-stays, origin-moves}

-- ## the half that is read
-- the area is two halves
pub halves_of : (c : Configuration) (n : ℕ) (a : List ℕ) (v : Saved) → Journal c n a v → Halves (length a)
halves_of c n a v j = rw j.size (area-halves n j.valid.area)

-- where the walk over it ended
abbrev pub end_of : {c : Configuration} {n : ℕ} {a : List ℕ} {v : Saved} → Journal c n a v → Stop
end_of {c} {n} {a} {v} j = record { last = j.last; number = v.next.number; block = v.next.block }

-- no header there that doesn't fit, and none behind
pub end-passed : (c : Configuration) (n : ℕ) (a : List ℕ) (v : Saved) (j : Journal c n a v) → Passed (end_table a (end_of j))
end-passed c n a v j =
    let e : ℕ = v.next.block in (
      split (ltb e (limit a)) (λ t. rw (t, j.groups.stops (ltb-true e (limit a) t))) (λ t. rw t),
      (none-behind a (limit a) e (λ i l h. j.groups.clear i (omega arith) h), tt),
    )

-- ## a restart
pub restart-finds : (c : Configuration) (n : ℕ) (a : List ℕ) (v : Saved) → Passed (start_table c n) → Journal c n a v
    → restart c a ≡ done (restored c n v)
unfolding restart from_walk
restart-finds c n a v accepted j =
    checked-passed (start_table c (length a)) (from_walk c a (walk_of a)) (rw j.size accepted)
    ∙ rw j.groups.walks (checked-passed (end_table a (end_of j)) (last_group c a j.last v.next) (end-passed c n a v j) ∙ j.reads)

-- ## a block that is no header, outside the groups that are read: behind them, or anywhere in the other half
module _ (c : Configuration) (n : ℕ) (a : List ℕ) (w : Saved) (j : Journal c n a w) (i : ℕ) (b : List ℕ)
    (out : i < w.next.block → i < (origin a).block) (to : i < n / 512) (whole : length b ≡ 512) where
  inside : 512 * i + 512 ≤ length a
  inside = omega (arith, j.size)

  pub block-kept : has_header_kind b ≡ false → Journal c n (write_at a i b) w
  block-kept h =
      let long : length (write_at a i b) ≡ length a = write-length a i b inside whole in
      let lo : ℕ = (origin a).block in
      let k₀ : ℕ = (origin a).number in
      let kept : Groups (write_at a i b) (limit a) k₀ lo j.last w.next = groups-kept a (limit a) k₀ lo j.last w.next j.groups i b inside whole out h in
      record {
        size = long ∙ j.size;
        last = j.last;
        groups = rw (origin-kept a j.last w.next j.groups.walks (halves_of c n a w j) i b inside whole out h, long) kept;
        reads = read_same a (limit a) k₀ lo j.last w.next j.groups.walks c (write_at a i b) long
            (write-outside a (limit a) k₀ lo j.last w.next j.groups i b inside whole out)
            ∙ j.reads;
        valid = j.valid;
      }

-- ## the header
-- what a checkpoint of this state stores
abbrev pub stored : State → Saved
stored s =
    record {
      cursor = s.cursor;
      counts = all_attempt_counts s.table;
      ceiling = new_ceiling s;
      next = (flushed s).next;
    }

module _ (s : State) (v : Valid s) where
  abbrev lc : ℕ
  lc = length (cursor_bytes s)

  abbrev la : ℕ
  la = length (attempt_bytes s)

  abbrev sizes : PayloadFits s
  sizes = payload-fits s v

  -- the header's group reads as the state
  module _ (c : Configuration) (a : List ℕ) (i : ℕ) (header : block_at a i ≡ header_of s) (content : payload a i ≡ payload_of s) where
    pub reads-stored : read_group c a i (flushed s).next ≡ done (restored c (length a) (stored s))
    reads-stored =
        let k : ℕ = s.next.number in
        let lc-is : cursor_length (block_at a i) ≡ lc = rw header (header-cursor k (new_ceiling s) lc la (omega (arith, sizes.cursor_high))) in
        let la-is : attempt_length (block_at a i) ≡ la = rw header (header_attempt k (new_ceiling s) lc la (omega (arith, sizes.attempt_high))) in
        let ceiling-is : ceiling_of (block_at a i) ≡ new_ceiling s = rw header (header-ceiling k (new_ceiling s) lc la (omega arith)) in
        rw (
          content,
          lc-is,
          la-is,
          ceiling-is,
          take_at (cursor_bytes s) (attempt_bytes s) lc refl,
          drop_at (cursor_bytes s) (attempt_bytes s) lc refl,
          take_all la (attempt_bytes s) (omega arith),
          cursor-back s.cursor v.cursor,
          attempts-back 2 refl (all_attempt_counts s.table) (counts-rising s v) (counts-fit s v) (counts-few s v),
          counts-carried s v,
        )

  -- the journal with the header
  module _ (c : Configuration) (n : ℕ) (size : s.size ≡ n) (settings : s.settings ≡ c.settings) (numbered : s.next.number ≤ MAX32) where
    stored-valid : Valid (restored c n (stored s))
    stored-valid =
        resumed-valid c n
        (record { settings = rw settings at v.accepted; area = rw size at v.area })
        (rw settings at v.fits)
        s.cursor
        (all_attempt_counts s.table)
        (new_ceiling s)
        (flushed s).next
        v.cursor
        (record { rising = counts-rising s v; few = counts-few s v; counted = counts-counted s v; unsettled = counts-unsettled s v })
        (omega arith)
        (record { within = rw (← size) (state-room s v).group; numbered = omega arith })

    module _ (a : List ℕ) (w : Saved) (j : Journal c n a w) (next : s.next ≡ w.next)
        (zeroed : (i : ℕ) → i < zeros s → has_header_kind (block_at a (group_block s + i)) ≡ false)
        (behind : (i : ℕ) → i < bodies s → block_at a (group_block s + suc i) ≡ body_of s (suc i)) where
      abbrev half : ℕ
      half = half_blocks (length a)

      abbrev full : List ℕ
      full = write_at a (group_block s) (header_of s)

      halves : Halves (length a)
      halves = halves_of c n a w j

      same_size : s.size ≡ length a
      same_size = size ∙ sym j.size

      walks : walk_of a ≡ stop j.last s.next.number s.next.block
      walks = rw next j.groups.walks

      small : s.next.number < 256 ^ 4
      small = omega arith

      in_area : group_block s + suc (bodies s) ≤ length a / 512
      in_area = rw (← same_size) (state-room s v).group

      fits : 512 * group_block s + 512 ≤ length a
      fits = omega (arith, in_area)

      whole : length (header_of s) ≡ 512
      whole = header-length s.next.number (new_ceiling s) lc la

      long : length full ≡ length a
      long = write-length a (group_block s) (header_of s) fits whole

      -- a group fits in any half, so that its header opens it
      sound : sound_header (group_block s + half) s.next.number (group_block s) (header_of s) ≡ true
      sound =
          header-sound s.next.number (new_ceiling s) lc la
          (record { cursor-low = sizes.cursor-low; cursor_high = sizes.cursor_high; attempt_low = sizes.attempt_low; attempt_high = sizes.attempt_high })
          (group_block s + half) (group_block s) small (omega (arith, sizes.few-bodies, ap bodies_for sizes.total, halves.enough))

      -- the half that the group goes to: groups end where its header goes, and with the header it is the half that is read
      record Ready : Type 0 where
        lo : ℕ
        k₀ : ℕ
        last : Option ℕ
        groups : Groups a (lo + half) k₀ lo last (next_group_at s.next.number (group_block s))
        room : group_block s + suc (bodies s) ≤ lo + half
        within : lo + half ≤ length a / 512
        becomes : origin full ≡ next_group_at k₀ lo

      ready : Ready
      ready = go (goes s.size s.next.block (bodies s)) (seat a j.last s.next walks halves)
        where
          block : ℕ
          block = s.next.block

          go : Goes s.size s.next.block (bodies s) → Seat a j.last s.next walks halves → Ready
          go (stays t h p z) st =
              let end : block + suc (bodies s) ≤ limit a = before st (rw same_size at h) in
              record {
                lo = (origin a).block;
                k₀ = (origin a).number;
                last = j.last;
                groups = rw (p, next) j.groups;
                room = omega (arith, p);
                within = (limit-within a).1;
                becomes = origin-stays a j.last s.next walks halves (group_block s) s.next.number (header_of s) fits whole refl sound p (omega (arith, p));
              }
            where
              before : Seat a j.last s.next walks halves → block + suc (bodies s) ≤ half_end (length a) block → block + suc (bodies s) ≤ limit a
              before (in_first l m e o) x = omega (arith, l, e)
              before (in_second_lem l m e o) x = omega (arith, l, e)
          go (moves t h p z) st =
              let at : group_block s ≡ otherHalf (length a) block = p ∙ rw same_size in
              let cleared : (i : ℕ) → group_block s ≤ i → i < group_block s + half → has_header_kind (block_at a i) ≡ false = clear in
              let lies : group_block s + half ≤ length a / 512 = other-lies st at in
              record {
                lo = group_block s;
                k₀ = s.next.number;
                last = none;
                groups = record {
                  walks = walk_turn a (group_block s + half) none s.next.number (group_block s)
                      ∙ rw (says_nothing a (group_block s + half) s.next.number (group_block s)
                      (headless (group_block s + half) s.next.number (group_block s) (block_at a (group_block s)) (cleared (group_block s) (omega arith) (omega (arith, halves.enough)))));
                  stops = λ m. no-fit s.next.number (block_at a (group_block s)) (cleared (group_block s) (omega arith) m);
                  clear = λ i l m. cleared i (omega arith) m;
                };
                room = omega (arith, sizes.few-bodies, halves.enough);
                within = lies;
                becomes = origin-moves a j.last s.next walks halves (group_block s) s.next.number (header_of s) fits whole refl sound at (later st (rw same_size at h));
              }
            where
              clear : (i : ℕ) → group_block s ≤ i → i < group_block s + half → has_header_kind (block_at a i) ≡ false
              clear i l m =
                  let here : group_block s + (i - group_block s) ≡ i = omega arith in
                  let zeros-is : zeros s ≡ half = z ∙ rw same_size in
                  rw here at (zeroed (i - group_block s) (omega (arith, zeros-is)))

              other-lies : Seat a j.last s.next walks halves → group_block s ≡ otherHalf (length a) block → group_block s + half ≤ length a / 512
              other-lies (in_first l m e o) at = omega (arith, at, o, halves.equal)
              other-lies (in_second_lem l m e o) at = omega (arith, at, o, halves.equal)

              -- a group fits in an empty half, so that there is one already
              later : Seat a j.last s.next walks halves → half_end (length a) block < block + suc (bodies s) → 0 < block
              later (in_first l m e o) x = omega (arith, e, sizes.few-bodies, halves.enough)
              later (in_second_lem l m e o) x = omega (arith, e, sizes.few-bodies, halves.enough)

      -- the last group, as it stands then
      more : (r : Ready) → OneMore full (r.lo + half) r.k₀ r.lo (group_block s) (flushed s).next (header_of s) (payload_of s)
      more r = one_more a (r.lo + half) r.k₀ r.lo r.last (next_group_at s.next.number (group_block s)) r.groups (new_ceiling s) lc la (payload_of s)
          sizes.cursor-low sizes.cursor_high sizes.attempt_low sizes.attempt_high sizes.total small r.room (omega (arith, r.within)) behind

      pub header-kept : Journal c n full (stored s)
      header-kept =
          let r = ready in
          let more = more r in
          record {
            size = long ∙ j.size;
            last = some (group_block s);
            groups = rw (r.becomes, long) more.groups;
            reads = reads-stored c full (group_block s) more.header_is more.payload-is
                ∙ ap (λ m. done (restored c m (stored s))) (long ∙ j.size);
            valid = stored-valid;
          }

      -- the block behind it, in its half, is no header
      pub header-edge : (flushed s).next.block < limit full → has_header_kind (block_at full (flushed s).next.block) ≡ false
      header-edge m =
          let r = ready in
          (more r).edge (rw (r.becomes, long) at m)
