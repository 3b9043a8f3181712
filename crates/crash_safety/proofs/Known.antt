-- What the journals of lists remember: every block with kind 1 and a right check is the header of a whole group that a checkpoint of the
-- list wrote, and that reads as it did then; where that group ends beside the next one, and which group each header and body names. A
-- block write of a checkpoint keeps it, whole or torn. Assumes nothing.
use Prim.Native.Nat.{ℕ, suc, ◌+◌, ◌*◌, ◌-◌, ◌/◌, ◌≤◌, ◌<◌, ◌^◌}
use native.Mathlib.Omega.{arith}
use native.Mathlib.Decide.{dec_lt, ℕ_discrete}
use mathlib.Core.Path.{◌≡◌, refl, sym, ap, ◌∙◌}
use mathlib.Core.Bool.{true, false, not}
use mathlib.Core.List.{List}
use lib.Dec.{eqb}
use lib.ListN.{length, replicate}
use borrow.Author.Tests.{leb-true, not-true}
use Rattle.types.specs.Refusal.{done}
use Rattle.types.proofs.Cases.{both}
use Rattle.crc.specs.Seal.{is_sealed}
use Rattle.journal.specs.Area.{block_at, write_at, Same}
use Rattle.journal.specs.Blocks.{group_of}
use Rattle.journal.specs.Sound.{is_kind, has_header_kind}
use Rattle.journal.specs.Walks.{stop}
use Rattle.journal.proofs.Area.{write-length, write_same, write-other}
use Rattle.journal.proofs.Blocks.{header-kind, header-number, body-number}
use Rattle.journal.proofs.Sound.{differ, unchecked, other-kind}
use Rattle.journal.proofs.Walks.{Group, group-same}
use Rattle.journal.proofs.Group as groups
use Rattle.journal.proofs.Group.{chunk_few, payload_same, group-written, payload-written}
use Rattle.consumer.specs.State.{Configuration, State, NextGroup, half_blocks, otherHalf}
use Rattle.consumer.proofs.Area.{Halves}
use Rattle.checkpoint.specs.Checkpoint as checkpoint
use Rattle.checkpoint.specs.Checkpoint.{cursor_bytes, attempt_bytes, payload_of, bodies, group_block, new_ceiling, body_of, header_of, flushed, Writing, is_last, next_place, next_block, next_body}
use Rattle.checkpoint.proofs.Payload.{PayloadFits, payload-fits}
use Rattle.checkpoint.proofs.Places.{Goes, stays, moves, goes, Next, zeroing, body, header, next-is, header-next, state-room}
use Rattle.starts.specs.Restart.{read_group, origin, walk_of}
use Rattle.power_cut.specs.Cut.{is_torn}
use Rattle.crash_safety.proofs.Invariant.{Saved, restored, Journal, Ready, Written}
use Rattle.crash_safety.proofs.Origins.{Read, empty, filled, read, Seat, in_first, in_second_lem, seat, origin-kept}
use Rattle.crash_safety.proofs.Journals.{halves_of, stored, reads-stored}
use Rattle.crash_safety.proofs.Writes.{Plain, torn-block, plain-block, inside, free, other-kept, same_kept, header-journal}

module _ (c : Configuration) (n : ℕ) where
  -- block h lies in the half that is read, which begins there
  abbrev pub InHalf : NextGroup → ℕ → Type 0
  InHalf o h = (o.block ≤ h) × (h < o.block + half_blocks n)

  -- block h is the header of a group that was written when P held of what it saved
  pub record Known (P : Saved → Type 0) (a : List ℕ) (o next : NextGroup) (h : ℕ) : Type 0 where
    pub saved : Saved
    pub past : P saved
    pub number : ℕ
    pub group : Group a saved.next.block number h saved.next.block
    pub numbered : saved.next.number ≡ suc number
    pub reads : read_group c a h saved.next ≡ done (restored c n saved)
    -- it lies in one half
    pub first-half : h < half_blocks n → saved.next.block ≤ half_blocks n
    pub in_area : saved.next.block ≤ n / 512
    -- in the half that is read it ends before the next group's place, and in the other one it is older than that half
    pub in_front_lem : InHalf o h → saved.next.block ≤ next.block
    pub older : (InHalf o h → ⊥) → number < o.number
    pub some_number : 0 < number
    pub below : number < next.number

  pub record Remembers (P : Saved → Type 0) (a : List ℕ) (next : NextGroup) : Type 0 where
    pub known : (h : ℕ) → h < n / 512 → has_header_kind (block_at a h) ≡ true → Known P a (origin a) next h
    pub named : (i : ℕ) → i < n / 512 → is_kind 2 (block_at a i) ≡ true → group_of (block_at a i) ≤ next.number
    pub apart : (i j : ℕ) → i < n / 512 → j < n / 512 → has_header_kind (block_at a i) ≡ true → has_header_kind (block_at a j) ≡ true
        → group_of (block_at a i) ≡ group_of (block_at a j) → i ≡ j

  -- where its blocks are the same, it is known still
  module _ (P Q : Saved → Type 0) (more : (v : Saved) → P v → Q v) where
    pub known-again : (a a' : List ℕ) (o o' next next' : NextGroup) (h : ℕ) (k : Known P a o next h) → length a' ≡ length a
        → Same a a' h k.saved.next.block → (InHalf o' h → k.saved.next.block ≤ next'.block)
        → ((InHalf o' h → ⊥) → k.number < o'.number) → k.number < next'.number → Known Q a' o' next' h
    known-again a a' o o' next next' h k size same front older below =
        let e : ℕ = k.saved.next.block in
        let here : block_at a' h ≡ block_at a h = same h (omega arith) (omega (arith, k.group.behind)) in
        record {
          saved = k.saved;
          past = more k.saved k.past;
          number = k.number;
          group = group-same a a' e h k.number h e (omega arith) same k.group;
          numbered = k.numbered;
          reads = rw (here, payload_same a a' e h k.number h e same (omega arith) k.group, size) k.reads;
          first-half = k.first-half;
          in_area = k.in_area;
          in_front_lem = front;
          older = older;
          some_number = k.some_number;
          below = below;
        }

    pub remembers_more : (a : List ℕ) (next : NextGroup) → Remembers P a next → Remembers Q a next
    remembers_more a next r =
        record {
          known = λ h l t.
              let k = r.known h l t in
              known-again a a (origin a) (origin a) next next h k refl (λ j x y. refl) k.in_front_lem k.older k.below;
          named = r.named;
          apart = r.apart;
        }

  -- ## a block write of a checkpoint
  module _ (P Q : Saved → Type 0) (more : (v : Saved) → P v → Q v) (a : List ℕ) (v : Saved) (w : Writing) (j : Journal c n a v)
      (r : Remembers P a v.next) (now : Ready c n v w.state) (so_far : Written a w) where
    abbrev s : State
    s = w.state

    abbrev at : ℕ
    at = next_place w

    abbrev half : ℕ
    half = half_blocks n

    same_half : half_blocks (length a) ≡ half
    same_half = ap half_blocks j.size

    same_size : s.size ≡ length a
    same_size = now.size ∙ sym j.size

    halves : Halves (length a)
    halves = halves_of c n a v j

    walks : walk_of a ≡ stop j.last s.next.number s.next.block
    walks = rw now.next j.groups.walks

    to : at < n / 512
    to = inside c n v a w j now so_far

    fits : 512 * at + 512 ≤ length a
    fits = omega (arith, to, j.size)

    -- no header of the half that it goes to stands in front of it, where that one is zeroed
    blank : (i : ℕ) → checkpoint.zeros s ≡ half → group_block s ≤ i → i < at → has_header_kind (block_at a i) ≡ false
    blank i z l m = go (next-is w)
      where
        here : group_block s + (i - group_block s) ≡ i
        here = omega arith

        go : Next w → has_header_kind (block_at a i) ≡ false
        go (zeroing y u k p) = rw here at (so_far.zeroed (i - group_block s) (omega (arith, p)) (omega (arith, p)))
        go (body y u k q p) =
            let few : i - group_block s < checkpoint.zeros s = omega (arith, p, z, same_half, halves.enough, (payload-fits s now.valid).few-bodies) in
            rw here at (so_far.zeroed (i - group_block s) (omega (arith, few)) few)
        go (header y u k p) = absurd (omega (arith, p))

    place-low : group_block s ≤ at
    place-low = go (next-is w)
      where
        go : Next w → group_block s ≤ at
        go (zeroing y u k p) = omega (arith, p)
        go (body y u k q p) = omega (arith, p)
        go (header y u k p) = omega (arith, p)

    place_high : checkpoint.zeros s ≡ 0 → at < group_block s + suc (bodies s)
    place_high z = go (next-is w)
      where
        go : Next w → at < group_block s + suc (bodies s)
        go (zeroing y u k p) = absurd (omega (arith, z))
        go (body y u k q p) = omega (arith, p)
        go (header y u k p) = omega (arith, p)

    -- no group reaches it from the front
    in_front-of : (h : ℕ) (k : Known P a (origin a) v.next h) → has_header_kind (block_at a h) ≡ true → h < at
        → k.saved.next.block ≤ at
    in_front-of h k t m = go (goes s.size s.next.block (bodies s)) (seat a j.last s.next walks halves)
      where
        same : s.next.block ≡ v.next.block
        same = ap (λ (x : NextGroup). x.block) now.next

        go : Goes s.size s.next.block (bodies s) → Seat a j.last s.next walks halves → k.saved.next.block ≤ at
        go (stays u x p z) (in_first b q e o) =
            let end : s.next.block + suc (bodies s) ≤ half = omega (arith, rw same_size at x, e, same_half) in
            omega (arith, k.in_front_lem (omega (arith, b), omega (arith, b, place_high z, p)), place-low, p, same)
        go (stays u x p z) (in_second_lem b q e o) =
            elim (dec_lt h half) [
              | yes y ↦ omega (arith, k.first-half y, q, same_half, place-low, p)
              | no y ↦ omega (arith, k.in_front_lem (omega (arith, b, same_half), omega (arith, b, same_half, halves.equal, to, j.size)), place-low, p, same)
            ]
        go (moves u x p z) (in_first b q e o) =
            let other : group_block s ≡ half = p ∙ ap (λ y. otherHalf y s.next.block) same_size ∙ o ∙ same_half in
            elim (dec_lt h half) [
              | yes y ↦ omega (arith, k.in_front_lem (omega (arith, b), omega (arith, b)), q, same_half, place-low, other, same)
              | no y ↦ absurd (differ t (blank h (z ∙ rw now.size) (omega (arith, other)) m))
            ]
        go (moves u x p z) (in_second_lem b q e o) =
            let other : group_block s ≡ 0 = p ∙ ap (λ y. otherHalf y s.next.block) same_size ∙ o in
            absurd (differ t (blank h (z ∙ rw now.size) (omega (arith, other)) m))

    -- ## a block that is no header
    module _ (b : List ℕ) (p : Plain b) (names : is_kind 2 b ≡ true → group_of b ≤ v.next.number) where
      abbrev after : List ℕ
      after = write_at a at b

      other : (i : ℕ) → (i ≡ at → ⊥) → block_at after i ≡ block_at a i
      other = write-other a at b fits p.0

      elsewhere : (h : ℕ) → has_header_kind (block_at after h) ≡ true → h ≡ at → ⊥
      elsewhere h t q = differ t (rw (q, write_same a at b fits p.0) p.1)

      was : (h : ℕ) → has_header_kind (block_at after h) ≡ true → has_header_kind (block_at a h) ≡ true
      was h t = rw (other h (elsewhere h t)) at t

      same-origin : origin after ≡ origin a
      same-origin =
          origin-kept a j.last v.next j.groups.walks halves at b fits p.0 (rw (← now.next) (free c n v a w j now so_far)) p.1

      pub plain_remembered : Remembers Q after v.next
      plain_remembered =
          record {
            known = λ h x t.
                let k = r.known h x (was h t) in
                rw same-origin
                (known-again P Q more a after (origin a) (origin a) v.next v.next h k (write-length a at b fits p.0)
                (λ i y z. other i (λ q. elim (dec_lt h at) [
                  | yes f ↦ omega (arith, in_front-of h k (was h t) f)
                  | no f ↦ elsewhere h t (omega arith)
                ]))
                k.in_front_lem k.older k.below);
            named = λ i x t. elim (ℕ_discrete i at) [
              | yes q ↦
                  let here : block_at after i ≡ b = rw q (write_same a at b fits p.0) in
                  rw here (names (rw here at t))
              | no q ↦ rw (other i q) (r.named i x (rw (other i q) at t))
            ];
            apart = λ h i x y t u e.
                r.apart h i x y (was h t) (was i u) (rw (other h (elsewhere h t), other i (elsewhere i u)) at e);
          }

    pub torn_remembered : (b : List ℕ) → is_torn b ≡ true → Remembers Q (write_at a at b) v.next
    torn_remembered b t =
        let broken : is_sealed b ≡ false = not-true (is_sealed b) (both (eqb (length b) 512) (not (is_sealed b)) t).1 in
        plain_remembered b (torn-block b t) (λ u. absurd (differ u (unchecked 2 b broken)))

    -- zeros name no group, and a body the next one
    pub more_remembered : is_last w ≡ false → Remembers Q (write_at a at (next_block w)) v.next
    more_remembered not_last = plain_remembered (next_block w) (plain-block w not_last) (names (next-is w))
      where
        number : s.next.number ≡ v.next.number
        number = ap (λ (x : NextGroup). x.number) now.next

        names : Next w → is_kind 2 (next_block w) ≡ true → group_of (next_block w) ≤ v.next.number
        names (zeroing y t k p) u = absurd (differ u (rw y (other-kind 2 (replicate 512 0) (λ q. omega arith))))
        names (body y t k q p) u =
            let own : group_of (body_of s (next_body w)) ≡ s.next.number =
            body-number s.next.number (next_body w) _ (chunk_few (payload_of s) (next_body w)) (omega (arith, so_far.valid.numbered)) in
            rw (y, t) (omega (arith, own, number))
        names (header y t k p) u = absurd (differ t not_last)

    -- ## the header
    module _ (last : is_last w ≡ true) (new : Q (stored s)) where
      abbrev full : List ℕ
      full = write_at a at (next_block w)

      abbrev end : ℕ
      end = group_block s + suc (bodies s)

      sizes : PayloadFits s
      sizes = payload-fits s now.valid

      at-is : at ≡ group_block s
      at-is = header-next w last

      block-is : next_block w ≡ header_of s
      block-is = go (next-is w)
        where
          go : Next w → next_block w ≡ header_of s
          go (zeroing y t k p) = absurd (differ last t)
          go (body y t k q p) = absurd (differ last t)
          go (header y t k p) = rw (y, t)

      written : checkpoint.zeros s + bodies s ≤ w.written
      written = leb-true (checkpoint.zeros s + bodies s) w.written last

      small : s.next.number < 256 ^ 4
      small = omega (arith, so_far.valid.numbered)

      same_next : s.next.number ≡ v.next.number
      same_next = ap (λ (x : NextGroup). x.number) now.next

      here : block_at full at ≡ header_of s
      here = same_kept c n v a w j now so_far ∙ block-is

      others : (i : ℕ) → (i ≡ at → ⊥) → block_at full i ≡ block_at a i
      others = other-kept c n v a w j now so_far

      journal : Journal c n full (stored s)
      journal = header-journal c n v a w j now so_far last

      long : length full ≡ length a
      long = journal.size ∙ sym j.size

      -- its group
      whole : groups.Written full s.next.number (group_block s) (new_ceiling s) (length (cursor_bytes s)) (length (attempt_bytes s)) (payload_of s)
      whole =
          record {
            total = sizes.total;
            header = ap (block_at full) (sym at-is) ∙ here;
            bodies = λ i m. others (group_block s + suc i) (λ q. omega (arith, at-is)) ∙ so_far.behind i (omega (arith, written));
          }

      in_area : end ≤ n / 512
      in_area = omega (arith, (state-room s now.valid).group, now.size)

      -- the half that is read then: the same one, or that of the header, which is zeroed
      data Turn : Type 0 where
        stayed : group_block s ≡ v.next.block → (origin full).block ≡ (origin a).block → (origin a).number ≤ (origin full).number → Turn
        moved : (origin full).block ≡ group_block s → (origin full).number ≡ s.next.number → checkpoint.zeros s ≡ half → Turn

      record Lies : Type 0 where
        from : (origin full).block ≤ group_block s
        upto : end ≤ (origin full).block + half
        first : group_block s < half → end ≤ half
        turn : Turn

      own-number : group_of (header_of s) ≡ s.next.number
      own-number = header-number s.next.number (new_ceiling s) (length (cursor_bytes s)) (length (attempt_bytes s)) small

      -- the first group of the half that is read, where the header stands and where it does not
      first-is : (origin full).number ≡ group_of (block_at full (origin full).block)
      first-is = go (read full journal.last (flushed s).next journal.groups.walks)
        where
          go : Read full journal.last (flushed s).next → (origin full).number ≡ group_of (block_at full (origin full).block)
          go (empty p q x y z u) = absurd (omega (arith, x))
          go (filled p q x y) = sym q

      first-here : (origin full).block ≡ group_block s → (origin full).number ≡ s.next.number
      first-here e = first-is ∙ ap (λ x. group_of (block_at full x)) (e ∙ sym at-is) ∙ ap group_of here ∙ own-number

      first-kept : group_block s ≡ v.next.block → (origin full).block ≡ (origin a).block → (origin a).number ≤ (origin full).number
      first-kept place e = go (read a j.last v.next j.groups.walks)
        where
          go : Read a j.last v.next → (origin a).number ≤ (origin full).number
          go (empty p q x y z u) =
              let zero : (origin a).block ≡ 0 = ap (λ (o : NextGroup). o.block) y in
              omega (arith, first-here (e ∙ zero ∙ sym (place ∙ x)), q, same_next, ap (λ (o : NextGroup). o.number) y)
          go (filled p q x y) =
              omega (arith, first-is ∙ ap (λ i. group_of (block_at full i)) e ∙ ap group_of (others (origin a).block (λ z. omega (arith, at-is, place))) ∙ q)

      lies : Lies
      lies =
          go (goes s.size s.next.block (bodies s)) (seat a j.last s.next walks halves)
          (seat full journal.last (flushed s).next journal.groups.walks (halves_of c n full (stored s) journal))
        where
          full-half : half_blocks (length full) ≡ half
          full-half = ap half_blocks journal.size

          same : s.next.block ≡ v.next.block
          same = ap (λ (x : NextGroup). x.block) now.next

          go : Goes s.size s.next.block (bodies s) → Seat a j.last s.next walks halves
              → Seat full journal.last (flushed s).next journal.groups.walks (halves_of c n full (stored s) journal) → Lies
          go (stays u x p z) (in_first b q e o) (in_first b' q' e' o') =
              record {
                from = omega (arith, b');
                upto = omega (arith, b', q', full-half);
                first = λ m. omega (arith, q', full-half);
                turn = stayed (p ∙ same) (b' ∙ sym b) (first-kept (p ∙ same) (b' ∙ sym b));
              }
          go (stays u x p z) (in_first b q e o) (in_second_lem b' q' e' o') =
              absurd (omega (arith, rw same_size at x, e, same_half, p, q', full-half))
          go (stays u x p z) (in_second_lem b q e o) (in_first b' q' e' o') = absurd (omega (arith, q, q', p, same_half, full-half))
          go (stays u x p z) (in_second_lem b q e o) (in_second_lem b' q' e' o') =
              let one : (origin full).block ≡ (origin a).block = b' ∙ full-half ∙ sym (b ∙ same_half) in
              record {
                from = omega (arith, b', p, q, same_half, full-half);
                upto = omega (arith, b', rw same_size at x, e, same_half, full-half, p);
                first = λ m. absurd (omega (arith, p, q, same_half));
                turn = stayed (p ∙ same) one (first-kept (p ∙ same) one);
              }
          go (moves u x p z) (in_first b q e o) (in_first b' q' e' o') =
              let other : group_block s ≡ half = p ∙ ap (λ y. otherHalf y s.next.block) same_size ∙ o ∙ same_half in
              absurd (omega (arith, other, q', full-half))
          go (moves u x p z) (in_first b q e o) (in_second_lem b' q' e' o') =
              let other : group_block s ≡ half = p ∙ ap (λ y. otherHalf y s.next.block) same_size ∙ o ∙ same_half in
              let one : (origin full).block ≡ group_block s = b' ∙ full-half ∙ sym other in
              record {
                from = omega (arith, one);
                upto = omega (arith, one, sizes.few-bodies, halves.enough, same_half);
                first = λ m. absurd (omega (arith, other));
                turn = moved one (first-here one) (z ∙ rw now.size);
              }
          go (moves u x p z) (in_second_lem b q e o) (in_first b' q' e' o') =
              let other : group_block s ≡ 0 = p ∙ ap (λ y. otherHalf y s.next.block) same_size ∙ o in
              let one : (origin full).block ≡ group_block s = b' ∙ sym other in
              record {
                from = omega (arith, one);
                upto = omega (arith, one, sizes.few-bodies, halves.enough, same_half);
                first = λ m. omega (arith, q', full-half);
                turn = moved one (first-here one) (z ∙ rw now.size);
              }
          go (moves u x p z) (in_second_lem b q e o) (in_second_lem b' q' e' o') =
              let other : group_block s ≡ 0 = p ∙ ap (λ y. otherHalf y s.next.block) same_size ∙ o in
              absurd (omega (arith, other, q', full-half, sizes.few-bodies, halves.enough, same_half))

      header-known : Known Q full (origin full) (flushed s).next (group_block s)
      header-known =
          record {
            saved = stored s;
            past = new;
            number = s.next.number;
            group = group-written full s.next.number (group_block s) (new_ceiling s) (length (cursor_bytes s)) (length (attempt_bytes s)) (payload_of s) whole
                sizes.cursor-low sizes.cursor_high sizes.attempt_low sizes.attempt_high end small (omega arith);
            numbered = omega arith;
            reads = reads-stored s now.valid c full (group_block s) whole.header
                (payload-written full s.next.number (group_block s) (new_ceiling s) (length (cursor_bytes s)) (length (attempt_bytes s)) (payload_of s) whole
                sizes.cursor-low sizes.cursor_high sizes.attempt_low sizes.attempt_high)
                ∙ ap (λ m. done (restored c m (stored s))) journal.size;
            first-half = lies.first;
            in_area = in_area;
            in_front_lem = λ i. omega arith;
            older = λ out. absurd (out (lies.from, omega (arith, lies.upto)));
            some_number = some;
            below = omega arith;
          }
        where
          some : 0 < s.next.number
          some = go (read a j.last v.next j.groups.walks)
            where
              go : Read a j.last v.next → 0 < s.next.number
              go (empty p q x y z u) = omega (arith, q, same_next)
              go (filled p q x y) = omega (arith, y, same_next)

      was-known : (h : ℕ) → h < n / 512 → (h ≡ at → ⊥) → has_header_kind (block_at full h) ≡ true → Known P a (origin a) v.next h
      was-known h x apart t = r.known h x (rw (others h apart) at t)

      other-known : (h : ℕ) (x : h < n / 512) (apart : h ≡ at → ⊥) (t : has_header_kind (block_at full h) ≡ true) → Turn
          → Known Q full (origin full) (flushed s).next h
      other-known h x apart t u =
          known-again P Q more a full (origin a) (origin full) v.next (flushed s).next h k long
          (λ i y z. others i (λ q. elim (dec_lt h at) [
            | yes f ↦ omega (arith, in_front-of h k before f)
            | no f ↦ apart (omega arith)
          ]))
          (front u) (old u) (omega (arith, k.below, same_next))
        where
          before : has_header_kind (block_at a h) ≡ true
          before = rw (others h apart) at t

          k : Known P a (origin a) v.next h
          k = was-known h x apart t

          front : Turn → InHalf (origin full) h → k.saved.next.block ≤ end
          front (stayed p b m) i = omega (arith, k.in_front_lem (rw b at i), p)
          front (moved b m z) i =
              absurd (differ before
              (rw here' at (so_far.zeroed (h - group_block s) (omega (arith, written, z, i, b)) (omega (arith, z, i, b)))))
            where
              here' : group_block s + (h - group_block s) ≡ h
              here' = omega (arith, i.0, b)

          old : Turn → (InHalf (origin full) h → ⊥) → k.number < (origin full).number
          old (stayed p b m) out = omega (arith, k.older (rw (← b) out), m)
          old (moved b m z) out = omega (arith, k.below, m, same_next)

      pub header_remembered : Remembers Q full (flushed s).next
      header_remembered =
          record {
            known = λ h x t. elim (ℕ_discrete h at) [
              | yes q ↦ rw (q ∙ at-is) header-known
              | no q ↦ other-known h x q t lies.turn
            ];
            named = λ i x t. elim (ℕ_discrete i at) [
              | yes q ↦ absurd (differ t (rw (q, here) (other-kind 2 (header_of s) (λ z. omega (arith, z, header-kind s.next.number (new_ceiling s) (length (cursor_bytes s)) (length (attempt_bytes s)))))))
              | no q ↦ omega (arith, rw (← others i q) at (r.named i x (rw (others i q) at t)), same_next)
            ];
            apart = λ h i x y t u e. elim (ℕ_discrete h at) [
              | yes p ↦ elim (ℕ_discrete i at) [
                | yes q ↦ p ∙ sym q
                | no q ↦ absurd (unlike i y q u (sym e ∙ ap (λ z. group_of (block_at full z)) p))
              ]
              | no p ↦ elim (ℕ_discrete i at) [
                | yes q ↦ absurd (unlike h x p t (e ∙ ap (λ z. group_of (block_at full z)) q))
                | no q ↦ r.apart h i x y (rw (others h p) at t) (rw (others i q) at u) (rw (others h p, others i q) at e)
              ]
            ];
          }
        where
          -- every other header names an earlier group
          unlike : (h : ℕ) → h < n / 512 → (h ≡ at → ⊥) → has_header_kind (block_at full h) ≡ true
              → group_of (block_at full h) ≡ group_of (block_at full at) → ⊥
          unlike h x apart t e =
              let k = was-known h x apart t in
              let earlier : group_of (block_at full h) ≡ k.number = ap group_of (others h apart) ∙ k.group.header.number in
              omega (arith, k.below, earlier, e ∙ ap group_of here ∙ own-number, same_next)
