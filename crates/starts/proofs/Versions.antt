-- The result of a restart doesn't depend on the versions in which the attempt counts of the groups are found. Either version takes as many
-- bytes, so that a body is sound in one where it is in the other, and a walk ends alike; the last group, which alone is decoded, is the same
-- or is read alike in either version, whatever the counts are. Assumes nothing.
use Prim.Native.Nat.{ℕ, zero, suc, ◌+◌, ◌*◌, ◌-◌, ◌^◌, ◌≤◌, ◌<◌}
use native.Mathlib.Omega.{arith}
use native.Mathlib.Decide.{ℕ_discrete, dec_le}
use mathlib.Core.Path.{◌≡◌, refl, sym, ap, ◌∙◌}
use mathlib.Core.Bool.{Bool, true, false, ◌&&◌, true≢false, and-false}
use mathlib.Core.List.{List}
use mathlib.Core.Option.{Option, none, some, none-ne-some}
use lib.Dec.{eqb}
use lib.ListN.{length, length-append, length-take, length-drop}
use lib.Seq.{take_all, take_at, drop_at}
use borrow.Author.Tests.{eqb-true}
use Rattle.types.specs.Refusal.{Result, refused, done}
use Rattle.types.specs.Table.{checked}
use Rattle.types.proofs.Cases.{split}
use Rattle.cursor.specs.Snapshot.{decode_cursor}
use Rattle.attempt.specs.Snapshot.{known, decode_attempts}
use Rattle.attempt.proofs.Snapshot.{attempts-length, version-same}
use Rattle.journal.specs.Area.{block_at}
use Rattle.journal.specs.Blocks.{bodies_for, used_in, chunk_of, header_block, body_block, group_of, body_count, payload_length, ceiling_of}
use Rattle.journal.specs.Sound.{has_header_kind, well_formed, sound_but_number, sound_header, sound_body}
use Rattle.journal.specs.Walks.{first_unsound, Stop, walk_from, any_header, header_behind, contents, payload}
use Rattle.journal.proofs.Blocks.{header-cursor, header_attempt, body-length, body-kind, body-sealed, body-index, body-used, body-number, body-rest}
use Rattle.journal.proofs.Sound.{body-other-kind, headless, says-kind, says-header, body-says}
use Rattle.journal.proofs.Walks.{unsound_at, Group, says_nothing, says-bodies, says-group, walk_turn, walk_ind, LastIs, at_once, behind, walk-ended}
use Rattle.journal.proofs.Group.{Written, payload-written}
use Rattle.consumer.specs.State.{Configuration, NextGroup, next_group_at, half_blocks}
use Rattle.starts.specs.Restart.{start_table, from_snapshots, read_group, origin, limit, walk_of, unfit_at, last_group, from_walk, restart}
use Rattle.starts.specs.Versions.{Source, Measured, attempts_in, payload_in, bodies_in, behind_in, Stands, OtherVersion, InBoth, SameButVersion, same, body, OtherVersions}

-- ## One journal
module _ (a : List ℕ) (v : ℕ) (g : Source) (m : Measured g) (s : Stands a v g) where
  abbrev lc : ℕ
  lc = length g.cursor

  abbrev la : ℕ
  la = length (attempts_in v g)

  attempts-size : la ≡ 9 + 12 * length g.counts
  attempts-size = attempts-length v g.counts

  written : Written a g.number g.place g.ceiling lc la (payload_in v g)
  written = record { total = length-append g.cursor (attempts_in v g); header = s.header; bodies = s.bodies }

  -- what a restart reads in it
  group-read : (c : Configuration) (next : NextGroup)
      → read_group c a g.place next
      ≡ from_snapshots c (length a) (decode_cursor g.cursor) (decode_attempts (attempts_in v g)) (ceiling_of (header_block g.number g.ceiling lc la)) next
  group-read c next =
      let content = payload-written a g.number g.place g.ceiling lc la (payload_in v g) written m.cursor-low m.cursor_high
      (omega (arith, attempts-size)) (omega (arith, attempts-size, m.few)) in
      rw (
        content,
        s.header,
        header-cursor g.number g.ceiling lc la (omega (arith, m.cursor_high)),
        header_attempt g.number g.ceiling lc la (omega (arith, attempts-size, m.few)),
        take_at g.cursor (attempts_in v g) lc refl,
        drop_at g.cursor (attempts_in v g) lc refl,
        take_all la (attempts_in v g) (omega arith),
      )

-- ## One body
-- what it is taken for doesn't depend on its bytes, but on how many are used
module _ (k i : ℕ) (chunk : List ℕ) (few : length chunk ≤ 500) (k-fits : k < 256 ^ 4) (i-fits : i < 256) where
  body-tested : (n j used : ℕ) → sound_body n j used (body_block k i chunk) ≡ (eqb k n && eqb i j && eqb (length chunk) used)
  unfolding sound_body
  body-tested n j used =
      rw (
        says-kind 2 (body_block k i chunk) (record { whole = body-length k i chunk few; kind-is = body-kind k i chunk few; check = body-sealed k i chunk few }),
        body-number k i chunk few k-fits,
        body-index k i chunk few i-fits,
        body-used k i chunk few,
      )
      (split (eqb (length chunk) used)
      (λ t. rw (t, ← eqb-true (length chunk) used t, body-rest k i chunk few) (whole (eqb k n && eqb i j)))
      (λ t. rw (t, and-false (eqb k n && eqb i j))))
    where
      whole : (b : Bool) → ((b && true) && true) ≡ (b && true)
      whole true = refl
      whole false = refl

-- two blocks are taken for the same
record Alike (x y : List ℕ) : Type 0 where
  number : group_of y ≡ group_of x
  kind : has_header_kind y ≡ has_header_kind x
  form : well_formed y ≡ well_formed x
  headers : (hi k i : ℕ) → sound_header hi k i x ≡ true → y ≡ x
  no-headers : (hi k i : ℕ) → sound_header hi k i x ≡ false → sound_header hi k i y ≡ false
  bodies : (k j used : ℕ) → sound_body k j used y ≡ sound_body k j used x

alike_same : (x y : List ℕ) → y ≡ x → Alike x y
alike_same x y e =
    record {
      number = rw e;
      kind = rw e;
      form = rw e;
      headers = λ hi k i t. e;
      no-headers = λ hi k i t. rw e t;
      bodies = λ k j used. rw e;
    }

alike-bodies : (k i : ℕ) (p q : List ℕ) → length p ≤ 500 → length q ≡ length p → k < 256 ^ 4 → i < 256 → Alike (body_block k i p) (body_block k i q)
unfolding well_formed
alike-bodies k i p q few as_many k-fits i-fits =
    let less : length q ≤ 500 = omega arith in
    let x = body-other-kind k i p few in
    let y = body-other-kind k i q less in
    record {
      number = body-number k i q less k-fits ∙ sym (body-number k i p few k-fits);
      kind = y ∙ sym x;
      form = rw (x, y);
      headers = λ hi n j t. absurd (true≢false (sym t ∙ headless hi n j (body_block k i p) x));
      no-headers = λ hi n j t. headless hi n j (body_block k i q) y;
      bodies = λ n j used. body-tested k i q less k-fits i-fits n j used ∙ rw as_many (sym (body-tested k i p few k-fits i-fits n j used));
    }

-- ## Two journals
module _ (a a' : List ℕ) (o : OtherVersions a a') where
  -- a group that stands in both takes as many bytes in either
  module _ (b : InBoth a a') where
    same-attempts : length (attempts_in b.other b.group) ≡ length (attempts_in b.one b.group)
    same-attempts = attempts-length b.other b.group.counts ∙ sym (attempts-length b.one b.group.counts)

    same-payload : length (payload_in b.other b.group) ≡ length (payload_in b.one b.group)
    same-payload =
        length-append b.group.cursor (attempts_in b.other b.group)
        ∙ rw same-attempts (sym (length-append b.group.cursor (attempts_in b.one b.group)))

    few-bodies : bodies_in b.one b.group ≤ 8
    few-bodies =
        omega (
          arith,
          length-append b.group.cursor (attempts_in b.one b.group),
          attempts-length b.one b.group.counts,
          b.measured.cursor_high,
          b.measured.few,
        )

    -- how many of them go into a body
    chunks : (j : ℕ) (p : List ℕ) → length (chunk_of j p) ≤ 500
    chunks j p = simp (length-take, length-drop) (omega arith)

    same_chunk : (j : ℕ) → length (chunk_of j (payload_in b.other b.group)) ≡ length (chunk_of j (payload_in b.one b.group))
    same_chunk j = simp (length-take, length-drop) (omega (arith, same-payload))

    body_alike : (j : ℕ) → j < bodies_in b.one b.group → Alike (block_at a (b.group.place + suc j)) (block_at a' (b.group.place + suc j))
    body_alike j h =
        rw (b.stands.bodies j h, b.stands_too.bodies j (rw same-payload h))
        (alike-bodies b.group.number (suc j) (chunk_of (suc j) (payload_in b.one b.group)) (chunk_of (suc j) (payload_in b.other b.group))
        (chunks (suc j) (payload_in b.one b.group)) (same_chunk (suc j)) b.measured.number_fits (omega (arith, few-bodies)))

    read_alike : (c : Configuration) (next : NextGroup) → read_group c a' b.group.place next ≡ read_group c a b.group.place next
    read_alike c next =
        group-read a' b.other b.group b.measured b.stands_too c next
        ∙ rw (
          o.size,
          same-attempts,
          version-same b.other b.one b.other-known b.one_known b.group.counts b.measured.counts-fit (omega (arith, b.measured.few)),
        )
        (sym (group-read a b.one b.group b.measured b.stands c next))

  alike : (i : ℕ) → Alike (block_at a i) (block_at a' i)
  alike i = go (o.blocks i)
    where
      go : SameButVersion a a' i → Alike (block_at a i) (block_at a' i)
      go (same e) = alike_same (block_at a i) (block_at a' i) e
      go (body b j h e) = rw e (body_alike b j h)

  -- ## The walk
  unsound-alike : (k i n t m j : ℕ) → first_unsound a' k i n t m j ≡ first_unsound a k i n t m j
  unsound-alike k i n t zero j = refl
  unsound-alike k i n t (suc m) j = rw ((alike (i + j)).bodies k j (used_in j n t), unsound-alike k i n t m (suc j))

  counted-alike : (hi k i : ℕ) → sound_header hi k i (block_at a i) ≡ true → unsound_at a' k i ≡ unsound_at a k i
  counted-alike hi k i t =
      rw ((alike i).headers hi k i t) (unsound-alike k i (body_count (block_at a i)) (payload_length (block_at a i)) (body_count (block_at a i)) 1)

  walk-alike : (hi : ℕ) (last : Option ℕ) (k i : ℕ) → walk_from a' hi last k i ≡ walk_from a hi last k i
  walk-alike hi =
      walk_ind a hi (λ last k i w. walk_from a' hi last k i ≡ w)
      (λ last k i n. walk_turn a' hi last k i ∙ rw (says_nothing a' hi k i ((alike i).no-headers hi k i n)))
      (λ last k i j n u.
      let same_block = (alike i).headers hi k i n in
      walk_turn a' hi last k i ∙ rw (says-bodies a' hi k i (rw same_block n), counted-alike hi k i n, u))
      (λ last k i e g ih.
      let n = says-header hi k i (block_at a i) g.header in
      let same_block = (alike i).headers hi k i n in
      let there : Group a' hi k i e =
      record { header = rw same_block g.header; bodies = counted-alike hi k i n ∙ g.bodies; behind = rw same_block g.behind } in
      walk_turn a' hi last k i ∙ rw (says-group a' hi k i e there) ih)

  -- ## Where it begins, and what stands at its end
  opens-alike : (hi i : ℕ) → sound_but_number hi i (block_at a' i) ≡ sound_but_number hi i (block_at a i)
  opens-alike hi i =
      let x = alike i in
      split (sound_but_number hi i (block_at a i))
      (λ t. rw (x.headers hi (group_of (block_at a i)) i t))
      (λ t. rw x.number (x.no-headers hi (group_of (block_at a i)) i t ∙ sym t))

  same-origin : origin a' ≡ origin a
  unfolding origin
  same-origin =
      let half : ℕ = half_blocks (length a) in
      rw (o.size, opens-alike (0 + half) 0, opens-alike (half + half) half, (alike 0).number, (alike half).number)

  same-limit : limit a' ≡ limit a
  same-limit = rw (same-origin, o.size)

  same-walk : walk_of a' ≡ walk_of a
  same-walk = rw (same-limit, same-origin) (walk-alike (limit a) none (origin a).number (origin a).block)

  same-unfit : (k i : ℕ) → unfit_at a' k i ≡ unfit_at a k i
  same-unfit k i = rw (same-limit, (alike i).form, (alike i).number)

  any-alike : (m i : ℕ) → any_header a' m i ≡ any_header a m i
  any-alike zero i = refl
  any-alike (suc m) i = rw ((alike i).kind, any-alike m (suc i))

  same-behind : (i : ℕ) → header_behind a' (limit a') i ≡ header_behind a (limit a) i
  unfolding header_behind
  same-behind i = rw same-limit (any-alike (limit a - suc i) (suc i))

  -- ## The last group
  -- its bodies are the same, or one of them is a body of a group that stands in both
  data Searched (x m : ℕ) : Type 0 where
    all : contents a' m x ≡ contents a m x → Searched x m
    one : (b : InBoth a a') (j y : ℕ) → j < bodies_in b.one b.group → x ≤ y → y < x + m → y ≡ b.group.place + suc j → Searched x m

  search_bodies : (m x : ℕ) → Searched x m
  search_bodies zero x = all refl
  search_bodies (suc m) x = first (o.blocks x) (search_bodies m (suc x))
    where
      first : SameButVersion a a' x → Searched (suc x) m → Searched x (suc m)
      first (body b j h e) rest = one b j x h (omega arith) (omega arith) e
      first (same e) (all r) = all (rw (e, r))
      first (same e) (one b j y h low high at) = one b j y h (omega arith) (omega arith) at

  all_sound : (k i n t m j : ℕ) → first_unsound a k i n t m j ≡ none → (x : ℕ) → j ≤ x → x < j + m → sound_body k x (used_in x n t) (block_at a (i + x)) ≡ true
  all_sound k i n t zero j e x low high = absurd (omega arith)
  all_sound k i n t (suc m) j e x low high =
      split (sound_body k j (used_in j n t) (block_at a (i + j)))
      (λ s. elim (ℕ_discrete x j) [
        | yes q ↦ rw q s
        | no q ↦ all_sound k i n t m (suc j) (rw s at e) x (omega arith) (omega arith)
      ])
      (λ s. absurd (none-ne-some (i + j) (sym (rw s at e))))

  -- the group of a walk that a body of a group that stands in both belongs to is this one
  same_place : (hi k i e : ℕ) → Group a hi k i e → (b : InBoth a a') (j y : ℕ) → j < bodies_in b.one b.group → i < y → y < e → y ≡ b.group.place + suc j
      → b.group.place ≡ i
  same_place hi k i e g b j y h low high at =
      let n : ℕ = body_count (block_at a i) in
      let x : ℕ = y - i in
      let there : i + x ≡ y = omega arith in
      let sound = all_sound k i n (payload_length (block_at a i)) n 1 g.bodies x (omega arith) (omega (arith, g.behind)) in
      let p : List ℕ = chunk_of (suc j) (payload_in b.one b.group) in
      let is : block_at a (i + x) ≡ body_block b.group.number (suc j) p = rw (there, at) (b.stands.bodies j h) in
      let index = (body-says k x (used_in x n (payload_length (block_at a i))) (body_block b.group.number (suc j) p) (rw is at sound)).index in
      omega (arith, index, body-index b.group.number (suc j) p (chunks b (suc j) (payload_in b.one b.group)) (omega (arith, few-bodies b)))

  last-read : (hi k i e : ℕ) → Group a hi k i e → (c : Configuration) (next : NextGroup) → read_group c a' i next ≡ read_group c a i next
  unfolding payload
  last-read hi k i e g c next = go (search_bodies (bodies_for (payload_length (block_at a i))) (suc i))
    where
      go : Searched (suc i) (bodies_for (payload_length (block_at a i))) → read_group c a' i next ≡ read_group c a i next
      go (all r) = rw ((alike i).headers hi k i (says-header hi k i (block_at a i) g.header), r, o.size)
      go (one b j y h low high at) =
          rw (← same_place hi k i e g b j y h (omega arith) (omega (arith, g.behind, g.header.form.count)) at) (read_alike b c next)

  same-last : (c : Configuration) (end : Stop) → walk_of a ≡ done end → (next : NextGroup) → last_group c a' end.last next ≡ last_group c a end.last next
  same-last c end walks next =
      go end.last (walk-ended a (limit a) none (origin a).number (origin a).block end.last end.number end.block walks).last-is
    where
      go : (l : Option ℕ) → LastIs a (limit a) none (origin a).number (origin a).block l end.number end.block
          → last_group c a' l next ≡ last_group c a l next
      go none t = rw o.size
      go (some i) (at_once p q r) = absurd (none-ne-some i (sym p))
      go (some i) (behind h m p q r s t) = let at : h ≡ i = cc in last-read (limit a) m i end.block (rw at at t) c next

  pub versions-free-restart : (c : Configuration) → restart c a' ≡ restart c a
  unfolding restart from_walk
  versions-free-restart c =
      ap (λ n. checked (start_table c n) (from_walk c a' (walk_of a'))) o.size
      ∙ ap (checked (start_table c (length a))) (ap (from_walk c a') same-walk ∙ go (walk_of a) refl)
    where
      go : (w : Result Stop) → walk_of a ≡ w → from_walk c a' w ≡ from_walk c a w
      go (refused r) e = refl
      go (done end) e = rw (same-unfit end.number end.block, same-behind end.block, same-last c end e (next_group_at end.number end.block))

-- ## Two journals whose last group alone is in another version
module _ (a a' : List ℕ) (v w : ℕ) (kv : known v ≡ true) (kw : known w ≡ true) (g : Source) (m : Measured g) (o : OtherVersion a a' v w g) where
  abbrev last-in-both : InBoth a a'
  last-in-both = record { group = g; measured = m; one = v; one_known = kv; stands = o.one; other = w; other-known = kw; stands_too = o.other }

  -- its header is the same in either version
  same-header : block_at a' g.place ≡ block_at a g.place
  same-header = rw (o.one.header, o.other.header, attempts-length w g.counts, attempts-length v g.counts)

  each-block : (i : ℕ) → SameButVersion a a' i
  each-block i =
      elim (ℕ_discrete i g.place) [
        | yes q ↦ same (rw q same-header)
        | no q ↦ elim (dec_le (suc i) g.place) [
          | yes l ↦ same (o.before i (omega arith) (omega arith))
          | no l ↦ elim (dec_le (behind_in v g) i) [
            | yes h ↦ same (o.after i h)
            | no h ↦ body last-in-both (i - suc g.place) (omega arith) (omega arith)
          ]
        ]
      ]

  pub version-free-restart : (c : Configuration) → restart c a' ≡ restart c a
  version-free-restart = versions-free-restart a a' (record { size = o.size; blocks = each-block })
