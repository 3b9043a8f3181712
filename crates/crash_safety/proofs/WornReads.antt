-- What a restart reads of a worn journal: nothing, or the last group of its walk, whose blocks all kept their checks, so that it is one
-- that a checkpoint of the list wrote. Assumes nothing.
use Prim.Native.Nat.{ℕ, zero, suc, ◌+◌, ◌-◌, ◌≤◌, ◌<◌}
use native.Mathlib.Omega.{arith}
use native.Mathlib.Decide.{ℕ_discrete}
use mathlib.Core.Path.{◌≡◌, refl, sym, ap, ◌∙◌}
use mathlib.Core.Bool.{true}
use mathlib.Core.List.{List}
use mathlib.Core.Option.{Option, none, some, none-ne-some}
use lib.ListN.{length}
use Rattle.types.specs.Refusal.{Result, refused, done, Damaged}
use Rattle.types.proofs.Cases.{split}
use Rattle.types.proofs.Table.{checked-passed}
use Rattle.journal.specs.Area.{block_at, blocks, Same}
use Rattle.journal.specs.Blocks.{group_of, used_in, body_count, payload_length}
use Rattle.journal.specs.Sound.{sound_body}
use Rattle.journal.specs.Walks.{first_unsound, Stop, damaged, walk, header_behind}
use Rattle.journal.proofs.Sound.{kind-says, body-says}
use Rattle.journal.proofs.Group.{payload_same}
use Rattle.journal.proofs.Walks.{Group, walk_ind, LastIs, at_once, behind, walk-ended}
use Rattle.consumer.specs.State.{Configuration, State, NextGroup, next_group_at}
use Rattle.consumer.specs.Valid.{Fits}
use Rattle.starts.specs.Restart.{start_table, fresh, start, read_group, origin, limit, walk_of, unfit_at, last_group, from_walk, restart}
use Rattle.starts.proofs.Halves.{limit-within}
use Rattle.crash_safety.specs.Runs.{Item, ends, fresh_world}
use Rattle.crash_safety.specs.Wear.{Wear}
use Rattle.crash_safety.proofs.Invariant.{Saved, restored, Journal}
use Rattle.crash_safety.proofs.Known.{Known, Remembers}
use Rattle.crash_safety.proofs.Recalls.{Past, recalled, always-recalled}
use Rattle.crash_safety.proofs.Reached.{Reached, reached}

-- ## a worn journal
-- each of m bodies from index j on is sound where none is unsound
all_sound : (a : List ℕ) (k i n t m j : ℕ) → first_unsound a k i n t m j ≡ none
    → (x : ℕ) → j ≤ x → x < j + m → sound_body k x (used_in x n t) (block_at a (i + x)) ≡ true
all_sound a k i n t zero j e x l u = absurd (omega arith)
all_sound a k i n t (suc m) j e x l u =
    split (sound_body k j (used_in j n t) (block_at a (i + j)))
    (λ y. elim (ℕ_discrete x j) [
      | yes q ↦ rw q y
      | no q ↦ all_sound a k i n t m (suc j) (rw y at e) x (omega arith) (omega arith)
    ])
    (λ y. absurd (none-ne-some (i + j) (sym (rw y at e))))

-- the blocks of a sound group kept their checks, so that they are as they were
group-kept : (a a' : List ℕ) (hi k h e : ℕ) → Wear a a' → Group a' hi k h e → e ≤ blocks a → Same a a' h e
group-kept a a' hi k h e worn g within x l u =
    elim (ℕ_discrete x h) [
      | yes q ↦ worn.kept x (omega arith) (rw q (kind-says 1 (block_at a' h) g.header.form.head).check)
      | no q ↦
          let n : ℕ = body_count (block_at a' h) in
          let t : ℕ = payload_length (block_at a' h) in
          let at : h + (x - h) ≡ x = omega arith in
          let sound = all_sound a' k h n t n 1 g.bodies (x - h) (omega arith) (omega (arith, g.behind)) in
          let body = body-says k (x - h) (used_in (x - h) n t) (block_at a' x) (rw at at sound) in
          worn.kept x (omega arith) (kind-says 2 (block_at a' x) body.kind).check
    ]

-- a walk ends, or names an unsound body
data Walked : Result Stop → Type 0 where
  ends_at : (e : Stop) → Walked (done e)
  names : (j : ℕ) → Walked (damaged j)

walked : (a : List ℕ) (hi k i : ℕ) → Walked (walk a hi k i)
walked a hi k i =
    walk_ind a hi (λ last k i w. Walked w)
    (λ last k i t. ends_at _)
    (λ last k i j t u. names j)
    (λ last k i e g r. r)
    none k i

module _ (c : Configuration) (n : ℕ) (s : State) (f : Fits c.settings) (e : start c n ≡ done s) (items : List Item) (a' : List ℕ) where
  abbrev a : List ℕ
  a = (ends c (fresh_world s n) items).journal

  abbrev P : Saved → Type 0
  P = Past c n s f e items

  -- what a restart on the worn journal reads: nothing, or the last group of its walk, which is known
  pub data Reads : Result State → Type 0 where
    bad : (j : ℕ) → Reads (refused (Damaged j))
    no-group : (end : Stop) → walk_of a' ≡ done end → Reads (done (fresh c n))
    one-group : (end : Stop) (h : ℕ) (o next : NextGroup) (k : Known c n P a o next h) → walk_of a' ≡ done end → end.last ≡ some h
        → (origin a').block ≤ h → h < limit a' → o ≡ origin a → Reads (done (restored c n k.saved))

  module _ (worn : Wear a a') where
    pub r : Reached c n s items
    r = reached c n s items f e

    abbrev pub held : Saved
    held = r.inv.saved

    pub j : Journal c n a held
    j = r.inv.journal

    pub knows : Remembers c n P a held.next
    knows = recalled c n P a held j (always-recalled c n s f e items)

    size : length a' ≡ n
    size = worn.size ∙ j.size

    -- a known group whose blocks are as they were reads as it was saved
    group-read : (end : Stop) (i m : ℕ) (k : Known c n P a (origin a) held.next i) → Group a' (limit a') m i end.block
        → Same a a' i end.block → end.number ≡ suc m → read_group c a' i (next_group_at end.number end.block) ≡ done (restored c n k.saved)
    group-read end i m k g same q =
        let block : block_at a' i ≡ block_at a i = same i (omega arith) (omega (arith, g.behind)) in
        let number : m ≡ k.number = sym g.header.number ∙ ap group_of block ∙ k.group.header.number in
        let to : end.block ≡ k.saved.next.block = sym g.behind ∙ ap (λ b. i + suc (body_count b)) block ∙ k.group.behind in
        let next : next_group_at end.number end.block ≡ k.saved.next =
        ap (λ x. next_group_at x end.block) (q ∙ ap suc number ∙ sym k.numbered) ∙ ap (λ x. next_group_at k.saved.next.number x) to in
        rw (next, block, payload_same a a' k.saved.next.block i k.number i k.saved.next.block (rw to at same) (omega arith) k.group, worn.size)
        k.reads

    -- so the last group of the walk, whose header stands at block i, is read
    known_read : (end : Stop) (i m : ℕ) (k : Known c n P a (origin a) held.next i) → walk_of a' ≡ done end → end.last ≡ some i
        → Group a' (limit a') m i end.block → Same a a' i end.block → end.number ≡ suc m → (origin a').block ≤ i
        → Reads (read_group c a' i (next_group_at end.number end.block))
    known_read end i m k w q g same x from =
        rw (group-read end i m k g same x) (one-group end i (origin a) held.next k w q from (omega (arith, g.behind, g.header.fits)) refl)

    last-known : (end : Stop) (i m : ℕ) → walk_of a' ≡ done end → end.last ≡ some i → Group a' (limit a') m i end.block → Same a a' i end.block
        → end.block ≤ blocks a → end.number ≡ suc m → (origin a').block ≤ i → Reads (read_group c a' i (next_group_at end.number end.block))
    last-known end i m w q g same within x from =
        let block : block_at a' i ≡ block_at a i = same i (omega arith) (omega (arith, g.behind)) in
        known_read end i m (knows.known i (omega (arith, g.behind, j.size)) (rw block at g.header.form.head)) w q g same x from

    last-read : (end : Stop) → walk_of a' ≡ done end → (l : Option ℕ) → end.last ≡ l → Reads (last_group c a' l (next_group_at end.number end.block))
    last-read end w none q = rw size (no-group end w)
    last-read end w (some h) q = go (walk-ended a' (limit a') none (origin a').number (origin a').block end.last end.number end.block w).last-is
      where
        go : LastIs a' (limit a') none (origin a').number (origin a').block end.last end.number end.block
            → Reads (read_group c a' h (next_group_at end.number end.block))
        go (at_once p x y) = absurd (none-ne-some h (sym p ∙ q))
        go (behind i m p x y z g) =
            let here : i ≡ h = cc in
            let within : end.block ≤ blocks a = omega (arith, g.behind, g.header.fits, (limit-within a').1, worn.size) in
            rw here at (last-known end i m w p g (group-kept a a' (limit a') m i end.block worn g within) within x z)

    pub reads : Reads (restart c a')
    unfolding restart from_walk
    reads =
        rw (checked-passed (start_table c (length a')) (from_walk c a' (walk_of a')) (rw size r.accepted))
        (go (walk_of a') refl (walked a' (limit a') (origin a').number (origin a').block))
      where
        go : (x : Result Stop) → walk_of a' ≡ x → Walked x → Reads (from_walk c a' x)
        go (refused d) w (names i) = bad i
        go (done end) w (ends_at end') =
            split (unfit_at a' end.number end.block)
            (λ t. rw t (bad end.block))
            (λ t. split (header_behind a' (limit a') end.block)
            (λ u. rw (t, u) (bad end.block))
            (λ u. rw (t, u) (last-read end w end.last refl)))
