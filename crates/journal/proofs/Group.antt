-- A group that is written whole is sound, is found by a walk that ended where it begins, and reads back: the bodies
-- hold the payload in stretches of 500 bytes. Assumes nothing.
use Prim.Native.Nat.{ℕ, zero, suc, ◌+◌, ◌*◌, ◌-◌, ◌≤◌, ◌<◌, ◌^◌}
use native.Mathlib.Omega.{arith}
use native.Mathlib.Nat.{sub-zero}
use native.Mathlib.Decide.{dec_le}
use mathlib.Core.Path.{◌≡◌, refl, sym, ap, ◌∙◌}
use mathlib.Core.Bool.{false}
use mathlib.Core.List.{List, ◌++◌, append_assoc, append-nil}
use mathlib.Core.Option.{Option, none, some}
use lib.Dec.{ltb}
use lib.ListN.{
  length,
  take,
  drop,
  replicate,
  length-append,
  length-take,
  length-drop,
  take-append-drop,
  drop_of_length-le,
}
use lib.Seq.{take_all, take_at, take-nil, take-append-add, drop-drop}
use borrow.Author.Tests.{ltb-true, ltb-false}
use Rattle.types.proofs.Cases.{split}
use Rattle.journal.specs.Area.{block_at, Same}
use Rattle.journal.specs.Blocks.{bodies_for, used_in, chunk_of, header_block, body_block, body_count, payload_length}
use Rattle.journal.specs.Sound.{sound_header}
use Rattle.journal.specs.Walks.{first_unsound, stop, walk_from, walk, contents, payload}
use Rattle.journal.proofs.Area.{block-length}
use Rattle.journal.proofs.Blocks.{header-count, header-cursor, header_attempt, body_content}
use Rattle.journal.proofs.Sound.{Lengths, header-says, header-sound, body-sound}
use Rattle.journal.proofs.Walks.{Group, walk-passes, walk-longer}

-- ## The bodies
module _ (p : List ℕ) where
  pub chunk_few : (j : ℕ) → length (chunk_of j p) ≤ 500
  chunk_few j = simp length-take (omega arith)

  -- the chunk of body j + 1 has as many bytes as are to be used there
  pub chunk_length : (j : ℕ) → j < bodies_for (length p)
      → length (chunk_of (suc j) p) ≡ used_in (suc j) (bodies_for (length p)) (length p)
  chunk_length j h =
      simp (length-take, length-drop)
      (split (ltb (suc j) (bodies_for (length p)))
      (λ q. rw q (omega (arith, ltb-true (suc j) (bodies_for (length p)) q)))
      (λ q. rw q (omega (arith, ltb-false (suc j) (bodies_for (length p)) q))))

-- a stretch of at most 500 bytes, filled up with zeros, and the rest behind it
refill : (q r : List ℕ) → take (length q - 500) r ≡ drop 500 q
    → take (length q) (take 500 q ++ replicate (500 - length (take 500 q)) 0 ++ r) ≡ q
refill q r e =
    elim (dec_le 500 (length q)) [
      | yes h ↦
          let c : length (take 500 q) ≡ 500 = simp length-take (omega arith) in
          let z : 500 - length (take 500 q) ≡ 0 = omega arith in
          let n : length q ≡ length (take 500 q) + (length q - 500) = omega arith in
          rw (z, append-nil (take 500 q))
          (ap (λ m. take m (take 500 q ++ r)) n
          ∙ take-append-add (take 500 q) r (length q - 500)
          ∙ ap (λ l. take 500 q ++ l) e
          ∙ take-append-drop 500 q)
      | no h ↦
          rw (take_all 500 q (omega arith), append_assoc q (replicate (500 - length q) 0) r)
          (take_at q (replicate (500 - length q) 0 ++ r) (length q) refl)
    ]

-- bodies 1 to n of a payload stand behind block i
abbrev pub Bodies : List ℕ → ℕ → ℕ → List ℕ → Type 0
Bodies a k i p =
    (j : ℕ) → j < bodies_for (length p) → block_at a (i + suc j) ≡ body_block k (suc j) (chunk_of (suc j) p)

module _ (a : List ℕ) (k i : ℕ) (p : List ℕ) (bodies : Bodies a k i p) where
  bodies-sound : k < 256 ^ 4 → bodies_for (length p) < 256 → (m j : ℕ) → j + m ≡ bodies_for (length p)
      → first_unsound a k i (bodies_for (length p)) (length p) m (suc j) ≡ none
  bodies-sound n f zero j h = refl
  bodies-sound n f (suc m) j h =
      let s = body-sound k (suc j) (chunk_of (suc j) p) (chunk_few p (suc j)) n (omega arith) in
      rw (bodies j (omega arith), ← chunk_length p j (omega arith), s) (bodies-sound n f m (suc j) (omega arith))

  bodies-read : (m j x : ℕ) → j + m ≡ bodies_for (length p) → x ≡ i + suc j
      → take (length p - 500 * j) (contents a m x) ≡ drop (500 * j) p
  bodies-read zero j x h e = take-nil (length p - 500 * j) ∙ sym (drop_of_length-le p {i = 500 * j} (omega arith))
  bodies-read (suc m) j x h e =
      let next : 500 * j + 500 ≡ 500 * suc j = omega arith in
      let here : suc j - 1 ≡ j = omega arith in
      let l : length (drop (500 * j) p) ≡ length p - 500 * j = length-drop (500 * j) p in
      let n : length p - 500 * suc j ≡ length (drop (500 * j) p) - 500 = omega arith in
      let d : drop (500 * suc j) p ≡ drop 500 (drop (500 * j) p) =
      sym (drop-drop 500 (500 * j) p ∙ ap (λ z. drop z p) next) in
      let c = body_content k (suc j) (chunk_of (suc j) p) (chunk_few p (suc j)) in
      rw (e, bodies j (omega arith), c, here, ← l)
      (refill (drop (500 * j) p) (contents a m (suc (i + suc j)))
      (rw (n, d) at (bodies-read m (suc j) (suc (i + suc j)) (omega arith) (omega arith))))

-- ## A whole group
-- group k stands whole at block i of an area: its header, with a ceiling and the lengths of the two snapshots, and
-- the bodies of its payload
pub record Written (a : List ℕ) (k i ceiling lc la : ℕ) (p : List ℕ) : Type 0 where
  pub total : length p ≡ lc + la
  pub header : block_at a i ≡ header_block k ceiling lc la
  pub bodies : Bodies a k i p

module _ (a : List ℕ) (k i ceiling lc la : ℕ) (p : List ℕ) (w : Written a k i ceiling lc la p)
    (c₁ : 13 ≤ lc) (c₂ : lc ≤ 2061) (a₁ : 9 ≤ la) (a₂ : la ≤ 1545) where
  length-is : payload_length (block_at a i) ≡ length p
  length-is =
      let c = header-cursor k ceiling lc la (omega arith) in
      let t = header_attempt k ceiling lc la (omega arith) in
      rw w.header (omega (arith, c, t, w.total))

  count-is : body_count (block_at a i) ≡ bodies_for (length p)
  count-is = rw (w.header, w.total) (header-count k ceiling lc la (omega arith))

  few-bodies : bodies_for (length p) ≤ 8
  few-bodies = omega (arith, w.total)

  allowed : Lengths lc la
  allowed = record { cursor-low = c₁; cursor_high = c₂; attempt_low = a₁; attempt_high = a₂ }

  pub group-written : (hi : ℕ) → k < 256 ^ 4 → i + suc (bodies_for (length p)) ≤ hi
      → Group a hi k i (i + suc (bodies_for (length p)))
  group-written hi n h =
      let s = header-sound k ceiling lc la allowed hi i n (omega (arith, w.total)) in
      let b = bodies-sound a k i p w.bodies n (omega (arith, few-bodies)) (bodies_for (length p)) 0 in
      record {
        header = rw w.header (header-says hi k i (header_block k ceiling lc la) s);
        bodies = rw (count-is, length-is) (b (omega arith));
        behind = rw count-is refl;
      }

  pub payload-written : payload a i ≡ p
  unfolding payload
  payload-written =
      let r = bodies-read a k i p w.bodies (bodies_for (length p)) 0 (suc i) (omega arith) (omega arith) in
      rw length-is (rw sub-zero at r)

-- ## A group written at the end of a walk
-- a' is the area with the whole group, and agrees with a from lo on up to where the walk over a ended
module _ (a a' : List ℕ) (hi lo k₀ : ℕ) (l : Option ℕ) (k e ceiling lc la : ℕ) (p : List ℕ)
    (ends : walk a hi k₀ lo ≡ stop l k e)
    (same : Same a a' lo e)
    (w : Written a' k e ceiling lc la p)
    (c₁ : 13 ≤ lc) (c₂ : lc ≤ 2061) (a₁ : 9 ≤ la) (a₂ : la ≤ 1545)
    (n : k < 256 ^ 4)
    (fits : e + suc (bodies_for (length p)) ≤ hi) where
  abbrev end : ℕ
  end = e + suc (bodies_for (length p))

  whole : Group a' hi k e end
  whole = group-written a' k e ceiling lc la p w c₁ c₂ a₁ a₂ hi n fits

  -- in general the walk passes the group and goes on behind it
  pub written-passes : walk a' hi k₀ lo ≡ walk_from a' hi (some e) (suc k) end
  written-passes = walk-passes a a' hi lo k₀ l k e ends end same whole

  -- where no sound header of the next number stands there, it is longer by just that group
  pub written-longer : sound_header hi (suc k) end (block_at a' end) ≡ false
      → walk a' hi k₀ lo ≡ stop (some e) (suc k) end
  written-longer = walk-longer a a' hi lo k₀ l k e ends end same whole

-- ## The payload of any group
contents-same : (a a' : List ℕ) (lo e m x : ℕ) → Same a a' lo e → lo ≤ x → x + m ≤ e
    → contents a' m x ≡ contents a m x
contents-same a a' lo e zero x s l h = refl
contents-same a a' lo e (suc m) x s l h =
    rw (s x l (omega arith), contents-same a a' lo e m (suc x) s (omega arith) (omega arith))

-- it depends on the blocks of the group alone
pub payload_same : (a a' : List ℕ) (hi lo k i e : ℕ) → Same a a' lo e → lo ≤ i → Group a hi k i e
    → payload a' i ≡ payload a i
unfolding payload
payload_same a a' hi lo k i e s l g =
    let n : ℕ = bodies_for (payload_length (block_at a i)) in
    let h : i + suc n ≡ e = rw (← g.header.form.count) g.behind in
    rw (s i l (omega arith), contents-same a a' lo e n (suc i) s (omega arith) (omega arith))

pub contents-length : (a : List ℕ) (m x : ℕ) → 512 * (x + m) ≤ length a → length (contents a m x) ≡ 500 * m
contents-length a zero x h = refl
contents-length a (suc m) x h =
    simp (length-append, length-take, length-drop)
    (omega (arith, block-length a x (omega arith), contents-length a m (suc x) (omega arith)))

-- a group within the area has as many bytes as its header says
pub payload-length : (a : List ℕ) (i : ℕ) → 512 * (i + suc (bodies_for (payload_length (block_at a i)))) ≤ length a
    → length (payload a i) ≡ payload_length (block_at a i)
unfolding payload
payload-length a i h =
    simp length-take
    (omega (arith, contents-length a (bodies_for (payload_length (block_at a i))) (suc i) (omega arith)))
