-- The walk, for any area, end, first number and first block: what it says of where it ended, that it depends on
-- nothing behind that place, and what a write or a whole group there makes of it. The definition counts its turns;
-- `walk_turn` and `walk_ind` free all other laws of the count. Assumes nothing.
use Prim.Native.Nat.{ℕ, zero, suc, ◌+◌, ◌*◌, ◌-◌, ◌≤◌, ◌<◌}
use native.Mathlib.Omega.{arith}
use native.Mathlib.Decide.{ℕ_discrete}
use mathlib.Core.Path.{◌≡◌, refl, sym, ap, subst, ◌∙◌}
use mathlib.Core.Bool.{true, false}
use mathlib.Core.List.{List}
use mathlib.Core.Option.{Option, none, some, none-ne-some}
use lib.ListN.{length, drop}
use Rattle.types.specs.Refusal.{Result}
use Rattle.types.proofs.Cases.{split, neither}
use Rattle.raw.specs.Bytes.{all_zero}
use Rattle.journal.specs.Area.{block_at, write_at, Same}
use Rattle.journal.specs.Blocks.{used_in, body_count, payload_length}
use Rattle.journal.specs.Sound.{has_header_kind, sound_header, sound_body}
use Rattle.journal.specs.Walks.{
  first_unsound,
  Found,
  nothing,
  unsound,
  group,
  or_unsound,
  bodies_at,
  group_at,
  Stop,
  stop,
  damaged,
  after,
  walk_over,
  walk_from,
  walk,
  any_header,
  header_behind,
}
use Rattle.journal.proofs.Area.{write_same, write-other, write-apart}
use Rattle.journal.proofs.Sound.{Header, header-says, says-header, headless, differ, zero-headless, zero-header, zeros-take, zeros-drop}

-- ## One group
-- the first unsound body that the block i counts, as the header of group k
abbrev pub unsound_at : List ℕ → ℕ → ℕ → Option ℕ
unsound_at a k i =
    first_unsound a k i (body_count (block_at a i)) (payload_length (block_at a i)) (body_count (block_at a i)) 1

-- a sound group k whose header stands at block i, with block e behind it
pub record Group (a : List ℕ) (hi k i e : ℕ) : Type 0 where
  pub header : Header hi k i (block_at a i)
  pub bodies : unsound_at a k i ≡ none
  pub behind : i + suc (body_count (block_at a i)) ≡ e

module _ (a : List ℕ) (hi k i : ℕ) where
  pub says_nothing : sound_header hi k i (block_at a i) ≡ false → group_at a hi k i ≡ nothing
  unfolding group_at
  says_nothing s = rw s

  pub says-bodies : sound_header hi k i (block_at a i) ≡ true → group_at a hi k i ≡ bodies_at a k i
  unfolding group_at
  says-bodies s = rw s

  pub says-group : (e : ℕ) → Group a hi k i e → group_at a hi k i ≡ group e
  says-group e g = says-bodies (says-header hi k i (block_at a i) g.header) ∙ rw (g.bodies, g.behind)

  -- the three things that may be found, each with what it says
  pub found_cases : (P : Found → Type 0)
      → (sound_header hi k i (block_at a i) ≡ false → P nothing)
      → ((j : ℕ) → sound_header hi k i (block_at a i) ≡ true → unsound_at a k i ≡ some j → P (unsound j))
      → ((e : ℕ) → Group a hi k i e → P (group e))
      → P (group_at a hi k i)
  found_cases P n u g =
      split (sound_header hi k i (block_at a i))
      (λ s. subst P (sym (says-bodies s)) (bodies s (unsound_at a k i) refl))
      (λ s. subst P (sym (says_nothing s)) (n s))
    where
      end : ℕ
      end = i + suc (body_count (block_at a i))

      bodies : sound_header hi k i (block_at a i) ≡ true → (o : Option ℕ) → unsound_at a k i ≡ o → P (or_unsound o end)
      bodies s none q = g end (record { header = header-says hi k i (block_at a i) s; bodies = q; behind = refl })
      bodies s (some j) q = u j s q

  pub nothing-says : group_at a hi k i ≡ nothing → sound_header hi k i (block_at a i) ≡ false
  nothing-says =
      found_cases (λ f. f ≡ nothing → sound_header hi k i (block_at a i) ≡ false)
      (λ s p. s)
      (λ j s q p. absurd (let z : ◌≡◌ {A = ℕ} 0 1 = cc in omega arith))
      (λ e g p. absurd (let z : ◌≡◌ {A = ℕ} 0 1 = cc in omega arith))

  pub group-says : (e : ℕ) → group_at a hi k i ≡ group e → Group a hi k i e
  group-says e =
      found_cases (λ f. f ≡ group e → Group a hi k i e)
      (λ s p. absurd (let z : ◌≡◌ {A = ℕ} 0 1 = cc in omega arith))
      (λ j s q p. absurd (let z : ◌≡◌ {A = ℕ} 0 1 = cc in omega arith))
      (λ x g p. let q : x ≡ e = cc in rw (← q) g)

  -- no group begins at the walk's end or behind it
  pub past_end : hi ≤ i → group_at a hi k i ≡ nothing
  past_end h =
      says_nothing
      (split (sound_header hi k i (block_at a i))
      (λ s. absurd (omega (arith, (header-says hi k i (block_at a i) s).fits)))
      (λ s. s))

-- ## The walk
abbrev stop_at : Option ℕ → ℕ → ℕ → Stop
stop_at last k i = record { last = last; number = k; block = i }

pub stop_inj : {l l' : Option ℕ} {k k' i i' : ℕ} → stop l k i ≡ stop l' k' i' → (l' ≡ l) × (k' ≡ k) × (i' ≡ i)
stop_inj {l} {l'} {k} {k'} {i} {i'} p =
    let q : stop_at l' k' i' ≡ stop_at l k i = cc in
    (ap (λ (s : Stop). s.last) q, ap (λ (s : Stop). s.number) q, ap (λ (s : Stop). s.block) q)

pub stop-damaged : {l : Option ℕ} {k i j : ℕ} {P : Type 0} → damaged j ≡ stop l k i → P
stop-damaged p = absurd (let z : ◌≡◌ {A = ℕ} 0 1 = cc in omega arith)

module _ (a : List ℕ) (hi : ℕ) where
  -- turns enough to reach the end are as good as any more
  enough : (m n : ℕ) (last : Option ℕ) (k i : ℕ) → hi ≤ m + i → hi ≤ n + i
      → walk_over m a hi last k i ≡ walk_over n a hi last k i
  unfolding walk_over
  enough zero zero last k i p q = refl
  enough zero (suc n) last k i p q = rw (past_end a hi k i (omega arith))
  enough (suc m) zero last k i p q = rw (past_end a hi k i (omega arith))
  enough (suc m) (suc n) last k i p q =
      found_cases a hi k i
      (λ f.
      after f (stop last k i) (λ e. walk_over m a hi (some i) (suc k) e)
      ≡ after f (stop last k i) (λ e. walk_over n a hi (some i) (suc k) e))
      (λ s. refl)
      (λ j s u. refl)
      (λ e g. enough m n (some i) (suc k) e (omega (arith, g.behind)) (omega (arith, g.behind)))

  pub walk_turn : (last : Option ℕ) (k i : ℕ)
      → walk_from a hi last k i
      ≡ after (group_at a hi k i) (stop last k i) (λ e. walk_from a hi (some i) (suc k) e)
  unfolding walk_from walk_over
  walk_turn last k i = enough hi (suc hi) last k i (omega arith) (omega arith)

  -- what holds of a walk that ends at once, and of one that goes on behind a group where it holds of the rest, holds
  -- of every walk
  pub walk_ind : (P : Option ℕ → ℕ → ℕ → Result Stop → Type 0)
      → ((last : Option ℕ) (k i : ℕ) → sound_header hi k i (block_at a i) ≡ false → P last k i (stop last k i))
      → ((last : Option ℕ) (k i j : ℕ) → sound_header hi k i (block_at a i) ≡ true → unsound_at a k i ≡ some j
      → P last k i (damaged j))
      → ((last : Option ℕ) (k i e : ℕ) → Group a hi k i e → P (some i) (suc k) e (walk_from a hi (some i) (suc k) e)
      → P last k i (walk_from a hi (some i) (suc k) e))
      → (last : Option ℕ) (k i : ℕ) → P last k i (walk_from a hi last k i)
  walk_ind P n u g last k i = go hi last k i (omega arith)
    where
      go : (m : ℕ) (last : Option ℕ) (k i : ℕ) → hi ≤ m + i → P last k i (walk_from a hi last k i)
      go zero last k i h =
          subst (P last k i) (sym (walk_turn last k i ∙ rw (past_end a hi k i (omega arith))))
          (n last k i (nothing-says a hi k i (past_end a hi k i (omega arith))))
      go (suc m) last k i h =
          subst (P last k i) (sym (walk_turn last k i))
          (found_cases a hi k i (λ f. P last k i (after f (stop last k i) (λ e. walk_from a hi (some i) (suc k) e)))
          (n last k i)
          (u last k i)
          (λ e q. g last k i e q (go m (some i) (suc k) e (omega (arith, q.behind)))))

  -- the last group of a walk that began behind `last`: that one, or a later one
  pub data LastIs (last : Option ℕ) (k i : ℕ) (l : Option ℕ) (k' e : ℕ) : Type 0 where
    at_once : l ≡ last → k' ≡ k → e ≡ i → LastIs last k i l k' e
    behind : (h m : ℕ) → l ≡ some h → k' ≡ suc m → k ≤ m → i ≤ h → Group a hi m h e → LastIs last k i l k' e

  pub record Ended (last : Option ℕ) (k i : ℕ) (l : Option ℕ) (k' e : ℕ) : Type 0 where
    pub rises : i ≤ e
    pub within : i ≤ hi → e ≤ hi
    -- each group takes a block at least
    pub numbered : k' + i ≤ k + e
    pub no_header : sound_header hi k' e (block_at a e) ≡ false
    pub last-is : LastIs last k i l k' e

  last-behind : (last : Option ℕ) (k i e₁ : ℕ) (l : Option ℕ) (k' e : ℕ) → Group a hi k i e₁
      → LastIs (some i) (suc k) e₁ l k' e → LastIs last k i l k' e
  last-behind last k i e₁ l k' e g (at_once p q r) = behind i k p q (omega arith) (omega arith) (rw r g)
  last-behind last k i e₁ l k' e g (behind h m p q r s t) = behind h m p q (omega arith) (omega (arith, g.behind)) t

  pub walk-ended : (last : Option ℕ) (k i : ℕ) (l : Option ℕ) (k' e : ℕ) → walk_from a hi last k i ≡ stop l k' e
      → Ended last k i l k' e
  walk-ended last k i l k' e =
      walk_ind (λ last k i w. w ≡ stop l k' e → Ended last k i l k' e)
      (λ last k i s p.
      let q : (l ≡ last) × (k' ≡ k) × (e ≡ i) = stop_inj p in
      record {
        rises = omega arith;
        within = λ h. omega arith;
        numbered = omega arith;
        no_header = rw (q.1, q.2) s;
        last-is = at_once q.0 q.1 q.2;
      })
      (λ last k i j s u p. stop-damaged p)
      (λ last k i e₁ g ih p.
      let r = ih p in
      record {
        rises = omega (arith, r.rises, g.behind);
        within = λ h. r.within (omega (arith, g.behind, g.header.fits));
        numbered = omega (arith, r.numbered, g.behind);
        no_header = r.no_header;
        last-is = last-behind last k i e₁ l k' e g r.last-is;
      })
      last
      k
      i

-- ## Two areas with the same blocks
module _ (a : List ℕ) (k i n t : ℕ) where
  unsound-range : (m j x : ℕ) → first_unsound a k i n t m j ≡ some x → (i + j ≤ x) × (x < i + j + m)
  unsound-range zero j x q = absurd (none-ne-some x q)
  unsound-range (suc m) j x q =
      split (sound_body k j (used_in j n t) (block_at a (i + j)))
      (λ s. let r = unsound-range m (suc j) x (rw s at q) in (omega arith, omega arith))
      (λ s. let e : some (i + j) ≡ some x = rw s at q in let y : i + j ≡ x = cc in (omega arith, omega arith))

module _ (a a' : List ℕ) (lo k i n t : ℕ) (l : lo ≤ i) where
  unsound-same : (e m j : ℕ) → Same a a' lo e → i + j + m ≤ e
      → first_unsound a' k i n t m j ≡ first_unsound a k i n t m j
  unsound-same e zero j s h = refl
  unsound-same e (suc m) j s h =
      rw (s (i + j) (omega arith) (omega arith), unsound-same e m (suc j) s (omega arith))

  unsound-found : (m j x : ℕ) → Same a a' lo (suc x) → first_unsound a k i n t m j ≡ some x
      → first_unsound a' k i n t m j ≡ some x
  unsound-found zero j x s q = absurd (none-ne-some x q)
  unsound-found (suc m) j x s q =
      let r = unsound-range a k i n t (suc m) j x q in
      let b : block_at a' (i + j) ≡ block_at a (i + j) = s (i + j) (omega arith) (omega arith) in
      split (sound_body k j (used_in j n t) (block_at a (i + j)))
      (λ p. rw (b, p) (unsound-found m (suc j) x s (rw p at q)))
      (λ p. rw (b, p) (rw p at q))

-- the same of the bodies that a block counts
module _ (a : List ℕ) (k i : ℕ) where
  abbrev count : ℕ
  count = body_count (block_at a i)

  abbrev total : ℕ
  total = payload_length (block_at a i)

  counted-range : (x : ℕ) → unsound_at a k i ≡ some x → i < x
  counted-range x u = omega (arith, unsound-range a k i count total count 1 x u)

  module _ (a' : List ℕ) (lo : ℕ) (l : lo ≤ i) where
    counted_same : (e : ℕ) → Same a a' lo e → i + suc count ≤ e → unsound_at a' k i ≡ unsound_at a k i
    counted_same e s h =
        rw (s i l (omega arith)) (unsound-same a a' lo k i count total l e count 1 s (omega arith))

    counted-found : (x : ℕ) → Same a a' lo (suc x) → unsound_at a k i ≡ some x → unsound_at a' k i ≡ some x
    counted-found x s u =
        rw (s i l (omega (arith, counted-range x u))) (unsound-found a a' lo k i count total l count 1 x s u)

module _ (a a' : List ℕ) (hi lo : ℕ) where
  -- a group within the blocks that are the same
  pub group-same : (k i e : ℕ) → lo ≤ i → Same a a' lo e → Group a hi k i e → Group a' hi k i e
  group-same k i e l s g =
      let b : block_at a' i ≡ block_at a i = s i l (omega (arith, g.behind)) in
      record {
        header = rw b g.header;
        bodies = counted_same a k i a' lo l e s (omega (arith, g.behind)) ∙ g.bodies;
        behind = rw b g.behind;
      }

  -- a walk over the one area passes the place where the walk over the other ended
  pub walk-reach : (last : Option ℕ) (k i : ℕ) (l : Option ℕ) (k' e : ℕ) → Same a a' lo e → lo ≤ i
      → walk_from a hi last k i ≡ stop l k' e → walk_from a' hi last k i ≡ walk_from a' hi l k' e
  walk-reach last k i l k' e s m =
      walk_ind a hi (λ last k i w. lo ≤ i → w ≡ stop l k' e → walk_from a' hi last k i ≡ walk_from a' hi l k' e)
      (λ last k i n m p. let q : (l ≡ last) × (k' ≡ k) × (e ≡ i) = stop_inj p in rw (q.0, q.1, q.2))
      (λ last k i j n u m p. stop-damaged p)
      (λ last k i e₁ g ih m p.
      let r = walk-ended a hi (some i) (suc k) e₁ l k' e p in
      let g' = group-same k i e₁ m (λ j x y. s j x (omega (arith, r.rises))) g in
      walk_turn a' hi last k i ∙ rw (says-group a' hi k i e₁ g') (ih (omega (arith, g.behind)) p))
      last
      k
      i
      m

  unsound-behind : (last : Option ℕ) (k i j : ℕ) → walk_from a hi last k i ≡ damaged j → i < j
  unsound-behind last k i j =
      walk_ind a hi (λ last k i w. w ≡ damaged j → i < j)
      (λ last k i n p. stop-damaged (sym p))
      (λ last k i x n u p. let q : x ≡ j = cc in omega (arith, counted-range a k i x u))
      (λ last k i e g ih p. omega (arith, ih p, g.behind))
      last
      k
      i

-- ## The laws of a walk from block lo on, where group k₀ is expected first
module _ (a a' : List ℕ) (hi lo k₀ : ℕ) where
  -- it depends on nothing behind the place where it ended, or behind the unsound body
  pub damaged-same : (j : ℕ) → walk a hi k₀ lo ≡ damaged j → Same a a' lo (suc j) → walk a' hi k₀ lo ≡ damaged j
  damaged-same j p s =
      walk_ind a hi (λ last k i w. lo ≤ i → w ≡ damaged j → walk_from a' hi last k i ≡ damaged j)
      (λ last k i n m p. stop-damaged (sym p))
      (λ last k i x n u m p.
      let q : j ≡ x = cc in
      let r = counted-range a k i x u in
      let b : block_at a' i ≡ block_at a i = s i m (omega arith) in
      let u' : unsound_at a' k i ≡ some x = counted-found a k i a' lo m x (rw q at s) u in
      walk_turn a' hi last k i ∙ rw (says-bodies a' hi k i (rw b n), u') p)
      (λ last k i e g ih m p.
      let r = unsound-behind a a' hi lo (some i) (suc k) e j p in
      let g' = group-same a a' hi lo k i e m (λ x y z. s x y (omega arith)) g in
      walk_turn a' hi last k i ∙ rw (says-group a' hi k i e g') (ih (omega (arith, g.behind)) p))
      none
      k₀
      lo
      (omega arith)
      p

  module _ (l : Option ℕ) (k e : ℕ) (ends : walk a hi k₀ lo ≡ stop l k e) where
    -- in general a walk over the other area goes on where this one ended
    pub walk-on : Same a a' lo e → walk a' hi k₀ lo ≡ walk_from a' hi l k e
    walk-on s = walk-reach a a' hi lo none k₀ lo l k e s (omega arith) ends

    -- where no sound header stands there, it ends there too
    pub walk_kept : Same a a' lo e → sound_header hi k e (block_at a' e) ≡ false → walk a' hi k₀ lo ≡ stop l k e
    walk_kept s n = walk-on s ∙ walk_turn a' hi l k e ∙ rw (says_nothing a' hi k e n)

    pub walk_same : Same a a' lo (suc e) → walk a' hi k₀ lo ≡ stop l k e
    walk_same s =
        let r = walk-ended a hi none k₀ lo l k e ends in
        walk_kept (λ j x y. s j x (omega arith)) (rw (s e r.rises (omega arith)) r.no_header)

    -- where a whole group stands there, it is passed, and the walk goes on behind it
    pub walk-passes : (e' : ℕ) → Same a a' lo e → Group a' hi k e e'
        → walk a' hi k₀ lo ≡ walk_from a' hi (some e) (suc k) e'
    walk-passes e' s g = walk-on s ∙ walk_turn a' hi l k e ∙ rw (says-group a' hi k e e' g)

    -- it is longer by just that group where the block behind is no sound header of the next number
    pub walk-longer : (e' : ℕ) → Same a a' lo e → Group a' hi k e e' → sound_header hi (suc k) e' (block_at a' e') ≡ false
        → walk a' hi k₀ lo ≡ stop (some e) (suc k) e'
    walk-longer e' s g n =
        walk-passes e' s g ∙ walk_turn a' hi (some e) (suc k) e' ∙ rw (says_nothing a' hi (suc k) e' n)

-- ## Headers behind a block
module _ (a : List ℕ) where
  none_any : (m i : ℕ) → ((j : ℕ) → i ≤ j → j < i + m → has_header_kind (block_at a j) ≡ false) → any_header a m i ≡ false
  none_any zero i n = refl
  none_any (suc m) i n =
      rw (n i (omega arith) (omega arith)) (none_any m (suc i) (λ j l h. n j (omega arith) (omega arith)))

  any_none : (m i : ℕ) → any_header a m i ≡ false → (j : ℕ) → i ≤ j → j < i + m → has_header_kind (block_at a j) ≡ false
  any_none zero i e j l h = absurd (omega arith)
  any_none (suc m) i e j l h =
      let n = neither (has_header_kind (block_at a i)) (any_header a m (suc i)) e in
      elim (ℕ_discrete j i) [
        | yes q ↦ rw q n.0
        | no q ↦ any_none m (suc i) n.1 j (omega arith) (omega arith)
      ]

  module _ (hi i : ℕ) where
    -- none, where no block between has kind 1 and a right check, and the other way round
    pub none-behind : ((j : ℕ) → i < j → j < hi → has_header_kind (block_at a j) ≡ false) → header_behind a hi i ≡ false
    unfolding header_behind
    none-behind n = none_any (hi - suc i) (suc i) (λ j l h. n j (omega arith) (omega arith))

    pub behind_none : header_behind a hi i ≡ false → (j : ℕ) → i < j → j < hi → has_header_kind (block_at a j) ≡ false
    unfolding header_behind
    behind_none e j l h = any_none (hi - suc i) (suc i) e j (omega arith) (omega arith)

    pub some-behind : (j : ℕ) → i < j → j < hi → has_header_kind (block_at a j) ≡ true → header_behind a hi i ≡ true
    some-behind j l h t =
        split (header_behind a hi i) (λ e. e) (λ e. absurd (differ t (behind_none e j l h)))

-- it goes by the blocks behind alone
module _ (a a' : List ℕ) where
  any_same : (m i : ℕ) → ((j : ℕ) → i ≤ j → block_at a' j ≡ block_at a j) → any_header a' m i ≡ any_header a m i
  any_same zero i same = refl
  any_same (suc m) i same = rw (same i (omega arith), any_same m (suc i) (λ j l. same j (omega arith)))

  pub behind-same : (hi i : ℕ) → ((j : ℕ) → i < j → block_at a' j ≡ block_at a j) → header_behind a' hi i ≡ header_behind a hi i
  unfolding header_behind
  behind-same hi i same = any_same (hi - suc i) (suc i) (λ j l. same j (omega arith))

-- ## Another last group
-- where a group of the same number and extent stands in the place of the last one, and nothing before it and no header behind it is
-- changed, the walk ends where it did
module _ (a a' : List ℕ) (hi lo k₀ i k e : ℕ)
    (same : Same a a' lo i)
    (whole : Group a' hi k i e)
    (Ends-there : sound_header hi (suc k) e (block_at a' e) ≡ false) where
  replaced_from : (last : Option ℕ) (m j : ℕ) → lo ≤ j → walk_from a hi last m j ≡ stop (some i) (suc k) e
      → walk_from a' hi last m j ≡ stop (some i) (suc k) e
  replaced_from =
      walk_ind a hi (λ last m j w. lo ≤ j → w ≡ stop (some i) (suc k) e → walk_from a' hi last m j ≡ stop (some i) (suc k) e)
      (λ last m j n l p.
      let q : (some i ≡ last) × (suc k ≡ m) × (e ≡ j) = stop_inj p in
      rw (← q.0, ← q.1, ← q.2) (walk_turn a' hi (some i) (suc k) e ∙ rw (says_nothing a' hi (suc k) e Ends-there)))
      (λ last m j x n u l p. stop-damaged p)
      (λ last m j e₁ g ih l p.
      let r = walk-ended a hi (some j) (suc m) e₁ (some i) (suc k) e p in
      walk_turn a' hi last m j
      ∙ rw (says-group a' hi m j e₁ (passed m j e₁ l g r.last-is)) (ih (omega (arith, g.behind)) p))
    where
      passed : (m j e₁ : ℕ) → lo ≤ j → Group a hi m j e₁ → LastIs a hi (some j) (suc m) e₁ (some i) (suc k) e → Group a' hi m j e₁
      passed m j e₁ l g (at_once p q r) =
          let place : i ≡ j = cc in
          let number : k ≡ m = omega arith in
          rw (← place, ← number, ← r) whole
      passed m j e₁ l g (behind h n p q r s t) =
          let place : i ≡ h = cc in
          group-same a a' hi lo m j e₁ l (λ x y z. same x y (omega arith)) g

  pub walk_replaced : walk a hi k₀ lo ≡ stop (some i) (suc k) e → walk a' hi k₀ lo ≡ stop (some i) (suc k) e
  walk_replaced = replaced_from none k₀ lo (omega arith)

-- ## A block written
-- behind the groups, or in front of the first, it leaves the walk as it was, unless it is the sound header expected
module _ (a : List ℕ) (hi lo k₀ : ℕ) (l : Option ℕ) (k e i : ℕ) (b : List ℕ)
    (fits : 512 * i + 512 ≤ length a)
    (whole : length b ≡ 512)
    (ends : walk a hi k₀ lo ≡ stop l k e)
    (out : i < e → i < lo) where
  pub walk-write : (i ≡ e → sound_header hi k e b ≡ false) → walk (write_at a i b) hi k₀ lo ≡ stop l k e
  walk-write n =
      walk_kept a (write_at a i b) hi lo k₀ l k e ends (write-apart a i b fits whole lo e out)
      (elim (ℕ_discrete e i) [
        | yes q ↦ rw (q, write_same a i b fits whole) (rw q at (n (sym q)))
        | no q ↦ rw (write-other a i b fits whole e q) (walk-ended a hi none k₀ lo l k e ends).no_header
      ])

  -- so a body, a block whose check fails and one of zeros leave it as it was
  pub walk-write-headless : has_header_kind b ≡ false → walk (write_at a i b) hi k₀ lo ≡ stop l k e
  walk-write-headless n = walk-write (λ q. headless hi k e b n)

-- one that is no header makes no block a header, wherever it is written
pub write-headless : (a : List ℕ) (i : ℕ) (b : List ℕ) → 512 * i + 512 ≤ length a → length b ≡ 512 → has_header_kind b ≡ false
    → (j : ℕ) → has_header_kind (block_at a j) ≡ false → has_header_kind (block_at (write_at a i b) j) ≡ false
write-headless a i b fits whole n j h =
    elim (ℕ_discrete j i) [
      | yes q ↦ rw (q, write_same a i b fits whole) n
      | no q ↦ rw (write-other a i b fits whole j q) h
    ]

-- ## Zeros
module _ (a : List ℕ) (z : all_zero a ≡ true) where
  block-zeros : (i : ℕ) → all_zero (block_at a i) ≡ true
  unfolding block_at
  block-zeros i = zeros-take 512 (drop (512 * i) a) (zeros-drop (512 * i) a z)

  -- no block is a header, so a walk ends where it begins
  pub headless-zeros : (i : ℕ) → has_header_kind (block_at a i) ≡ false
  headless-zeros i = zero-headless (block_at a i) (block-zeros i)

  pub walk-zeros : (hi k i : ℕ) → walk a hi k i ≡ stop none k i
  walk-zeros hi k i =
      walk_turn a hi none k i ∙ rw (says_nothing a hi k i (zero-header hi k i (block_at a i) (block-zeros i)))
