-- Where one block on a walk, not its last header, loses its check, the walk names it as an unsound body, or ends at it with a
-- header behind. Assumes nothing.
use Prim.Native.Nat.{ℕ, zero, suc, ◌+◌, ◌*◌, ◌-◌, ◌≤◌, ◌<◌}
use native.Mathlib.Omega.{arith}
use native.Mathlib.Decide.{dec_lt, ℕ_discrete}
use mathlib.Core.Path.{◌≡◌, sym, subst, ◌∙◌}
use mathlib.Core.Bool.{true, false}
use mathlib.Core.List.{List}
use mathlib.Core.Option.{Option, none, some, none-ne-some}
use lib.ListN.{length}
use Rattle.types.specs.Refusal.{Result}
use Rattle.types.proofs.Cases.{split}
use Rattle.crc.specs.Seal.{is_sealed}
use Rattle.journal.specs.Area.{block_at, write_at}
use Rattle.journal.specs.Blocks.{used_in, body_count, payload_length}
use Rattle.journal.specs.Sound.{sound_body}
use Rattle.journal.specs.Walks.{first_unsound, Stop, stop, damaged, walk_from, walk, header_behind}
use Rattle.journal.proofs.Area.{write_same, write-other}
use Rattle.journal.proofs.Sound.{differ, says-header, unchecked, unchecked-header, no_body}
use Rattle.journal.proofs.Walks.{
  unsound_at,
  Group,
  says_nothing,
  says-bodies,
  says-group,
  stop_inj,
  stop-damaged,
  walk_turn,
  walk_ind,
  LastIs,
  at_once,
  behind,
  walk-ended,
  group-same,
  some-behind,
}

module _ (a : List ℕ) (i : ℕ) (b : List ℕ) (fits : 512 * i + 512 ≤ length a) (whole : length b ≡ 512)
    (broken : is_sealed b ≡ false) where
  abbrev worn : List ℕ
  worn = write_at a i b

  here : block_at worn i ≡ b
  here = write_same a i b fits whole

  other : (j : ℕ) → (j ≡ i → ⊥) → block_at worn j ≡ block_at a j
  other = write-other a i b fits whole

  -- ## a body
  unchecked-body : (k j used : ℕ) → sound_body k j used b ≡ false
  unchecked-body k j used = sym (no_body k j used b (λ s. differ s.kind (unchecked 2 b broken)))

  -- of bodies that were sound, body x is the first unsound one
  body-worn : (k h n t x m j : ℕ) → h + x ≡ i → j ≤ x → x < j + m
      → first_unsound a k h n t m j ≡ none → first_unsound worn k h n t m j ≡ some i
  body-worn k h n t x zero j e l u q = absurd (omega arith)
  body-worn k h n t x (suc m) j e l u q =
      elim (ℕ_discrete j x) [
        | yes p ↦
            let at : h + j ≡ i = omega arith in
            rw (at, here, unchecked-body k j (used_in j n t))
        | no p ↦
            rw (other (h + j) (λ y. omega arith))
            (split (sound_body k j (used_in j n t) (block_at a (h + j)))
            (λ s. rw s (body-worn k h n t x m (suc j) e (omega arith) (omega arith) (rw s at q)))
            (λ s. absurd (none-ne-some (h + j) (sym (rw s at q)))))
      ]

  -- ## the walk
  -- it names the block, or ends there with a header behind
  pub data Broken (hi : ℕ) (w : Result Stop) : Type 0 where
    named : w ≡ damaged i → Broken hi w
    ended : (l : Option ℕ) (k : ℕ) → w ≡ stop l k i → header_behind worn hi i ≡ true → Broken hi w

  module _ (hi : ℕ) (last : Option ℕ) (k h e : ℕ) (g : Group a hi k h e) where
    -- the header of a group that is not the last
    header-lost : h ≡ i → (l : Option ℕ) (k' e' : ℕ) → (l ≡ some i → ⊥) → LastIs a hi (some h) (suc k) e l k' e'
        → Broken hi (walk_from worn hi last k h)
    header-lost q l k' e' n (at_once p r s) = absurd (n (p ∙ rw q))
    header-lost q l k' e' n (behind x m p r s t y) =
        let far : i < x = omega (arith, g.behind) in
        let none_here : block_at worn h ≡ b = rw q here in
        ended last k
        (walk_turn worn hi last k h ∙ rw (says_nothing worn hi k h (rw none_here (unchecked-header hi k h b broken)), q))
        (some-behind worn hi i x far (omega (arith, y.header.fits))
        (rw (other x (λ z. omega arith)) y.header.form.head))

    -- one of its bodies
    body-lost : h < i → i < e → Broken hi (walk_from worn hi last k h)
    body-lost l u =
        let same : block_at worn h ≡ block_at a h = other h (λ y. omega arith) in
        let n : ℕ = body_count (block_at a h) in
        let first : unsound_at worn k h ≡ some i =
        rw same
        (body-worn k h n (payload_length (block_at a h)) (i - h) n 1 (omega arith) (omega arith) (omega (arith, g.behind)) g.bodies) in
        let sound = says-header hi k h (block_at worn h) (rw same g.header) in
        named (walk_turn worn hi last k h ∙ rw (says-bodies worn hi k h sound, first))

    -- a block behind it
    group-passed : e ≤ i → walk_from worn hi last k h ≡ walk_from worn hi (some h) (suc k) e
    group-passed l =
        walk_turn worn hi last k h
        ∙ rw (says-group worn hi k h e (group-same a worn hi 0 k h e (omega arith) (λ j x y. other j (λ z. omega arith)) g))

  pub walk-worn : (hi k₀ lo : ℕ) (l : Option ℕ) (k' e : ℕ) → walk a hi k₀ lo ≡ stop l k' e → lo ≤ i → i < e
      → (l ≡ some i → ⊥) → Broken hi (walk worn hi k₀ lo)
  walk-worn hi k₀ lo l k' e p from to n =
      walk_ind a hi (λ last k h w. w ≡ stop l k' e → h ≤ i → Broken hi (walk_from worn hi last k h))
      (λ last k h s p from. absurd (omega (arith, stop_inj p)))
      (λ last k h j s u p from. stop-damaged p)
      (λ last k h e₁ g ih p from.
      elim (dec_lt i e₁) [
        | yes u ↦ elim (ℕ_discrete h i) [
          | yes q ↦ header-lost hi last k h e₁ g q l k' e n (walk-ended a hi (some h) (suc k) e₁ l k' e p).last-is
          | no q ↦ body-lost hi last k h e₁ g (omega arith) u
        ]
        | no u ↦ subst (Broken hi) (sym (group-passed hi last k h e₁ g (omega arith))) (ih p (omega arith))
      ])
      none
      k₀
      lo
      p
      from
