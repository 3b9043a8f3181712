-- Laws of refusal tables: the first test that holds is answered, and where none is, every test failed.
-- Assumes nothing.
use Prim.Native.Nat.{ℕ}
use native.Mathlib.Omega.{arith}
use mathlib.Core.Path.{◌≡◌, refl, sym, ap}
use mathlib.Core.Bool.{true, false, cond}
use mathlib.Core.List.{List, [], ◌∷◌, ◌++◌}
use mathlib.Core.Option.{Option, none, some, none-ne-some}
use Rattle.types.specs.Refusal.{Refusal, Result, refused, done}
use Rattle.types.specs.Table.{Row, ◌⇒◌, first, Passed, Answer, answer, checked, guarded, unless_kept}
use Rattle.types.proofs.Cases.{split}

pub first_none : (ws : List Row) → first ws ≡ none → Passed ws
first_none [] e = tt
first_none (w ∷ ws) e =
    split w.test
    (λ q. absurd (none-ne-some w.refusal (sym (rw q at e))))
    (λ q. (q, first_none ws (rw q at e)))

pub passed_none : (ws : List Row) → Passed ws → first ws ≡ none
passed_none [] p = refl
passed_none (w ∷ ws) p = rw p.0 (passed_none ws p.1)

-- a test that holds after tests that failed is the one answered
pub first-met : (ws vs : List Row) (w : Row) → Passed ws → w.test ≡ true → first (ws ++ w ∷ vs) ≡ some w.refusal
first-met [] vs w p t = rw t
first-met (u ∷ ws) vs w p t = rw p.0 (first-met ws vs w p.1 t)

-- nothing behind a test that holds is looked at, and one that fails can be left out
pub first-cut : (ws vs : List Row) (w : Row) → w.test ≡ true → first (ws ++ w ∷ vs) ≡ first (ws ++ (true ⇒ w.refusal ∷ []))
first-cut [] vs w t = rw t
first-cut (u ∷ ws) vs w t = ap (cond u.test (some u.refusal)) (first-cut ws vs w t)

pub first_skip : (ws vs : List Row) (w : Row) → w.test ≡ false → first (ws ++ w ∷ vs) ≡ first (ws ++ vs)
first_skip [] vs w t = rw t
first_skip (u ∷ ws) vs w t = ap (cond u.test (some u.refusal)) (first_skip ws vs w t)

module _ {A S : Type 0} (ws : List Row) (s : S) (a : Answer A S) where
  pub guarded-passed : Passed ws → guarded ws s a ≡ a
  guarded-passed p = rw (passed_none ws p)

  pub guarded-refused : (r : Refusal) → first ws ≡ some r → guarded ws s a ≡ answer (refused r) s
  guarded-refused r e = rw e

  -- every answer of a guarded operation: a refusal that keeps the state, or the effect with every test failed
  pub guarded_cases : (P : Answer A S → Type 0) → ((r : Refusal) → first ws ≡ some r → P (answer (refused r) s)) → (Passed ws → P a) → P (guarded ws s a)
  guarded_cases P r p = go (first ws) refl
    where
      go : (o : Option Refusal) → first ws ≡ o → P (unless_kept o s a)
      go none e = p (first_none ws e)
      go (some q) e = r q e

pub checked-passed : {A : Type 0} (ws : List Row) (a : Result A) → Passed ws → checked ws a ≡ a
checked-passed ws a p = rw (passed_none ws p)

-- one table behind another
pub first-met-before : (ws vs : List Row) (r : Refusal) → first ws ≡ some r → first (ws ++ vs) ≡ some r
first-met-before [] vs r e = absurd (none-ne-some r e)
first-met-before (w ∷ ws) vs r e = split w.test (λ q. rw q (rw q at e)) (λ q. rw q (first-met-before ws vs r (rw q at e)))

pub first_none_before : (ws vs : List Row) → first ws ≡ none → first (ws ++ vs) ≡ first vs
first_none_before [] vs e = refl
first_none_before (w ∷ ws) vs e =
    split w.test
    (λ q. absurd (none-ne-some w.refusal (sym (rw q at e))))
    (λ q. rw q (first_none_before ws vs (rw q at e)))

pub passed-append : (ws vs : List Row) → Passed (ws ++ vs) → Passed ws × Passed vs
passed-append [] vs p = (tt, p)
passed-append (w ∷ ws) vs p =
    let rest = passed-append ws vs p.1 in
    ((p.0, rest.0), rest.1)

pub append-passed : (ws vs : List Row) → Passed ws → Passed vs → Passed (ws ++ vs)
append-passed [] vs p q = q
append-passed (w ∷ ws) vs p q = (p.0, append-passed ws vs p.1 q)

pub checked-append : {A : Type 0} (ws vs : List Row) (a : Result A) → checked (ws ++ vs) a ≡ checked ws (checked vs a)
checked-append [] vs a = refl
checked-append (w ∷ ws) vs a = split w.test (λ q. rw q) (λ q. rw q (checked-append ws vs a))

-- a table that let a value through, and one that did not
pub checked-done : {A : Type 0} (ws : List Row) (a b : A) → checked ws (done a) ≡ done b → Passed ws × (a ≡ b)
checked-done {A} ws a b e = go (first ws) refl
  where
    go : (o : Option Refusal) → first ws ≡ o → Passed ws × (a ≡ b)
    go none q = let d : done a ≡ done b = rw q at e in (first_none ws q, cc)
    go (some r) q =
        let d : ◌≡◌ {A = Result A} (refused r) (done b) = rw q at e in
        absurd (let z : ◌≡◌ {A = ℕ} 0 1 = cc in omega arith)

pub checked_refused : {A B : Type 0} (ws : List Row) (a : A) (b : Result B) (r : Refusal)
    → checked ws (done a) ≡ refused r → checked ws b ≡ refused r
checked_refused {A} ws a b r e = go (first ws) refl
  where
    go : (o : Option Refusal) → first ws ≡ o → checked ws b ≡ refused r
    go none q =
        let d : done a ≡ refused r = rw q at e in
        absurd (let z : ◌≡◌ {A = ℕ} 0 1 = cc in omega arith)
    go (some s) q =
        let d : ◌≡◌ {A = Result A} (refused s) (refused r) = rw q at e in
        let t : s ≡ r = cc in
        rw (q, t)
