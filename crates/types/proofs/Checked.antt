-- More laws of refusal tables: what lets a result through. Assumes nothing.
use Prim.Native.Nat.{ℕ}
use native.Mathlib.Omega.{arith}
use mathlib.Core.Path.{◌≡◌, refl}
use mathlib.Core.List.{List}
use mathlib.Core.Option.{Option, none, some}
use Rattle.types.specs.Refusal.{Refusal, Result, refused, done}
use Rattle.types.specs.Table.{Row, first, Passed, unless, checked}
use Rattle.types.proofs.Table.{first_none}

module _ {A : Type 0} where
  pub refused_not_done : {P : Type 0} {r : Refusal} {a : A} → refused r ≡ done a → P
  refused_not_done e = absurd (let z : ◌≡◌ {A = ℕ} 0 1 = cc in omega arith)

  pub done_inj : {a b : A} → done a ≡ done b → a ≡ b
  done_inj e = cc

  pub unless-done : (o : Option Refusal) (x : Result A) (a : A) → unless o x ≡ done a → (o ≡ none) × (x ≡ done a)
  unless-done none x a e = (refl, e)
  unless-done (some r) x a e = refused_not_done e

  -- every test failed, and the result was not a refusal either
  pub checked-says : (ws : List Row) (x : Result A) (a : A) → checked ws x ≡ done a → Passed ws × (x ≡ done a)
  checked-says ws x a e =
      let d = unless-done (first ws) x a e in
      (first_none ws d.0, d.1)
