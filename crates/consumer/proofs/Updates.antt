-- A look-up after a value was changed in its place: the two cases of the law. Assumes nothing.
use Prim.Native.Nat.{ℕ}
use mathlib.Core.Path.{◌≡◌, refl, ◌∙◌}
use mathlib.Core.Bool.{false}
use mathlib.Core.List.{List}
use mathlib.Core.Option.{some}
use lib.Dec.{eqb}
use borrow.Author.Tests.{eq-eqb}
use Rattle.types.specs.Keyed.{Entry, lookup, update}
use Rattle.types.proofs.Keyed.{lookup-update}

module _ {A : Type 0} where
  pub lookup-update-same : (k : ℕ) (f : A → A) (v : A) (l : List (Entry A)) → lookup k l ≡ some v → lookup k (update k f l) ≡ some (f v)
  lookup-update-same k f v l h = lookup-update k k f l ∙ rw (eq-eqb k k refl, h)

  pub lookup-update-other : (j k : ℕ) (f : A → A) (l : List (Entry A)) → eqb j k ≡ false → lookup j (update k f l) ≡ lookup j l
  lookup-update-other j k f l n = lookup-update j k f l ∙ rw n
