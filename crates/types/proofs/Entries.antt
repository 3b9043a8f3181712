-- More laws of keyed lists: what is absent is not found, and a property of every entry that implies another. Assumes nothing.
use Prim.Native.Nat.{ℕ}
use mathlib.Core.Path.{◌≡◌, sym, ◌∙◌}
use mathlib.Core.List.{List, [], ◌∷◌}
use mathlib.Core.Option.{Option, none, some, none-ne-some}
use Rattle.types.specs.Keyed.{Entry, All}

pub absent : {A P : Type 0} {x : Option A} {a : A} → x ≡ none → x ≡ some a → P
absent {a = a} n e = absurd (none-ne-some a (sym n ∙ e))

module _ {A : Type 0} (P Q : ℕ → A → Type 0) where
  pub all_imply : (l : List (Entry A)) → ((k : ℕ) (v : A) → P k v → Q k v) → All P l → All Q l
  all_imply [] h a = tt
  all_imply (e ∷ l) h a = (h e.key e.value a.0, all_imply l h a.1)
