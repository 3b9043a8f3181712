-- Days with a bit above 47: a test of each is the definition's. Assumes nothing.
use Prim.Native.Nat.{ℕ, suc, zero, ◌≤◌}
use native.Mathlib.Omega.{arith}
use native.Mathlib.Numerals.{add-one}
use mathlib.Core.Path.{◌≡◌, refl, sym, ap, ◌∙◌}
use mathlib.Core.Bool.{Bool, true, false, ◌||◌}
use mathlib.Core.List.{List}
use lib.Dec.{leb}
use lib.ListN.{length, take, get_or}
use lib.Seq.{take-length}
use Rattle.std.specs.List.{list_any}
use Rattle.std.proofs.lemmas.List.Folds.{list_any_more}
use Rattle.hours.specs.Hours.{anyAbove}

or_swap : (a b : Bool) → (a || b) ≡ (b || a)
or_swap true true = refl
or_swap true false = refl
or_swap false true = refl
or_swap false false = refl

any-first : (days : List ℕ) (n : ℕ) → n ≤ length days → list_any (leb 281474976710656) (take n days) ≡ anyAbove days n
any-first days zero h = refl
any-first days (suc n) h =
    rw (← add-one n, list_any_more (leb 281474976710656) days n 0 (omega arith), any-first days n (omega arith)) (or_swap (anyAbove days n) (leb 281474976710656 (get_or days n 0)))

pub tested : (days : List ℕ) → length days ≡ 7 → list_any (leb 281474976710656) days ≡ anyAbove days 7
tested days size =
    let all : take 7 days ≡ days = rw (← size) (take-length days) in
    ap (list_any (leb 281474976710656)) (sym all) ∙ any-first days 7 (omega arith)
