-- A restart that reads the counts of a valid state drops none of them: none is zero, and none is of a settled offset. Assumes nothing.
use Prim.Native.Nat.{ℕ}
use native.Mathlib.Omega.{arith}
use mathlib.Core.Path.{◌≡◌, refl, ap}
use mathlib.Core.Bool.{false}
use mathlib.Core.List.{List, [], ◌∷◌}
use borrow.Author.Tests.{ne_eqb}
use Rattle.types.specs.Keyed.{Entry, All}
use Rattle.cursor.specs.Cursor.{Cursor, settled}
use Rattle.lease.specs.State.{Counted}
use Rattle.lease.specs.Counts.{all_attempt_counts}
use Rattle.consumer.specs.State.{State}
use Rattle.consumer.specs.Valid.{Valid}
use Rattle.consumer.proofs.Counts.{counts-counted, counts-unsettled}
use Rattle.starts.specs.Restart.{unsettled_counts}

-- counts of which none is dropped
all-carried : (c : Cursor) (l : List (Entry ℕ)) → All Counted l → All (λ o n. settled c o ≡ false) l → unsettled_counts c l ≡ l
all-carried c [] a b = refl
all-carried c (e ∷ l) a b =
    rw (ne_eqb e.value 0 (λ z. omega (arith, a.0.once)), b.0)
    (ap (λ (t : List (Entry ℕ)). e ∷ t) (all-carried c l a.1 b.1))

pub counts-carried : (s : State) → Valid s → unsettled_counts s.cursor (all_attempt_counts s.table) ≡ all_attempt_counts s.table
counts-carried s v = all-carried s.cursor (all_attempt_counts s.table) (counts-counted s v) (counts-unsettled s v)
