-- What the refusal table of a start says where none of its tests holds, by name. A row more in the table is a field more here and
-- moves nothing else. Assumes nothing.
use Prim.Native.Nat.{ℕ}
use native.Mathlib.Omega.{arith}
use mathlib.Core.Path.{◌≡◌}
use mathlib.Core.Bool.{false}
use mathlib.Core.List.{[], ◌∷◌}
use lib.ListN.{length}
use borrow.Author.Tests.{ltb-false, eqb-false}
use Rattle.types.specs.Limits.{STEPS}
use Rattle.types.specs.Refusal.{done, BadArea}
use Rattle.types.specs.Table.{◌⇒◌, Passed}
use Rattle.types.proofs.Table.{passed-append, checked-done}
use Rattle.consumer.specs.State.{Settings, Configuration, State, bad_area}
use Rattle.consumer.specs.Valid.{Accepted}
use Rattle.starts.specs.Restart.{settings_table, start_table, fresh, start}

settings_open : (s : Settings) → Passed (settings_table s) → Accepted s
settings_open s p =
    record {
      limited = p.0;
      few-steps = ltb-false STEPS (length s.policy.backoff) p.1.0;
      some-threshold = omega (arith, eqb-false s.policy.flush_redeliveries 0 p.1.1.0);
      hours = p.1.1.1;
    }

pub record StartOpen (c : Configuration) (size : ℕ) : Type 0 where
  pub settings : Accepted c.settings
  pub area : bad_area size ≡ false

pub start_open : (c : Configuration) (size : ℕ) → Passed (start_table c size) → StartOpen c size
start_open c size p =
    let both = passed-append (settings_table c.settings) (bad_area size ⇒ BadArea ∷ []) p in
    record { settings = settings_open c.settings both.0; area = both.1.0 }

pub start-says : (c : Configuration) (size : ℕ) (s : State) → start c size ≡ done s → StartOpen c size × (fresh c size ≡ s)
unfolding start
start-says c size s e =
    let d = checked-done (start_table c size) (fresh c size) s e in
    (start_open c size d.0, d.1)
