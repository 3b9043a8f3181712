-- Laws of the delivery policy: what `new` answers after each of its tests, which counts are dead letters, and where the
-- backoff of an attempt stands.
-- Assumes nothing.
use Prim.Native.Nat.{ℕ, ◌-◌, ◌<◌, ◌≤◌, min, max}
use native.Mathlib.Omega.{arith}
use mathlib.Core.Path.{◌≡◌, sym, ◌∙◌}
use mathlib.Core.Bool.{Bool, false, not, ◌&&◌}
use mathlib.Core.List.{List}
use lib.ListN.{length, take, get_or}
use lib.Seq.{get_or-take, length-take-le}
use borrow.Author.Tests.{ltb-false, eq-eqb, ne_eqb, lt-ltb, le-ltb}
use Rattle.types.specs.Limits.{STEPS}
use Rattle.types.specs.Table.{Passed}
use Rattle.delivery.specs.Policy.{unlimited, policy_table, destination, Deliver, DeadLetter, scheduled}

-- what an accepted policy says
pub record Allowed (m : ℕ) (u : Bool) (b : List ℕ) : Type 0 where
  pub limit : (unlimited m && not u) ≡ false
  pub few : length b ≤ STEPS

pub allowed : (m : ℕ) (u : Bool) (b : List ℕ) → Passed (policy_table m u b) → Allowed m u b
allowed m u b p = record { limit = p.0; few = ltb-false STEPS (length b) p.1.0 }

-- counts and the limit
module _ (limit n : ℕ) where
  pub deliver_unlimited : limit ≡ 0 → destination limit n ≡ Deliver
  deliver_unlimited z = rw (eq-eqb limit 0 z)

  module _ (limited : limit ≡ 0 → ⊥) where
    pub dead_letter_above : limit < n → destination limit n ≡ DeadLetter
    dead_letter_above h = rw (ne_eqb limit 0 limited, lt-ltb limit n h)

    pub deliver_within : n ≤ limit → destination limit n ≡ Deliver
    deliver_within h = rw (ne_eqb limit 0 limited, le-ltb limit n h)

at_same : (l : List ℕ) (i j : ℕ) → i ≡ j → get_or l i 0 ≡ get_or l j 0
at_same l i j e = rw e

-- the place that the code computes is the definition's
pub backoff-at : (nanos : List ℕ) (len attempt i : ℕ) → len ≤ length nanos → (len ≡ 0 → ⊥)
    → i ≡ min (max attempt 1 - 1) (len - 1) → get_or nanos i 0 ≡ scheduled (take len nanos) attempt
backoff-at nanos len attempt i fits some e =
    let count = length-take-le len nanos fits in
    let below : i < len = omega arith in
    sym (get_or-take len nanos i 0 below) ∙ at_same (take len nanos) i _ (rw count e)
