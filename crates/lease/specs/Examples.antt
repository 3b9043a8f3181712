-- The settled examples 7 and 8: visibility 10, hard cap 25, a claim at 100.
-- SPEC.md, "Examples".
use Rattle.std.specs.Prelude.{◌≡◌, refl}
use Rattle.types.specs.Refusal.{refused, done, InFlight, CapReached}
use Rattle.lease.specs.State.{Table, starting_at}
use Rattle.lease.specs.Operations.{claim, extend}

-- the table with that lease, of offset 0 under generation 0, by worker 0
abbrev pub leased : Table
leased = (claim (starting_at (record { visibility_nanos = 10; hard_cap_nanos = 25 }) 0) 0 0 100).state

-- at 109 InFlight, at 110 count 2
pub record Example7 : Type 0 where
  pub at_109 : (claim leased 0 0 109).outcome ≡ refused InFlight
  pub at_110 : (claim leased 0 0 110).outcome ≡ done (record { offset = 0; generation = 1; deliveries = 2 })

pub example_7 : Example7
unfolding claim
example_7 = record { at_109 = refl; at_110 = refl }

-- the same lease, not claimed again: an extension at 120 gives 125, at 125 refusal 28, with the other before it or not
pub record Example8 : Type 0 where
  pub at_120 : (extend leased 0 0 120).outcome ≡ done 125
  pub at_125 : (extend leased 0 0 125).outcome ≡ refused CapReached
  pub after_120 : (extend (extend leased 0 0 120).state 0 0 125).outcome ≡ refused CapReached

pub example_8 : Example8
unfolding claim extend
example_8 = record { at_120 = refl; at_125 = refl; after_120 = refl }
