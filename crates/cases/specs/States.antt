-- What the cases are made of: lists of so many entries from an offset on, and lease tables with visibility 10 and hard cap 25.
-- SPEC.md, "State".
use Rattle.std.specs.Prelude.{ℕ, zero, suc, ◌+◌, List, [], ◌∷◌}
use Rattle.types.specs.Keyed.{Entry, entry}
use Rattle.cursor.specs.Ranges.{range}
use Rattle.cursor.specs.declared.Range.{Range}
use Rattle.lease.specs.State.{Table}
use Rattle.lease.specs.Operations.{lease}
use Rattle.lease.specs.declared.Lease.{Lease}
use Rattle.lease.specs.declared.LeaseConfig.{LeaseConfig}

-- n counts of 1
abbrev pub counts_from : ℕ → ℕ → List (Entry ℕ)
counts_from zero o = []
counts_from (suc n) o = entry o 1 ∷ counts_from n (suc o)

-- n leases under generation 0, handed out to worker 0 at 100 for the first time, until 110
abbrev pub leases_from : ℕ → ℕ → List (Entry Lease)
leases_from zero o = []
leases_from (suc n) o = entry o (lease 0 100 110 1 0) ∷ leases_from n (suc o)

-- one until another clock
abbrev pub lease_until : ℕ → ℕ → Entry Lease
lease_until o deadline = entry o (lease 0 100 deadline 1 0)

-- n ranges of one offset each, with an offset between two of them
abbrev pub ranges_from : ℕ → ℕ → List Range
ranges_from zero start = []
ranges_from (suc n) start = range start (start + 1) ∷ ranges_from n (start + 2)

abbrev pub lease_config : LeaseConfig
lease_config = record { visibility_nanos = 10; hard_cap_nanos = 25 }

-- workers 0, 1 and 7 may do everything, the others nothing
abbrev pub rights : List ℕ
rights = 127 ∷ 127 ∷ 0 ∷ 0 ∷ 0 ∷ 0 ∷ 0 ∷ 127 ∷ []

-- leases, carried counts, the next generation and the redelivery counter
abbrev pub table_of : List (Entry Lease) → List (Entry ℕ) → ℕ → ℕ → Table
table_of leases carried next redeliveries =
    record { config = lease_config; leases = leases; carried = carried; next_generation = next; redeliveries = redeliveries }
