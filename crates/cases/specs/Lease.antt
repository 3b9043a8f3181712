-- Cases of the lease table's refusals: claim 23, 25, 27; ack 24; extend 24, 28; nack 24, 25; carried counts 19; lists of offsets 20. And the
-- worker of a lease.
-- SPEC.md, "Leases".
use Rattle.std.specs.Prelude.{ℕ, ◌-◌, ◌≡◌, refl, [], ◌∷◌}
use Rattle.std.proofs.Math.Option.{some}
use Rattle.types.specs.Limits.{MAX}
use Rattle.types.specs.Refusal.{refused, done, TooManyPairs, OutTooShort, InFlight, Fenced, Exhausted, Full, CapReached}
use Rattle.types.specs.Keyed.{entry}
use Rattle.types.specs.Lists.{listed}
use Rattle.lease.specs.State.{Table}
use Rattle.lease.specs.Operations.{lease, lease_of, claim, ack, extend, nack, grant_of}
use Rattle.lease.specs.Counts.{resume_attempts}
use Rattle.lease.specs.Rest.{expired}
use Rattle.lease.specs.Workers.{without_workers}
use Rattle.cases.specs.States.{counts_from, leases_from, table_of}

-- offset 5 is held from 100 to 110, under generation 0, and the next generation is as given
abbrev held : ℕ → Table
held next = table_of (leases_from 1 5) [] next 0

-- offsets 0 to n − 1 are held so
abbrev crowd : ℕ → ℕ → Table
crowd n next = table_of (leases_from n 0) [] next 0

-- ## claim
-- 23 up to the last nanosecond before the deadline; at the deadline itself a grant, with a count of 2
pub lease_in_flight : (claim (held 1) 0 5 109).outcome ≡ refused InFlight
unfolding claim
lease_in_flight = refl

pub lease-expired-at_the_deadline : (claim (held 1) 0 5 110).outcome ≡ done (grant_of 5 1 2)
unfolding claim
lease-expired-at_the_deadline = refl

-- 23 before 25
pub lease_in_flight_before_exhausted : (claim (held MAX) 0 5 109).outcome ≡ refused InFlight
unfolding claim
lease_in_flight_before_exhausted = refl

-- 25 where the next generation is MAX; the one below is still given
pub lease_exhausted : (claim (held MAX) 0 5 110).outcome ≡ refused Exhausted
unfolding claim
lease_exhausted = refl

pub lease-last-generation : (claim (held (MAX - 1)) 0 5 110).outcome ≡ done (grant_of 5 (MAX - 1) 2)
unfolding claim
lease-last-generation = refl

-- 25 before 27
pub lease_exhausted_before-full : (claim (crowd 64 MAX) 0 64 110).outcome ≡ refused Exhausted
unfolding claim
lease_exhausted_before-full = refl

-- 27 where there are 64 leases and the offset has none, expired ones or not; not with 63, and not where it has one
pub lease-full : (claim (crowd 64 1) 0 64 110).outcome ≡ refused Full
unfolding claim
lease-full = refl

pub lease-room_for_the_64th : (claim (crowd 63 1) 0 63 110).outcome ≡ done (grant_of 63 1 1)
unfolding claim
lease-room_for_the_64th = refl

pub lease-of_its_own-is-room : (claim (crowd 64 1) 0 63 110).outcome ≡ done (grant_of 63 1 2)
unfolding claim
lease-of_its_own-is-room = refl

-- ## ack
-- 24 for another generation and for an offset without a lease; a lease that is expired can be acked
pub lease-ack-fenced : (ack (held 1) 5 1).outcome ≡ refused Fenced
unfolding ack
lease-ack-fenced = refl

pub lease-ack-of_none : (ack (held 1) 6 0).outcome ≡ refused Fenced
unfolding ack
lease-ack-of_none = refl

pub lease-acked : (ack (held 1) 5 0).state ≡ table_of [] [] 1 0
unfolding ack
lease-acked = refl

-- ## extend
-- 24 before 28
pub lease-extend-fenced : (extend (held 1) 5 1 125).outcome ≡ refused Fenced
unfolding extend
lease-extend-fenced = refl

-- 28 at the cap, which is 25 after the start of the attempt; one nanosecond before it the lease is extended up to it
pub lease_cap_reached : (extend (held 1) 5 0 125).outcome ≡ refused CapReached
unfolding extend
lease_cap_reached = refl

pub lease-extended-to_the_cap : (extend (held 1) 5 0 124).outcome ≡ done 125
unfolding extend
lease-extended-to_the_cap = refl

-- ## nack
-- 24 before 25
pub lease-nack-fenced : (nack (held MAX) 5 1 101 7).outcome ≡ refused Fenced
unfolding nack
lease-nack-fenced = refl

-- 25 where the next generation is MAX; the one below is still taken, and no cap bounds the deadline
pub lease-nack_exhausted : (nack (held MAX) 5 0 101 1000).outcome ≡ refused Exhausted
unfolding nack
lease-nack_exhausted = refl

-- the table takes the delay that it is handed, above its hard cap too
pub lease-nacked : (nack (held (MAX - 1)) 5 0 101 1000).outcome ≡ done 1101
unfolding nack
lease-nacked = refl

-- ## carried counts
-- 19 where more than 128 would be carried; a zero and an offset that is there already add none
pub carried-over_128 : (resume_attempts (table_of [] (counts_from 100 0) 1 0) (counts_from 29 100)).outcome ≡ refused TooManyPairs
unfolding resume_attempts
carried-over_128 = refl

pub carried_up_to_128 : (resume_attempts (table_of [] (counts_from 100 0) 1 0) (counts_from 28 100)).state ≡ table_of [] (counts_from 128 0) 1 0
unfolding resume_attempts
carried_up_to_128 = refl

pub carried-counted-by-offset : (resume_attempts (table_of [] (counts_from 128 0) 1 0) (entry 7 1 ∷ entry 200 0 ∷ [])).outcome ≡ done tt
unfolding resume_attempts
carried-counted-by-offset = refl

-- ## lists
-- 20 where the lent list has a place less than the answer; one of the very length is filled
pub expired_too_short : (listed (expired (crowd 3 1) 110) (9 ∷ 9 ∷ [])).outcome ≡ refused OutTooShort
expired_too_short = refl

pub expired-fits : (listed (expired (crowd 3 1) 110) (9 ∷ 9 ∷ 9 ∷ [])).outcome ≡ done 3
expired-fits = refl

-- ## the worker: a claim by worker 3 stores who claimed, and is in all else that by worker 0
pub lease-of-worker_3 : lease_of (claim (held 1) 3 5 110).state 5 ≡ some (lease 1 110 120 2 3)
unfolding claim
lease-of-worker_3 = refl

pub lease-without_its_worker : without_workers (claim (held 1) 3 5 110).state ≡ (claim (held 1) 0 5 110).state
unfolding claim
lease-without_its_worker = refl
