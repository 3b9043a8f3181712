-- Cases of the consumer's refusals, without hours: claim 21, 22, 23, 25, 26, 27; Ack and Term 24, 29; Nack 24, 25, 26; Progress 24, 28; the waiting list
-- 20, and its order; and commits over leases and counts.
-- SPEC.md, "Calls".
use Rattle.std.specs.Prelude.{ℕ, ◌-◌, ◌≡◌, refl, true, false, List, [], ◌∷◌}
use Rattle.std.proofs.Math.Option.{none, some}
use Rattle.types.specs.Limits.{MAX}
use Rattle.types.specs.Refusal.{Result, refused, done, OutTooShort, LastOffset, Settled, InFlight, Fenced}
use Rattle.types.specs.Refusal.{Exhausted, CheckpointDue, Full, CapReached, Shed}
use Rattle.types.specs.Table.{answer}
use Rattle.cursor.specs.Cursor.{Cursor, cursor, ackBounded, commit_up_to}
use Rattle.cursor.specs.Ranges.{range}
use Rattle.delivery.specs.Policy.{policy, Destination, Deliver}
use Rattle.lease.specs.State.{Table}
use Rattle.lease.specs.Operations.{extend}
use Rattle.consumer.specs.State.{State, state_of, next_group_at}
use Rattle.consumer.specs.Calls.{HandOut, claim, ack, nack, progress, commit}
use Rattle.consumer.specs.Questions.{waiting}
use Rattle.cases.specs.States.{counts_from, leases_from, lease_until, ranges_from, rights, table_of}

-- limit 2, threshold 3, backoff 7, one group written, the workers having these rights
abbrev pub consumer_of : List ℕ → Cursor → Table → ℕ → State
consumer_of given c t ceiling = state_of c t ceiling (next_group_at 2 2) 9216 (record { policy = policy 2 false (7 ∷ []) 3; rights = given; hours = none })

-- worker 0, who makes the calls, may do everything
abbrev pub consumer : Cursor → Table → ℕ → State
consumer c t ceiling = consumer_of rights c t ceiling

-- offsets 0 to 4 and offset 8 are settled
abbrev pub five : Cursor
five = cursor 5 (range 8 9 ∷ [])

-- a table under that cursor, with ceiling 4096
abbrev pub with : Table → State
with t = consumer five t 4096

-- offset 5 is held from 100 to 110, under generation 0; the next generation and the redelivery counter are as given
abbrev pub held : ℕ → ℕ → Table
held next redeliveries = table_of (leases_from 1 5) [] next redeliveries

-- leases of offsets from 10 on, counts of offsets from 100 on
abbrev pub crowd : ℕ → ℕ → State
crowd leases counts = with (table_of (leases_from leases 10) (counts_from counts 100) 1 0)

abbrev pub hands_out : ℕ → ℕ → ℕ → Destination → Result HandOut
hands_out o g n d = done (record { offset = o; generation = g; deliveries = n; destination = d })

-- ## claim
-- 21 for MAX, and before 26; the offset below can be claimed
pub claim-of_the_last-offset : (claim (consumer five (held 1 0) 1) 0 MAX 100).outcome ≡ refused LastOffset
unfolding claim
claim-of_the_last-offset = refl

pub claim-below_the_last-offset : (claim (with (held 1 0)) 0 (MAX - 1) 100).outcome ≡ hands_out (MAX - 1) 1 1 Deliver
unfolding claim
claim-below_the_last-offset = refl

-- 22 below committed and in a range; not at committed, and not at the end of the range
pub claim-below-committed : (claim (with (table_of [] [] 1 0)) 0 4 100).outcome ≡ refused Settled
unfolding claim
claim-below-committed = refl

pub claim_in_a-range : (claim (with (table_of [] [] 1 0)) 0 8 100).outcome ≡ refused Settled
unfolding claim
claim_in_a-range = refl

pub claim-at-committed : (claim (with (table_of [] [] 1 0)) 0 5 100).outcome ≡ hands_out 5 1 1 Deliver
unfolding claim
claim-at-committed = refl

pub claim-at-a-range-end : (claim (with (table_of [] [] 1 0)) 0 9 100).outcome ≡ hands_out 9 1 1 Deliver
unfolding claim
claim-at-a-range-end = refl

-- 22 before 23, on a state that no call makes: the settled offset 4 is held
pub claim-settled-before_in_flight : (claim (with (table_of (leases_from 1 4) [] 1 0)) 0 4 109).outcome ≡ refused Settled
unfolding claim
claim-settled-before_in_flight = refl

-- 22 before 26
pub claim-settled-before-due : (claim (consumer five (held 1 0) 1) 0 4 100).outcome ≡ refused Settled
unfolding claim
claim-settled-before-due = refl

-- 23 up to the last nanosecond before the deadline; at the deadline itself the offset is handed out again
pub claim_in_flight : (claim (with (held 1 0)) 0 5 109).outcome ≡ refused InFlight
unfolding claim
claim_in_flight = refl

pub claim-at_the_deadline : (claim (with (held 1 0)) 0 5 110).outcome ≡ hands_out 5 1 2 Deliver
unfolding claim
claim-at_the_deadline = refl

-- 23 before 25
pub claim_in_flight_before_exhausted : (claim (consumer five (held MAX 0) MAX) 0 5 109).outcome ≡ refused InFlight
unfolding claim
claim_in_flight_before_exhausted = refl

-- 25 before 26: the next generation is MAX, and so the ceiling is reached too
pub claim_exhausted_before-due : (claim (consumer five (held MAX 0) MAX) 0 5 110).outcome ≡ refused Exhausted
unfolding claim
claim_exhausted_before-due = refl

-- 26 where the next generation is the ceiling; not for the one below
pub claim-at_the_ceiling : (claim (with (held 4096 0)) 0 5 110).outcome ≡ refused CheckpointDue
unfolding claim
claim-at_the_ceiling = refl

pub claim-below_the_ceiling : (claim (with (held 4095 0)) 0 5 110).outcome ≡ hands_out 5 4095 2 Deliver
unfolding claim
claim-below_the_ceiling = refl

-- 26 where as many redeliveries as the threshold were granted, for a first hand-out too; not with one less
pub claim-at_the_threshold : (claim (with (held 1 3)) 0 6 110).outcome ≡ refused CheckpointDue
unfolding claim
claim-at_the_threshold = refl

pub claim-below_the_threshold : (claim (with (held 1 2)) 0 5 110).outcome ≡ hands_out 5 1 2 Deliver
unfolding claim
claim-below_the_threshold = refl

-- that grant raises the counter to the threshold, and a first hand-out leaves it
pub redelivery_feeds_the_counter : (claim (with (held 1 2)) 0 5 110).state.table.redeliveries ≡ 3
unfolding claim
redelivery_feeds_the_counter = refl

pub first_hand_out_feeds_none : (claim (with (held 1 2)) 0 6 110).state.table.redeliveries ≡ 2
unfolding claim
first_hand_out_feeds_none = refl

-- 26 before 27, for the ceiling and for the threshold
pub claim-ceiling-before-full : (claim (consumer five (table_of (leases_from 64 10) [] 1 0) 1) 0 5 110).outcome ≡ refused CheckpointDue
unfolding claim
claim-ceiling-before-full = refl

pub claim-threshold-before-full : (claim (with (table_of (leases_from 64 10) [] 1 3)) 0 5 110).outcome ≡ refused CheckpointDue
unfolding claim
claim-threshold-before-full = refl

-- 27 where there are 64 leases, even for an offset that has a count; not with 63, and not for an offset that has a lease
pub claim-full-of-leases : (claim (crowd 64 1) 0 100 110).outcome ≡ refused Full
unfolding claim
claim-full-of-leases = refl

pub claim-of_the_64th : (claim (crowd 63 1) 0 100 110).outcome ≡ hands_out 100 1 2 Deliver
unfolding claim
claim-of_the_64th = refl

pub claim-of-a-leased-one : (claim (crowd 64 64) 0 10 110).outcome ≡ hands_out 10 1 2 Deliver
unfolding claim
claim-of-a-leased-one = refl

-- 27 where leases and counts together are 128 and the offset has neither; not with 127, and not for an offset that has a count
pub claim-full-together : (claim (crowd 28 100) 0 5 110).outcome ≡ refused Full
unfolding claim
claim-full-together = refl

pub claim-of_the_128th : (claim (crowd 28 99) 0 5 110).outcome ≡ hands_out 5 1 1 Deliver
unfolding claim
claim-of_the_128th = refl

pub claim-of-a-carried-one : (claim (crowd 28 100) 0 100 110).outcome ≡ hands_out 100 1 2 Deliver
unfolding claim
claim-of-a-carried-one = refl

-- ## Ack and Term
-- a cursor with 128 ranges, of offsets 7, 9 and so on, over 0 to 4
abbrev pub fragmented : ℕ → State
fragmented o = consumer (cursor 5 (ranges_from 128 7)) (table_of (leases_from 1 o) [] 1 0) 4096

-- 24 for another generation, and before 29
pub ack-fenced-before-shed : (ack (fragmented 1000) 0 1000 1).outcome ≡ refused Fenced
unfolding ack
ack-fenced-before-shed = refl

-- 29 at 128 ranges, unless the offset is at committed or touches a range
pub ack-shed : (ack (fragmented 1000) 0 1000 0).outcome ≡ refused Shed
unfolding ack ackBounded
ack-shed = refl

pub ack-at-committed : (ack (fragmented 5) 0 5 0).outcome ≡ done tt
unfolding ack ackBounded
ack-at-committed = refl

pub ack-beside-a-range : (ack (fragmented 262) 0 262 0).outcome ≡ done tt
unfolding ack ackBounded
ack-beside-a-range = refl

-- neither 25 nor 26 is met by an ack
pub ack-at_the_ceiling : (ack (consumer five (held MAX 3) MAX) 0 5 0).outcome ≡ done tt
unfolding ack ackBounded
ack-at_the_ceiling = refl

-- ## Nack
-- 24 before 25
pub nack-fenced-before_exhausted : (nack (consumer five (held MAX 0) MAX) 0 5 1 101 none).outcome ≡ refused Fenced
unfolding nack
nack-fenced-before_exhausted = refl

-- 25 before 26
pub nack_exhausted_before-due : (nack (consumer five (held MAX 0) MAX) 0 5 0 101 none).outcome ≡ refused Exhausted
unfolding nack
nack_exhausted_before-due = refl

-- 26 at the ceiling, not below it
pub nack-at_the_ceiling : (nack (with (held 4096 0)) 0 5 0 101 none).outcome ≡ refused CheckpointDue
unfolding nack
nack-at_the_ceiling = refl

pub nack-below_the_ceiling : (nack (with (held 4095 0)) 0 5 0 101 none).outcome ≡ done 108
unfolding nack
nack-below_the_ceiling = refl

-- the threshold refuses no nack
pub nack-at_the_threshold : (nack (with (held 1 3)) 0 5 0 101 none).outcome ≡ done 108
unfolding nack
nack-at_the_threshold = refl

-- the delay below the hard cap, which is 25, just it, above it, and the largest
pub nack-below_the_cap : (nack (with (held 1 0)) 0 5 0 101 (some 24)).outcome ≡ done 125
unfolding nack
nack-below_the_cap = refl

pub nack-at_the_cap : (nack (with (held 1 0)) 0 5 0 101 (some 25)).outcome ≡ done 126
unfolding nack
nack-at_the_cap = refl

pub nack-above_the_cap : (nack (with (held 1 0)) 0 5 0 101 (some 26)).outcome ≡ done 126
unfolding nack
nack-above_the_cap = refl

pub nack_for_years : (nack (with (held 1 0)) 0 5 0 101 (some MAX)).outcome ≡ done 126
unfolding nack
nack_for_years = refl

-- near the largest clock the deadline stays at MAX, from a delay that the cap bounded too
pub nack_up_to_the_last-clock : (nack (with (held 1 0)) 0 5 0 (MAX - 25) (some MAX)).outcome ≡ done MAX
unfolding nack
nack_up_to_the_last-clock = refl

pub nack-past_the_last-clock : (nack (with (held 1 0)) 0 5 0 (MAX - 24) (some MAX)).outcome ≡ done MAX
unfolding nack
nack-past_the_last-clock = refl

pub nack-before_the_last-clock : (nack (with (held 1 0)) 0 5 0 (MAX - 26) (some MAX)).outcome ≡ done (MAX - 1)
unfolding nack
nack-before_the_last-clock = refl

-- ## Progress
-- 24 before 28
pub progress-fenced-before_cap : (progress (with (held 1 0)) 0 5 1 125).outcome ≡ refused Fenced
unfolding progress extend
progress-fenced-before_cap = refl

-- 28 at the cap; one nanosecond before it the lease is extended up to it
pub progress-at_the_cap : (progress (with (held 1 0)) 0 5 0 125).outcome ≡ refused CapReached
unfolding progress extend
progress-at_the_cap = refl

pub progress-to_the_cap : (progress (with (held 1 0)) 0 5 0 124).outcome ≡ done 125
unfolding progress extend
progress-to_the_cap = refl

-- ## Commit
-- offsets 6 and 7 are held, 9 and 10 carried
abbrev busy : State
busy = with (table_of (leases_from 2 6) (counts_from 2 9) 1 0)

-- the lease below the bound goes, that at the bound stays; so do the counts, and next generation, counter and ceiling stay
pub commit-over-a-lease : commit busy 0 7
    ≡ answer (done true) (consumer (cursor 7 (range 8 9 ∷ [])) (table_of (leases_from 1 7) (counts_from 2 9) 1 0) 4096)
unfolding commit commit_up_to
commit-over-a-lease = refl

pub commit-over-a-count : commit busy 0 10 ≡ answer (done true) (consumer (cursor 10 []) (table_of [] (counts_from 1 10) 1 0) 4096)
unfolding commit commit_up_to
commit-over-a-count = refl

pub commit_up_to-a-lease : commit busy 0 6
    ≡ answer (done true) (consumer (cursor 6 (range 8 9 ∷ [])) (table_of (leases_from 2 6) (counts_from 2 9) 1 0) 4096)
unfolding commit commit_up_to
commit_up_to-a-lease = refl

-- then the lease's token is fenced, and its offset settled
pub ack-after_the_commit : (ack (commit busy 0 7).state 0 6 0).outcome ≡ refused Fenced
unfolding commit commit_up_to ack
ack-after_the_commit = refl

pub claim-after_the_commit : (claim (commit busy 0 7).state 0 6 110).outcome ≡ refused Settled
unfolding commit commit_up_to claim
claim-after_the_commit = refl

-- Unchanged at committed and below: nothing changes, on a state that no call makes, where the settled offset 2 is held, neither
pub commit-unchanged : commit (with (held 1 0)) 0 5 ≡ answer (done false) (with (held 1 0))
unfolding commit
commit-unchanged = refl

pub commit-unchanged-over-a-lease : commit (with (table_of (leases_from 1 2) [] 1 0)) 0 4 ≡ answer (done false) (with (table_of (leases_from 1 2) [] 1 0))
unfolding commit
commit-unchanged-over-a-lease = refl

-- ## the waiting list
-- 20 with a place less than there are; the carried offsets wait, and the leases that are expired
pub waiting_too_short : waiting (crowd 1 1) 110 1 ≡ refused OutTooShort
waiting_too_short = refl

pub waiting-fits : waiting (crowd 1 1) 110 2 ≡ done (100 ∷ 10 ∷ [])
waiting-fits = refl

-- the order: the carried offsets first, by offset; then the leases by deadline, equal deadlines by offset, a deadline of 0 too
abbrev pub queue : State
queue = with (table_of (lease_until 11 130 ∷ lease_until 12 120 ∷ lease_until 13 0 ∷ lease_until 14 120 ∷ lease_until 15 131 ∷ []) (counts_from 2 100) 1 0)

pub waiting_longest_first : waiting queue 130 6 ≡ done (100 ∷ 101 ∷ 13 ∷ 12 ∷ 14 ∷ 11 ∷ [])
waiting_longest_first = refl

pub waiting_ties_by-offset : waiting queue 120 5 ≡ done (100 ∷ 101 ∷ 13 ∷ 12 ∷ 14 ∷ [])
waiting_ties_by-offset = refl

-- a lease that still runs needs no place
pub running-waits_not : waiting (crowd 1 1) 109 1 ≡ done (100 ∷ [])
running-waits_not = refl
