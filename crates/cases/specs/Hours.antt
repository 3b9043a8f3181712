-- Cases of opening hours: start 33 and 34; claim 35, after 22 and before 23; the deadline of a nack; the next opening at the
-- boundaries of a half hour, of a day and of the week, near MAX, and where clock and shift together pass 2^64.
-- SPEC.md, "Hours".
use Rattle.std.specs.Prelude.{ℕ, ◌+◌, ◌*◌, ◌-◌, ◌^◌, ◌≡◌, refl, true, false, [], ◌∷◌}
use Rattle.std.proofs.Math.Option.{some}
use Rattle.types.specs.Limits.{MAX}
use Rattle.types.specs.Refusal.{refused, done, ZeroThreshold, BadHours, NeverOpen, BadArea, LastOffset, Settled, Closed, InFlight, NotPermitted}
use Rattle.delivery.specs.Policy.{policy, Deliver}
use Rattle.hours.specs.Hours.{Week, week_of, HALF_HOUR, WEEK, open_half, open_at, firstOpen, opening}
use Rattle.consumer.specs.State.{Configuration, State, state_of, bad_area}
use Rattle.consumer.specs.Calls.{claim, nack, progress}
use Rattle.starts.specs.Restart.{start, fresh}
use Rattle.cases.specs.States.{lease_config, rights}
use Rattle.cases.specs.Consumer.{with, held, hands_out}

-- Monday's first half hour alone; Tuesday's; Friday's; Sunday's last
abbrev monday : ℕ → Week
monday shift = week_of (1 ∷ 0 ∷ 0 ∷ 0 ∷ 0 ∷ 0 ∷ 0 ∷ []) shift

abbrev tuesday : Week
tuesday = week_of (0 ∷ 1 ∷ 0 ∷ 0 ∷ 0 ∷ 0 ∷ 0 ∷ []) 0

abbrev friday : Week
friday = week_of (0 ∷ 0 ∷ 0 ∷ 0 ∷ 1 ∷ 0 ∷ 0 ∷ []) 0

abbrev sunday : ℕ → Week
sunday shift = week_of (0 ∷ 0 ∷ 0 ∷ 0 ∷ 0 ∷ 0 ∷ 2 ^ 47 ∷ []) shift

-- Thursday's last
abbrev thursday : ℕ → Week
thursday shift = week_of (0 ∷ 0 ∷ 0 ∷ 2 ^ 47 ∷ 0 ∷ 0 ∷ 0 ∷ []) shift

-- ## the next opening
-- a half hour has its first nanosecond and not its end
pub open_at_the_first_nanosecond : opening (monday 0) 0 ≡ 0
unfolding opening firstOpen open_half
open_at_the_first_nanosecond = refl

pub open_at_the_last_nanosecond : open_at (monday 0) (HALF_HOUR - 1) ≡ true
unfolding open_half
open_at_the_last_nanosecond = refl

pub closed-at_its_end : open_at (monday 0) HALF_HOUR ≡ false
unfolding open_half
closed-at_its_end = refl

-- the same weekday a week on is searched too, in its earlier half hours
pub opening-a-week-on : opening (monday 0) HALF_HOUR ≡ WEEK
unfolding opening firstOpen open_half
opening-a-week-on = refl

-- the rest of the day, and the days after it
pub opening-on-sunday : opening (sunday 0) 7 ≡ 335 * HALF_HOUR
unfolding opening firstOpen open_half
opening-on-sunday = refl

pub opening-over_the_weeks-end : opening tuesday (2 * WEEK - 1) ≡ 2 * WEEK + 48 * HALF_HOUR
unfolding opening firstOpen open_half
opening-over_the_weeks-end = refl

-- clock 0 in the last nanosecond of a week, and in the first of Monday's second half hour
pub opening-under_the_largest-shift : opening (monday (WEEK - 1)) 0 ≡ 1
unfolding opening firstOpen open_half
opening-under_the_largest-shift = refl

pub opening-under-half_an_hour : opening (monday HALF_HOUR) 0 ≡ WEEK - HALF_HOUR
unfolding opening firstOpen open_half
opening-under-half_an_hour = refl

-- near MAX, which is on a Thursday after half past eleven in the evening: an opening beyond it is MAX, open or not
pub opening-beyond_max : opening friday (MAX - 1) ≡ MAX
unfolding opening firstOpen open_half
opening-beyond_max = refl

pub max_is-closed : open_at friday MAX ≡ false
unfolding open_half
max_is-closed = refl

-- clock and shift together pass 2^64: the true sum counts, which lies on a Thursday, and not one that begins at 0 again, on a Sunday
pub sum-beyond_max : open_at (thursday (WEEK - 1)) MAX ≡ true
unfolding open_half
sum-beyond_max = refl

pub sum-begins-at_0_nowhere : open_at (sunday (WEEK - 1)) MAX ≡ false
unfolding open_half
sum-begins-at_0_nowhere = refl

pub last-opening : opening tuesday (MAX - WEEK) ≡ 30500 * WEEK + 48 * HALF_HOUR
unfolding opening firstOpen open_half
last-opening = refl

-- ## start
-- a flush threshold, and hours
abbrev configuration : ℕ → Week → Configuration
configuration threshold w =
    record { settings = record { policy = policy 2 false [] threshold; rights = rights; hours = some w }; lease = lease_config }

abbrev never : ℕ → Week
never shift = week_of (0 ∷ 0 ∷ 0 ∷ 0 ∷ 0 ∷ 0 ∷ 0 ∷ []) shift

-- 3 before 33, 33 for a shift of a week before 34, and both before 4
pub start-threshold-before-hours : start (configuration 0 (never WEEK)) 0 ≡ refused ZeroThreshold
unfolding start
start-threshold-before-hours = refl

pub start-bad-shift : start (configuration 1 (never WEEK)) 0 ≡ refused BadHours
unfolding start
start-bad-shift = refl

-- 33 for bit 48 of any day; bit 47 and the largest shift are accepted
pub start-bad-bits : start (configuration 1 (week_of (1 ∷ 0 ∷ 0 ∷ 0 ∷ 0 ∷ 0 ∷ 2 ^ 48 ∷ []) 0)) 9216 ≡ refused BadHours
unfolding start
start-bad-bits = refl

pub start-bad-bits-on-monday : start (configuration 1 (week_of (281474976710657 ∷ 0 ∷ 0 ∷ 0 ∷ 0 ∷ 0 ∷ 0 ∷ []) 0)) 9216 ≡ refused BadHours
unfolding start
start-bad-bits-on-monday = refl

pub start-with-hours : start (configuration 1 (week_of (0 ∷ 0 ∷ 0 ∷ 0 ∷ 0 ∷ 0 ∷ 2 ^ 47 ∷ []) (WEEK - 1))) 9216
    ≡ done (fresh (configuration 1 (week_of (0 ∷ 0 ∷ 0 ∷ 0 ∷ 0 ∷ 0 ∷ 2 ^ 47 ∷ []) (WEEK - 1))) 9216)
unfolding start bad_area firstOpen open_half
start-with-hours = refl

-- 34 before 4
pub start-never_open : start (configuration 1 (never (WEEK - 1))) 0 ≡ refused NeverOpen
unfolding start firstOpen open_half
start-never_open = refl

pub start-hours-before-area : start (configuration 1 (monday 0)) 0 ≡ refused BadArea
unfolding start bad_area firstOpen open_half
start-hours-before-area = refl

-- ## claim
-- a state with these hours: offsets below 5 and 8 are settled, offset 5 is held from 100 to 110
abbrev kitchen : Week → ℕ → State
kitchen w next =
    let s = with (held next 0) in
    state_of s.cursor s.table s.ceiling s.next s.size (record { policy = s.settings.policy; rights = s.settings.rights; hours = some w })

-- 39, 21 and 22 before 35; worker 2 may not claim
pub claim_not_permitted-before-closed : (claim (kitchen tuesday 1) 2 5 100).outcome ≡ refused NotPermitted
unfolding claim
claim_not_permitted-before-closed = refl

pub claim-last-before-closed : (claim (kitchen tuesday 1) 0 MAX 100).outcome ≡ refused LastOffset
unfolding claim
claim-last-before-closed = refl

pub claim-settled-before-closed : (claim (kitchen tuesday 1) 0 4 100).outcome ≡ refused Settled
unfolding claim
claim-settled-before-closed = refl

-- 35 before 23, and before 25
pub claim-closed-before_in_flight : (claim (kitchen tuesday 1) 0 5 109).outcome ≡ refused (Closed (48 * HALF_HOUR))
unfolding claim opening firstOpen open_half
claim-closed-before_in_flight = refl

pub claim-closed-before_exhausted : (claim (kitchen tuesday MAX) 0 6 100).outcome ≡ refused (Closed (48 * HALF_HOUR))
unfolding claim opening firstOpen open_half
claim-closed-before_exhausted = refl

-- at an open clock the hours say nothing
pub claim_in_hours : (claim (kitchen (monday 0) 1) 0 6 100).outcome ≡ hands_out 6 1 1 Deliver
unfolding claim opening firstOpen open_half
claim_in_hours = refl

pub claim_in_hours_in_flight : (claim (kitchen (monday 0) 1) 0 5 109).outcome ≡ refused InFlight
unfolding claim open_half
claim_in_hours_in_flight = refl

-- a claim at MAX itself may be told MAX
pub claim-closed-at_max : (claim (kitchen friday 1) 0 6 MAX).outcome ≡ refused (Closed MAX)
unfolding claim opening firstOpen open_half
claim-closed-at_max = refl

-- ## nack
-- a deadline within the hours stays, to the last nanosecond; at the end of the half hour it moves
pub nack_in_hours : (nack (kitchen (monday 0) 1) 0 5 0 (HALF_HOUR - 6) (some 5)).outcome ≡ done (HALF_HOUR - 1)
unfolding nack opening open_half
nack_in_hours = refl

pub nack-moved : (nack (kitchen (monday 0) 1) 0 5 0 (HALF_HOUR - 6) (some 6)).outcome ≡ done WEEK
unfolding nack opening firstOpen open_half
nack-moved = refl

-- the delay is capped, and the deadline moved then
pub nack-capped_and_in_hours : (nack (kitchen (monday 0) 1) 0 5 0 100 (some WEEK)).outcome ≡ done 125
unfolding nack opening open_half
nack-capped_and_in_hours = refl

pub nack-moved-past_the_cap : (nack (kitchen (monday 0) 1) 0 5 0 (HALF_HOUR - 10) (some MAX)).outcome ≡ done WEEK
unfolding nack opening firstOpen open_half
nack-moved-past_the_cap = refl

-- an opening beyond MAX
pub nack-moved-to_max : (nack (kitchen friday 1) 0 5 0 (MAX - 3) (some 2)).outcome ≡ done MAX
unfolding nack opening firstOpen open_half
nack-moved-to_max = refl

-- ## what doesn't look at the hours
pub progress-outside-hours : (progress (kitchen tuesday 1) 0 5 0 105).outcome ≡ done 115
unfolding progress
progress-outside-hours = refl
