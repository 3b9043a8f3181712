-- Cases of a whole plan. Committed is 5, the ranges are [8, 10) and [12, 13); worker 0 may look, worker 1 may all but that.
-- SPEC.md, "Plan".
use Rattle.std.specs.Prelude.{ℕ, ◌≡◌, refl, List, [], ◌∷◌, map}
use Rattle.types.specs.Limits.{MAX}
use Rattle.types.specs.Refusal.{Result, refused, done, UnequalLengths, Falling, UnknownWorker, NotPermitted}
use Rattle.cursor.specs.Ranges.{range}
use Rattle.cursor.specs.Cursor.{cursor}
use Rattle.consumer.specs.State.{State}
use Rattle.consumer.specs.Questions.{Plan, look, bytes_after}
use Rattle.cases.specs.States.{table_of}
use Rattle.cases.specs.Consumer.{consumer_of}

abbrev shop : State
shop = consumer_of (64 ∷ 191 ∷ []) (cursor 5 (range 8 10 ∷ range 12 13 ∷ [])) (table_of [] [] 10 0) 4096

-- worker 0's plan, into a list of as many places
abbrev planned : List ℕ → ℕ → Result (List ℕ)
planned os room = look shop 0 (Plan os room)

-- ## the looks, and behind them the answers
-- an empty list costs none, and comparing with committed is none
pub plan-of-nothing : planned [] 0 ≡ done (0 ∷ [])
plan-of-nothing = refl

pub plan-below-committed : planned (0 ∷ 4 ∷ []) 2 ≡ done (0 ∷ 1 ∷ 1 ∷ [])
plan-below-committed = refl

-- before a range, at its start and at its last offset: one look each
pub plan-around-a-range : map (λ (o : ℕ). planned (o ∷ []) 1) (5 ∷ 7 ∷ 8 ∷ 9 ∷ []) ≡ done (1 ∷ 0 ∷ []) ∷ done (1 ∷ 0 ∷ []) ∷ done (1 ∷ 1 ∷ []) ∷ done (1 ∷ 1 ∷ []) ∷ []
plan-around-a-range = refl

-- at the end itself the walk steps on, and the comparison with the next range is a look of its own
pub plan-at_an_end : planned (10 ∷ []) 1 ≡ done (2 ∷ 0 ∷ [])
plan-at_an_end = refl

-- an equal offset is compared again
pub plan-twice : planned (9 ∷ 9 ∷ []) 2 ≡ done (2 ∷ 1 ∷ 1 ∷ [])
plan-twice = refl

-- with no range left there are no more looks; MAX is open
pub plan-past_the_ranges : planned (13 ∷ 14 ∷ MAX ∷ []) 3 ≡ done (2 ∷ 0 ∷ 0 ∷ 0 ∷ [])
plan-past_the_ranges = refl

pub plan-over-all : planned (4 ∷ 7 ∷ 8 ∷ 9 ∷ 10 ∷ 11 ∷ 12 ∷ 13 ∷ []) 8 ≡ done (8 ∷ 1 ∷ 0 ∷ 1 ∷ 1 ∷ 0 ∷ 0 ∷ 1 ∷ 0 ∷ [])
plan-over-all = refl

-- ## refused: 38, 39, 36, 37
pub plan-by-worker_8 : look shop 8 (Plan (9 ∷ 8 ∷ []) 3) ≡ refused UnknownWorker
plan-by-worker_8 = refl

pub plan-without-a-right : look shop 1 (Plan (9 ∷ 8 ∷ []) 3) ≡ refused NotPermitted
plan-without-a-right = refl

-- too short, too long, and before a fall
pub plan-of_unequal_lengths : map (planned (9 ∷ 8 ∷ [])) (0 ∷ 1 ∷ 3 ∷ []) ≡ refused UnequalLengths ∷ refused UnequalLengths ∷ refused UnequalLengths ∷ []
plan-of_unequal_lengths = refl

-- the place of the second member of the first falling pair, from 0
pub plan_that_falls : planned (9 ∷ 8 ∷ []) 2 ≡ refused (Falling 1)
plan_that_falls = refl

pub plan_that_falls-later : planned (1 ∷ 1 ∷ 2 ∷ 1 ∷ 0 ∷ []) 5 ≡ refused (Falling 3)
plan_that_falls-later = refl

-- ## the lent byte list
pub plan-into-bytes : bytes_after (planned (4 ∷ 5 ∷ []) 2) (7 ∷ 7 ∷ []) ≡ 1 ∷ 0 ∷ []
plan-into-bytes = refl

pub plan-refused-keeps-bytes : bytes_after (planned (9 ∷ 8 ∷ []) 2) (7 ∷ 7 ∷ []) ≡ 7 ∷ 7 ∷ []
plan-refused-keeps-bytes = refl
