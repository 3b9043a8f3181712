-- Cases of what is shown of an offset. Worker 0 may look, worker 1 may look and is a supervisor, worker 2 has the supervisor's mark
-- alone.
-- SPEC.md, "View".
use Rattle.std.specs.Prelude.{ℕ, ◌≡◌, refl, List, [], ◌∷◌, map}
use Rattle.std.proofs.Math.Option.{none, some}
use Rattle.types.specs.Limits.{MAX}
use Rattle.types.specs.Keyed.{entry}
use Rattle.types.specs.Refusal.{refused, done, UnknownWorker, NotPermitted}
use Rattle.cursor.specs.Cursor.{cursor}
use Rattle.lease.specs.State.{Table}
use Rattle.lease.specs.Operations.{lease}
use Rattle.consumer.specs.State.{State}
use Rattle.consumer.specs.Questions.{ViewOf, look}
use Rattle.consumer.specs.Standing.{Standing, Settled, Held, Waiting, View, bare, view_of, Alike}
use Rattle.cases.specs.States.{table_of}
use Rattle.cases.specs.Consumer.{consumer_of, five}

abbrev pub lookers : List ℕ
lookers = 64 ∷ 192 ∷ 128 ∷ []

-- worker 3 holds offset 5 from 100 to 110, handed out for the second time, under generation 9; offset 7 has a carried count of 4
abbrev pub handed : Table
handed = table_of (entry 5 (lease 9 100 110 2 3) ∷ []) (entry 7 4 ∷ []) 10 0

abbrev pub shop : State
shop = consumer_of lookers five handed 4096

abbrev whole : Standing → View
whole x = record { standing = x; attempts = some 2; generation = some 9; deadline = some 110; holder = some 3 }

abbrev counted : ℕ → View
counted n = record { standing = Waiting; attempts = some n; generation = none; deadline = none; holder = none }

-- ## held up to the last nanosecond before the deadline, and waiting from the deadline on
pub held-to-a-worker : view_of shop 0 5 109 ≡ bare Held
held-to-a-worker = refl

pub run-out-to-a-worker : view_of shop 0 5 110 ≡ bare Waiting
run-out-to-a-worker = refl

-- a supervisor sees the lease either way
pub held-to-a_supervisor : view_of shop 1 5 109 ≡ whole Held
held-to-a_supervisor = refl

pub run-out-to-a_supervisor : view_of shop 1 5 110 ≡ whole Waiting
run-out-to-a_supervisor = refl

-- ## without a lease: the carried count, or 0; the last offset too
pub carried-to-both : map (λ (w : ℕ). view_of shop w 7 0) (0 ∷ 1 ∷ []) ≡ bare Waiting ∷ counted 4 ∷ []
carried-to-both = refl

pub untouched-to-both : map (λ (w : ℕ). view_of shop w 6 0) (0 ∷ 1 ∷ []) ≡ bare Waiting ∷ counted 0 ∷ []
untouched-to-both = refl

pub last-offset-to-both : map (λ (w : ℕ). view_of shop w MAX 0) (0 ∷ 1 ∷ []) ≡ bare Waiting ∷ counted 0 ∷ []
last-offset-to-both = refl

-- ## settled: below committed and in a range, and not at the range's end; on a state that no call makes, where a lease and a count are left
pub settled-to-both : map (λ (w : ℕ). view_of shop w 4 0) (0 ∷ 1 ∷ []) ≡ bare Settled ∷ bare Settled ∷ []
settled-to-both = refl

pub settled_in_a-range : map (λ (o : ℕ). view_of shop 1 o 0) (8 ∷ 9 ∷ []) ≡ bare Settled ∷ counted 0 ∷ []
settled_in_a-range = refl

pub settled-before-held : map (λ (o : ℕ). view_of (consumer_of lookers (cursor 10 []) handed 4096) 1 o 109) (5 ∷ 7 ∷ []) ≡ bare Settled ∷ bare Settled ∷ []
settled-before-held = refl

-- ## 38 and 39: the mark doesn't stand in for the right to look
pub view-by-worker_8 : look shop 8 (ViewOf 5 109) ≡ refused UnknownWorker
view-by-worker_8 = refl

pub view-by_the_mark-alone : look shop 2 (ViewOf 5 109) ≡ refused NotPermitted
view-by_the_mark-alone = refl

pub view-without-a-right : look shop 3 (ViewOf 4 109) ≡ refused NotPermitted
view-without-a-right = refl

-- ## in numbers
pub views_in_numbers : map (λ (w : ℕ). look shop w (ViewOf 5 109)) (0 ∷ 1 ∷ []) ≡ done (1 ∷ []) ∷ done (1 ∷ 2 ∷ 9 ∷ 110 ∷ 3 ∷ []) ∷ []
views_in_numbers = refl

pub counts_in_numbers : map (λ (o : ℕ). look shop 1 (ViewOf o 0)) (4 ∷ 7 ∷ []) ≡ done (0 ∷ []) ∷ done (2 ∷ 4 ∷ []) ∷ []
counts_in_numbers = refl

-- ## another consumer that shows a worker the same: it has the same rights, the same offsets settled, and offset 5 held at 109
-- worker 6 holds offset 5 from 90 to 120, handed out for the sixth time, under generation 77; other counts are carried
abbrev pub another : State
another = consumer_of lookers five (table_of (entry 5 (lease 77 90 120 6 6) ∷ []) (entry 6 3 ∷ entry 7 1 ∷ []) 80 1) 4200

-- the premise of `same_view`
abbrev pub AlikeAt109 : Type 0
AlikeAt109 = Alike 109 shop another

-- what differs, as a supervisor is shown: count, generation, deadline and holder; a worker is shown the same
pub differs-to-a_supervisor : look another 1 (ViewOf 5 109) ≡ done (1 ∷ 6 ∷ 77 ∷ 120 ∷ 6 ∷ [])
differs-to-a_supervisor = refl

pub same-to-a-worker : look another 0 (ViewOf 5 109) ≡ done (1 ∷ [])
same-to-a-worker = refl
