-- What the questions tell a worker who is no supervisor, of two consumers that are alike to a worker at a clock (`Alike`): which may be
-- answered differently, and why. And two such consumers, with what each answers.
-- SPEC.md, "Questions".
use Rattle.std.specs.Prelude.{ℕ, ◌≡◌, refl, false, cond, List, [], ◌∷◌, map, eqb, take}
use Rattle.std.proofs.Math.Option.{Option, none, some}
use Rattle.types.specs.Keyed.{entry}
use Rattle.types.specs.Refusal.{Result, refused, done}
use Rattle.cursor.specs.Cursor.{Valid}
use Rattle.cursor.specs.Snapshot.{encode_cursor}
use Rattle.attempt.specs.Snapshot.{encode_attempts}
use Rattle.delivery.specs.Policy.{policy}
use Rattle.lease.specs.Operations.{lease}
use Rattle.lease.specs.Counts.{all_attempt_counts}
use Rattle.consumer.specs.State.{State, state_of, next_group_at}
use Rattle.consumer.specs.Standing.{supervises, Alike}
use Rattle.consumer.specs.Questions.{Question, Waiting, Committed, IsSettled, LeaseOf, CountOf, InFlight, IsDue, BlocksLeft, ViewOf, OpenBetween, NearestOpen, Plan, Export, look}
use Rattle.cases.specs.States.{table_of}
use Rattle.cases.specs.Consumer.{five}
use Rattle.cases.specs.Views.{lookers, shop}

-- ## the questions that may be answered differently
pub data Reason : Type 0 where
  -- it lists what was handed out and is free again, in the order in which to claim it
  ToClaim : Reason
  -- it is the lease or the count of an offset, for a server's own book
  ToKeepBooks : Reason
  -- it is how many leases there are: whether there is room to claim
  ToKnowTheRoom : Reason
  -- it is for whoever makes the checkpoints
  ToCheckpoint : Reason
  -- it has all counts, for the server that goes on with them
  ToHandOver : Reason
  -- it asks at another clock, at which other offsets may be held
  AnotherClock : Reason

-- why a question may be answered differently, if it may, by consumers alike at the clock
abbrev pub may_differ : ℕ → Question → Option Reason
may_differ now (Waiting at room) = some ToClaim
may_differ now Committed = none
may_differ now (IsSettled o) = none
may_differ now (LeaseOf o) = some ToKeepBooks
may_differ now (CountOf o) = some ToKeepBooks
may_differ now InFlight = some ToKnowTheRoom
may_differ now IsDue = some ToCheckpoint
may_differ now BlocksLeft = some ToCheckpoint
may_differ now (ViewOf o at) = cond (eqb at now) none (some AnotherClock)
may_differ now (OpenBetween a b room) = none
may_differ now (NearestOpen o) = none
may_differ now (Plan os room) = none
may_differ now (Export cursorRoom attemptRoom) = some ToHandOver

-- every other question is answered the same, refusals included; of the two states only that their cursors are valid is needed
abbrev pub AnsweredAlike : Type 0
AnsweredAlike =
    (now : ℕ) (s t : State) → Valid s.cursor → Valid t.cursor → Alike now s t
    → (w : ℕ) → supervises s.settings.rights w ≡ false
    → (q : Question) → may_differ now q ≡ none → look s w q ≡ look t w q

-- ## two consumers alike at 109
-- `shop`, and one that has handed out more: offset 5 is held until 120, offset 6 has run out, and a checkpoint is due
abbrev pub busy : State
busy =
    state_of five (table_of (entry 5 (lease 77 90 120 6 6) ∷ entry 6 (lease 78 90 100 1 0) ∷ []) (entry 7 1 ∷ []) 80 3) 80 (next_group_at 3 5) 9216
    (record { policy = policy 2 false (7 ∷ []) 3; rights = lookers; hours = none })

-- the premises of `answered-alike`
abbrev pub BusyAlike : Type 0
BusyAlike = Valid shop.cursor × Valid busy.cursor × Alike 109 shop busy

-- the first two numbers of what worker 0 is answered
abbrev first_two : Result (List ℕ) → List ℕ
first_two (refused r) = []
first_two (done l) = take 2 l

abbrev told : State → List Question → List (List ℕ)
told s qs = map (λ (q : Question). first_two (look s 0 q)) qs

-- each question that may be answered differently is
abbrev more : List Question
more = Waiting 109 9 ∷ LeaseOf 5 ∷ CountOf 7 ∷ InFlight ∷ IsDue ∷ BlocksLeft ∷ ViewOf 5 110 ∷ Export 64 64 ∷ []

pub shop-tells : told shop more ≡ (7 ∷ []) ∷ (9 ∷ 100 ∷ []) ∷ (4 ∷ []) ∷ (1 ∷ []) ∷ (0 ∷ 0 ∷ []) ∷ (7 ∷ []) ∷ (2 ∷ []) ∷ (29 ∷ 33 ∷ []) ∷ []
unfolding all_attempt_counts encode_cursor encode_attempts
shop-tells = refl

pub busy-tells : told busy more ≡ (7 ∷ 6 ∷ []) ∷ (77 ∷ 90 ∷ []) ∷ (1 ∷ []) ∷ (2 ∷ []) ∷ (1 ∷ 1 ∷ []) ∷ (4 ∷ []) ∷ (1 ∷ []) ∷ (29 ∷ 45 ∷ []) ∷ []
unfolding all_attempt_counts encode_cursor encode_attempts
busy-tells = refl

-- all others are answered the same
abbrev others : List Question
others = Committed ∷ IsSettled 8 ∷ ViewOf 5 109 ∷ ViewOf 6 109 ∷ OpenBetween 0 20 9 ∷ NearestOpen 8 ∷ Plan (4 ∷ 7 ∷ 8 ∷ []) 3 ∷ []

pub shop-tells-alike : told shop others ≡ (5 ∷ []) ∷ (1 ∷ []) ∷ (1 ∷ []) ∷ (2 ∷ []) ∷ (5 ∷ 8 ∷ []) ∷ (9 ∷ []) ∷ (2 ∷ 1 ∷ []) ∷ []
shop-tells-alike = refl

pub busy-tells-alike : told busy others ≡ told shop others
busy-tells-alike = refl
