-- The calls of demand 3's lists, and what is seen of each: its arguments with its answer, or a power failure.
-- SPEC.md, "Lists".
use Rattle.std.specs.Prelude.{ℕ, Bool, true, ◌&&◌, List, [], ◌∷◌, leb}
use Rattle.std.proofs.Math.Option.{Option, none, some}
use Rattle.types.specs.Limits.{MAX}
use Rattle.types.specs.Refusal.{Result}
use Rattle.consumer.specs.State.{State}
use Rattle.consumer.specs.Calls.{HandOut}
use Rattle.consumer.specs.Questions.{Question, Waiting, IsSettled, LeaseOf, CountOf, Committed, InFlight, IsDue, BlocksLeft, ViewOf, Plan, Export, OpenBetween, NearestOpen}
use Rattle.checkpoint.specs.Checkpoint.{BlockWritten}

-- what the state answers
pub data Ask : Type 0 where
  -- an offset and the clock
  claim : ℕ → ℕ → Ask
  -- an offset and a generation
  ack : ℕ → ℕ → Ask
  term : ℕ → ℕ → Ask
  -- the same with the clock, and for a nack with the explicit delay
  nack : ℕ → ℕ → ℕ → Option ℕ → Ask
  progress : ℕ → ℕ → ℕ → Ask
  -- a bound
  commit : ℕ → Ask
  look : Question → Ask

-- a call: a worker's on the state, a worker's begin of a checkpoint, its steps, and a restart
pub data Call : Type 0 where
  ask : ℕ → Ask → Call
  begin : ℕ → Call
  step : Call
  restart : Call

-- a number is a u64
abbrev pub u64 : ℕ → Bool
u64 n = leb n MAX

abbrev pub all_fit : List ℕ → Bool
all_fit [] = true
all_fit (n ∷ ns) = u64 n && all_fit ns

abbrev pub question_fits : Question → Bool
question_fits (Waiting now room) = u64 now
question_fits Committed = true
question_fits (IsSettled o) = u64 o
question_fits (LeaseOf o) = u64 o
question_fits (CountOf o) = u64 o
question_fits InFlight = true
question_fits IsDue = true
question_fits BlocksLeft = true
question_fits (ViewOf o now) = u64 o && u64 now
question_fits (OpenBetween a b room) = u64 a && u64 b
question_fits (NearestOpen o) = u64 o
question_fits (Plan os room) = all_fit os
question_fits (Export cursorRoom attemptRoom) = true

abbrev pub delay_fits : Option ℕ → Bool
delay_fits none = true
delay_fits (some d) = u64 d

-- the numbers of a call are u64
abbrev pub fits : Ask → Bool
fits (claim o now) = u64 o && u64 now
fits (ack o g) = u64 o && u64 g
fits (term o g) = u64 o && u64 g
fits (nack o g now d) = u64 o && u64 g && u64 now && delay_fits d
fits (progress o g now) = u64 o && u64 g && u64 now
fits (commit bound) = u64 bound
fits (look q) = question_fits q

-- what is seen of a call: its arguments, but for who made it, and its answer; and of a power failure
pub data Event : Type 0 where
  claimed : ℕ → ℕ → Result HandOut → Event
  acked : ℕ → ℕ → Result (Unit {0}) → Event
  termed : ℕ → ℕ → Result (Unit {0}) → Event
  -- the answer is the deadline
  nacked : ℕ → ℕ → ℕ → Option ℕ → Result ℕ → Event
  progressed : ℕ → ℕ → ℕ → Result ℕ → Event
  -- whether committed moved
  committed : ℕ → Result Bool → Event
  looked : Question → Result (List ℕ) → Event
  -- how many block writes are to come
  begun : Result ℕ → Event
  stepped : Result BlockWritten → Event
  restarted : Result State → Event
  -- the power failed in a step; whether that left a header block new
  failed : Bool → Event
