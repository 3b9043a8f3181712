-- Calls in numbers, as Rust hands them in: which call a number is, with the numbers behind it.
-- SPEC.md, "Interface".
use Rattle.std.specs.Prelude.{ℕ, ◌/◌, List, [], ◌∷◌}
use Rattle.std.specs.Prelude as std
use Rattle.std.proofs.Math.Option.{Option, none, some}
use Rattle.types.specs.Refused.{option_of}
use Rattle.types.specs.Keyed.{Entry, entry, lookup, map_values}
use Rattle.consumer.specs.Questions.{Waiting, Committed, IsSettled, LeaseOf, CountOf, InFlight, IsDue, BlocksLeft, ViewOf, OpenBetween, NearestOpen}
use Rattle.machine.specs.Calls.{Ask, claim, ack, term, nack, progress, commit, look, Call, ask, begin, step, restart}
use Rattle.machine.specs.Answers.{ask_of, call_of}
use Rattle.machine.specs.declared.calls.Ask as code_ask
use Rattle.machine.specs.declared.calls.Call as code_call

-- ## calls on the state, each with its number: up to 15 those that can change it, from 32 on the questions. `room` is the number of places
-- that are lent for a list
abbrev pub asks : ℕ → ℕ → ℕ → ℕ → ℕ → List (Entry Ask)
asks a b c d room =
    entry 0 (claim a b) ∷ entry 1 (ack a b) ∷ entry 2 (term a b) ∷ entry 3 (nack a b c none) ∷ entry 4 (nack a b c (some d)) ∷
    entry 5 (progress a b c) ∷ entry 6 (commit a) ∷ entry 32 (look (Waiting a room)) ∷ entry 33 (look Committed) ∷
    entry 34 (look (IsSettled a)) ∷ entry 35 (look (LeaseOf a)) ∷ entry 36 (look (CountOf a)) ∷ entry 37 (look InFlight) ∷
    entry 38 (look IsDue) ∷ entry 39 (look BlocksLeft) ∷ entry 40 (look (ViewOf a b)) ∷
    entry 41 (look (OpenBetween a b (room / 2))) ∷ entry 42 (look (NearestOpen a)) ∷ []

abbrev pub ask_at : ℕ → ℕ → ℕ → ℕ → ℕ → ℕ → Option Ask
ask_at kind a b c d room = lookup kind (asks a b c d room)

-- ## calls of worker w on a machine: its own from 16 on, and those on its state
abbrev pub calls : ℕ → ℕ → ℕ → ℕ → ℕ → ℕ → List (Entry Call)
calls w a b c d room = entry 16 (begin w) ∷ entry 17 step ∷ entry 18 restart ∷ map_values (ask w) (asks a b c d room)

abbrev pub call_at : ℕ → ℕ → ℕ → ℕ → ℕ → ℕ → ℕ → Option Call
call_at w kind a b c d room = lookup kind (calls w a b c d room)

-- ## the calls that the decoders find
abbrev pub asking_of : ℕ → std.Option code_ask.Ask → Option Ask
asking_of room = option_of (ask_of room)

abbrev pub calling_of : ℕ → std.Option code_call.Call → Option Call
calling_of room = option_of (call_of room)
