-- What a server is told: its calls beside the numbers that they were answered, the hand-outs among these, and which of them take a token
-- away. A state, a journal or an event is not looked at.
-- SPEC.md, "Interface".
use Rattle.std.specs.Prelude.{ℕ, ◌+◌, ◌*◌, ◌-◌, ◌≤◌, ◌≡◌, Bool, false, cond, ◌||◌, List, [], ◌∷◌, ◌++◌, eqb, length}
use Rattle.std.proofs.Math.Option.{Option, none}
use Rattle.delivery.specs.Policy.{Deliver, DeadLetter}
use Rattle.consumer.specs.State.{Configuration}
use Rattle.consumer.specs.Calls.{HandOut}
use Rattle.machine.specs.Calls.{Ask, claim, ack, term, nack, progress, commit, look, Call, ask, begin, step, restart}
use Rattle.answers.specs.declared.Numbers.{Numbers}
use Rattle.crash_safety.specs.Runs.{Item, call, step_on, cut}
use Rattle.crash_safety.specs.Effects.{Effect, handing, settling, requeuing, nothing, only, below}
use Rattle.crash_safety.specs.Demand3.{handed, delivers, is_under, counted, restarts_in, limit_of, threshold_of, Limited}
use Rattle.crash_safety.specs.Batch.{is_repeated, offset_of, different}
use Rattle.crash_safety.specs.Totals.{is_delivery}
use Rattle.crash_safety.specs.Tokens.{given_up_by}

-- a call that is lent the journal, and its answer
pub record Told : Type 0 where
  pub call : Call
  pub answer : Numbers

abbrev pub told : Call → Numbers → Told
told q n = record { call = q; answer = n }

-- the calls of a list beside their answers. A step on other memory is answered too, and does nothing; a power failure isn't answered
unfoldable pub told_of : List Item → List Numbers → List Told
told_of [] ns = []
told_of (call q ∷ is) [] = []
told_of (call q ∷ is) (n ∷ ns) = told q n ∷ told_of is ns
told_of (step_on b ∷ is) [] = []
told_of (step_on b ∷ is) (n ∷ ns) = told_of is ns
told_of (cut k ∷ is) ns = told_of is ns

-- ## what a call did, by its answer
-- no refusal and not 255: the first number is 0
abbrev pub accepted : Numbers → Bool
accepted n = eqb n.0 0

-- a claim of o: the generation, the count, and 0 for a delivery
abbrev pub hand_out_in : ℕ → Numbers → HandOut
hand_out_in o n = record { offset = o; generation = n.2; deliveries = n.3; destination = cond (eqb n.4 0) Deliver DeadLetter }

abbrev pub effect_in : Ask → Numbers → Effect
effect_in (claim o now) n = handing o (hand_out_in o n)
effect_in (ack o g) n = settling (only o)
effect_in (term o g) n = settling (only o)
effect_in (nack o g now d) n = requeuing o
effect_in (progress o g now) n = nothing
effect_in (commit bound) n = settling (below bound)
effect_in (look q) n = nothing

abbrev pub effect_told : Ask → Numbers → Effect
effect_told q n = cond (accepted n) (effect_in q n) nothing

-- ## hand-outs
abbrev pub handed_by : Call → Numbers → Option HandOut
handed_by (ask w q) n = handed (effect_told q n)
handed_by (begin w) n = none
handed_by step n = none
handed_by restart n = none

-- how many a test names, and their offsets
unfoldable pub hand_outs_told : (HandOut → Bool) → List Told → ℕ
hand_outs_told named [] = 0
hand_outs_told named (t ∷ ts) = counted named (handed_by t.call t.answer) + hand_outs_told named ts

unfoldable pub offsets_told : List Told → List ℕ
offsets_told [] = []
offsets_told (t ∷ ts) = offset_of (handed_by t.call t.answer) ++ offsets_told ts

-- ## tokens of offset o
abbrev pub taken_by : ℕ → Call → Numbers → Bool
taken_by o (ask w q) n = given_up_by o (effect_told q n)
taken_by o (begin w) n = false
taken_by o step n = false
taken_by o restart n = accepted n

-- it was handed out again, settled or nacked, or a restart came
unfoldable pub given_up_told : ℕ → List Told → Bool
given_up_told o [] = false
given_up_told o (t ∷ ts) = taken_by o t.call t.answer || given_up_told o ts

-- ## restarts
abbrev pub AnsweredRestart : Call → Numbers → Type 0
AnsweredRestart (ask w q) n = Unit {0}
AnsweredRestart (begin w) n = Unit {0}
AnsweredRestart step n = Unit {0}
AnsweredRestart restart n = n.0 ≡ 0

unfoldable pub RestartsAnswered : List Told → Type 0
RestartsAnswered [] = Unit {0}
RestartsAnswered (t ∷ ts) = AnsweredRestart t.call t.answer × RestartsAnswered ts

-- ## demand 3 and the bounds over the batch, of the numbers that a list's calls were answered
pub record InNumbers (c : Configuration) (is : List Item) (ts : List Told) : Type 0 where
  pub bound : Limited c → (o : ℕ) → hand_outs_told (delivers o) ts ≤ limit_of c + restarts_in is * (threshold_of c + 1)
  pub generations : (g : ℕ) → hand_outs_told (is_under g) ts ≤ 1
  pub batch : Limited c → hand_outs_told is_repeated ts
      ≤ (limit_of c - 1) * length (different (offsets_told ts)) + restarts_in is * threshold_of c
  pub total : Limited c → hand_outs_told is_delivery ts ≤ limit_of c * length (different (offsets_told ts)) + restarts_in is * 4096
  -- no restart was refused
  pub restarts : RestartsAnswered ts
