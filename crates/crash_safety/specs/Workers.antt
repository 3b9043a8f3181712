-- Workers and their rights, over every list. Leaving the refused calls of one worker out of a list alters nothing else that is
-- seen of it; no call of a worker who has no right to it changes anything; and a token that was given to one worker is refused to
-- every other ever after.
-- SPEC.md, "Rights".
use Rattle.std.specs.Prelude.{ℕ, ◌≡◌, Bool, true, false, not, cond, ◌&&◌, List, [], ◌∷◌, ◌++◌, map, eqb}
use Rattle.std.proofs.Math.Option.{Option, none, some}
use Rattle.types.specs.Refusal.{Refusal, Result, refused, done, Fenced, ForeignToken}
use Rattle.types.specs.Table.{Row, ◌⇒◌, first, Passed}
use Rattle.lease.specs.Operations.{is_none}
use Rattle.consumer.specs.State.{Configuration, State}
use Rattle.consumer.specs.Rights.{Operation, claiming, settling, nacking, extending, committing, checkpointing, looking, bit_of, worker_rows}
use Rattle.consumer.specs.Calls.{HandOut}
use Rattle.consumer.specs.Valid.{Fits}
use Rattle.starts.specs.Restart.{start}
use Rattle.machine.specs.Calls.{Ask, claim, ack, term, nack, progress, commit, look, Call, ask, begin, step, restart, Event, claimed, acked, termed, nacked, progressed, committed, looked, begun, stepped, restarted, failed}
use Rattle.machine.specs.Transitions.{After}
use Rattle.crash_safety.specs.Runs.{Item, call, step_on, cut, World, next, after, run, ends, fresh_world}

-- ## who calls, and for what
abbrev pub operation_of : Ask → Operation
operation_of (claim o now) = claiming
operation_of (ack o g) = settling
operation_of (term o g) = settling
operation_of (nack o g now d) = nacking
operation_of (progress o g now) = extending
operation_of (commit bound) = committing
operation_of (look q) = looking

-- the worker who makes a call, and the operation that the call is; a step and a restart are nobody's
abbrev pub caller_of : Call → Option (ℕ × Operation)
caller_of (ask w q) = some (w, operation_of q)
caller_of (begin w) = some (w, checkpointing)
caller_of step = none
caller_of restart = none

-- an item is a call of worker v
abbrev pub is_from : ℕ → Option (ℕ × Operation) → Bool
is_from v none = false
is_from v (some p) = eqb p.0 v

abbrev pub made_by : ℕ → Item → Bool
made_by v (call q) = is_from v (caller_of q)
made_by v (step_on b) = false
made_by v (cut k) = false

-- 38 and 39, as a configuration has them of a worker; where neither is met, the worker may
abbrev pub rows_for : Configuration → ℕ → Operation → List Row
rows_for c w op = worker_rows c.settings.rights w (bit_of op)

abbrev pub May : Configuration → ℕ → Operation → Type 0
May c w op = Passed (rows_for c w op)

-- ## refusals
abbrev pub refusal_in : {A : Type 0} → Result A → Option Refusal
refusal_in (refused r) = some r
refusal_in (done a) = none

abbrev pub refusal_of : Event → Option Refusal
refusal_of (claimed o now a) = refusal_in a
refusal_of (acked o g a) = refusal_in a
refusal_of (termed o g a) = refusal_in a
refusal_of (nacked o g now d a) = refusal_in a
refusal_of (progressed o g now a) = refusal_in a
refusal_of (committed bound a) = refusal_in a
refusal_of (looked q a) = refusal_in a
refusal_of (begun a) = refusal_in a
refusal_of (stepped a) = refusal_in a
refusal_of (restarted a) = refusal_in a
refusal_of (failed new) = none

-- ## leaving refused calls out
-- an event, with the item that it is seen of
pub record Heard : Type 0 where
  pub item : Item
  pub event : Event

abbrev pub heard_of : Item → Event → Heard
heard_of i e = record { item = i; event = e }

-- what is seen of a list, so
unfoldable pub heard : Configuration → World → List Item → List Heard
heard c w [] = []
heard c w (i ∷ is) = elim (next c w i) [ none ↦ heard c w is | some t ↦ heard_of i t.event ∷ heard c (after t) is ]

abbrev pub seen_in : List Heard → List Event
seen_in hs = map (λ (h : Heard). h.event) hs

-- a call of worker v that was refused, whichever the refusal
abbrev pub is_refused_to : ℕ → Heard → Bool
is_refused_to v h = made_by v h.item && not (is_none (refusal_of h.event))

-- the rest of what is seen
unfoldable pub less_refused : ℕ → List Heard → List Heard
less_refused v [] = []
less_refused v (h ∷ hs) = cond (is_refused_to v h) (less_refused v hs) (h ∷ less_refused v hs)

-- the list without these calls
unfoldable pub thinned : ℕ → Configuration → World → List Item → List Item
thinned v c w [] = []
thinned v c w (i ∷ is) =
    elim (next c w i) [
      | none ↦ i ∷ thinned v c w is
      | some t ↦ cond (is_refused_to v (heard_of i t.event)) (thinned v c (after t) is) (i ∷ thinned v c (after t) is)
    ]

-- every other item, those of steps, restarts and power failures too, is answered as in the whole list and leaves what it left
pub record LeftOut (v : ℕ) (c : Configuration) (w : World) (items : List Item) : Type 0 where
  pub whole : run c w items ≡ seen_in (heard c w items)
  pub hears : heard c w (thinned v c w items) ≡ less_refused v (heard c w items)
  pub sees : run c w (thinned v c w items) ≡ seen_in (less_refused v (heard c w items))
  pub leaves : ends c w (thinned v c w items) ≡ ends c w items

-- one worker's refused calls alter nothing for others. Of every list, whoever can be called, on whatever journal
unfoldable pub LeftOutRefusals : Type 0
LeftOutRefusals = (v : ℕ) (c : Configuration) (w : World) (items : List Item) → LeftOut v c w items

-- ## calls without the right
-- what is answered is 38 or 39, whichever is met first; phase and journal stay
pub record Turned (w : World) (r : Refusal) (t : After) : Type 0 where
  pub answered : refusal_of t.event ≡ some r
  pub kept : after t ≡ w

-- a call without the right changes nothing. After every list from a fresh consumer, whatever the call
unfoldable pub NothingWithoutRight : Type 0
NothingWithoutRight =
    (c : Configuration) (size : ℕ) (s : State) (items : List Item) → Fits c.settings → start c size ≡ done s
    → (q : Call) (v : ℕ) (op : Operation) → caller_of q ≡ some (v, op) → (r : Refusal) → first (rows_for c v op) ≡ some r
    → (t : After) → next c (ends c (fresh_world s size) items) (call q) ≡ some t
    → Turned (ends c (fresh_world s size) items) r t

-- ## tokens
-- the offset and the generation of a call's token
abbrev pub token_in : Ask → Option (ℕ × ℕ)
token_in (claim o now) = none
token_in (ack o g) = some (o, g)
token_in (term o g) = some (o, g)
token_in (nack o g now d) = some (o, g)
token_in (progress o g now) = some (o, g)
token_in (commit bound) = none
token_in (look q) = none

-- what rows refuse, or else this
abbrev pub or_else : List Row → Refusal → Option Refusal
or_else rows r = first (rows ++ (true ⇒ r ∷ []))

-- another's token: 38 or 39, and else 24 or 40
pub data NotOwn (rows : List Row) (r : Option Refusal) : Type 0 where
  fenced : r ≡ or_else rows Fenced → NotOwn rows r
  foreign : r ≡ or_else rows ForeignToken → NotOwn rows r

-- one worker's token is refused to every other. A list, a claim of worker v that hands a token out, whatever comes
-- then, and a call of another worker with that token
unfoldable pub TokenOfOne : Type 0
TokenOfOne =
    (c : Configuration) (size : ℕ) (s : State) (before between : List Item) → Fits c.settings → start c size ≡ done s
    → (v o now : ℕ) (h : HandOut) (t : After) → next c (ends c (fresh_world s size) before) (call (ask v (claim o now))) ≡ some t
    → t.event ≡ claimed o now (done h)
    → (w : ℕ) (q : Ask) → (w ≡ v → ⊥) → token_in q ≡ some (h.offset, h.generation)
    → (u : After) → next c (ends c (after t) between) (call (ask w q)) ≡ some u
    → NotOwn (rows_for c w (operation_of q)) (refusal_of u.event)
