-- Demand 3, as one statement about every list. `Holds` says it of events, of a number of restarts and of the book that they begin with, so that
-- it serves every kind of list.
-- SPEC.md, "Bounds".
use Rattle.std.specs.Prelude.{ℕ, ◌+◌, ◌*◌, ◌≤◌, ◌≡◌, Bool, true, false, cond, ◌&&◌, List, [], ◌∷◌, eqb}
use Rattle.std.proofs.Math.Option.{Option, none, some}
use Rattle.types.specs.Limits.{MAX32}
use Rattle.types.specs.Refusal.{refused, done}
use Rattle.types.specs.Keyed.{lookup}
use Rattle.cursor.specs.Cursor.{settled}
use Rattle.delivery.specs.Policy.{Destination, Deliver, DeadLetter}
use Rattle.consumer.specs.State.{Configuration, State, count_or0}
use Rattle.consumer.specs.Calls.{HandOut}
use Rattle.consumer.specs.Valid.{Fits}
use Rattle.starts.specs.Restart.{start}
use Rattle.machine.specs.Calls.{ask, begin, step, restart, Event}
use Rattle.crash_safety.specs.Runs.{Item, call, step_on, cut, run, fresh_world}
use Rattle.crash_safety.specs.Effects.{Effect, handing, settling, requeuing, renewing, restarting, nothing, effect_of}
use Rattle.crash_safety.specs.Book.{Page, Book, empty_book, note}

-- ## hand-outs
-- what is handed out
abbrev pub handed : Effect → Option HandOut
handed (handing o h) = some h
handed (settling named) = none
handed (requeuing o) = none
handed renewing = none
handed (restarting a) = none
handed nothing = none

abbrev pub for_delivery : Destination → Bool
for_delivery Deliver = true
for_delivery DeadLetter = false

-- a hand-out of an offset for delivery, and one under a generation
abbrev pub delivers : ℕ → HandOut → Bool
delivers o h = for_delivery h.destination && eqb o h.offset

abbrev pub is_under : ℕ → HandOut → Bool
is_under g h = eqb g h.generation

-- how many hand-outs a test names, whichever workers took them
abbrev pub counted : (HandOut → Bool) → Option HandOut → ℕ
counted named none = 0
counted named (some h) = cond (named h) 1 0

unfoldable pub hand_outs : (HandOut → Bool) → List Event → ℕ
hand_outs named [] = 0
hand_outs named (e ∷ es) = counted named (handed (effect_of e)) + hand_outs named es

-- ## restarts
-- what a restart finds: the settled offsets and the carried counts of the state that it answers
pub record Finds (p : Page) (s : State) : Type 0 where
  pub settles : (o : ℕ) → settled s.cursor o ≡ p.settled o
  pub counts : (o : ℕ) → count_or0 (lookup o s.table.carried) ≡ p.count o

-- a restart is not refused and finds the copy
abbrev pub Right : Page → Effect → Type 0
Right p (handing o h) = Unit {0}
Right p (settling named) = Unit {0}
Right p (requeuing o) = Unit {0}
Right p renewing = Unit {0}
Right p (restarting (refused r)) = ⊥
Right p (restarting (done s)) = Finds p s
Right p nothing = Unit {0}

-- so of each restart among events that begin with this book
unfoldable pub RestartsRight : Book → List Event → Type 0
RestartsRight b [] = Unit {0}
RestartsRight b (e ∷ es) = Right b.copy (effect_of e) × RestartsRight (note b (effect_of e)) es

-- the restarts among events, refused ones too
abbrev pub is_restart : Effect → ℕ
is_restart (handing o h) = 0
is_restart (settling named) = 0
is_restart (requeuing o) = 0
is_restart renewing = 0
is_restart (restarting a) = 1
is_restart nothing = 0

unfoldable pub restarts_seen : List Event → ℕ
restarts_seen [] = 0
restarts_seen (e ∷ es) = is_restart (effect_of e) + restarts_seen es

-- the restarts in a list
abbrev pub restart_in : Item → ℕ
restart_in (call (ask w q)) = 0
restart_in (call (begin w)) = 0
restart_in (call step) = 0
restart_in (call restart) = 1
restart_in (step_on b) = 0
restart_in (cut k) = 0

unfoldable pub restarts_in : List Item → ℕ
restarts_in [] = 0
restarts_in (i ∷ is) = restart_in i + restarts_in is

-- ## the demand
-- M, the delivery limit, and N, the flush threshold
abbrev pub limit_of : Configuration → ℕ
limit_of c = c.settings.policy.maxDeliver

abbrev pub threshold_of : Configuration → ℕ
threshold_of c = c.settings.policy.flush_redeliveries

-- a delivery limit is set: M is neither 0 nor 4294967295
pub record Limited (c : Configuration) : Type 0 where
  pub not_0 : limit_of c ≡ 0 → ⊥
  pub not_max : limit_of c ≡ MAX32 → ⊥

-- each offset was handed out for delivery at most M + C × (N + 1) times, by all workers' claims together
abbrev pub WithinBound : (M N C : ℕ) → List Event → Type 0
WithinBound M N C es = (o : ℕ) → hand_outs (delivers o) es ≤ M + C * (N + 1)

-- of events that begin with this book and have so many restarts among them
pub record Holds (c : Configuration) (b : Book) (restarts : ℕ) (es : List Event) : Type 0 where
  -- where a limit is set
  pub bound : Limited c → WithinBound (limit_of c) (threshold_of c) restarts es
  -- no two hand-outs share a generation
  pub generations : (g : ℕ) → hand_outs (is_under g) es ≤ 1
  -- no restart was refused, and each found the book's copy
  pub found : RestartsRight b es

-- demand 3 of every list. From every fresh consumer on a zeroed journal; that the configuration's numbers fit is what
-- their types say
unfoldable pub Demand3 : Type 0
Demand3 =
    (c : Configuration) (size : ℕ) (s : State) (items : List Item) → Fits c.settings → start c size ≡ done s
    → Holds c empty_book (restarts_in items) (run c (fresh_world s size) items)
