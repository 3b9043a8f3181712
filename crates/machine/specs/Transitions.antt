-- The one step function: what a call does to who can be called and to the area that is lent with it. A call that can't be made
-- where it stands does nothing.
-- SPEC.md, "Lists".
use Rattle.std.specs.Prelude.{ℕ, cond, ◌&&◌, List}
use Rattle.std.proofs.Math.Option.{Option, none, some}
use Rattle.types.specs.Refusal.{Result, refused, done}
use Rattle.types.specs.Table.{Answer}
use Rattle.consumer.specs.State.{Configuration, State}
use Rattle.consumer.specs.Calls as consumer
use Rattle.consumer.specs.Questions as questions
use Rattle.checkpoint.specs.Checkpoint as checkpoint
use Rattle.checkpoint.specs.Checkpoint.{writes, Writing, Left, going, finished, BlockWritten, Lent}
use Rattle.starts.specs.Restart as restarts
use Rattle.machine.specs.Calls.{Ask, claim, ack, term, nack, progress, commit, look, Call, ask, begin, step, restart, u64, fits, Event, claimed, acked, termed, nacked, progressed, committed, looked, begun, stepped, restarted}

-- who can be called: the state, a writing record, or nobody, as after a power failure
pub data Phase : Type 0 where
  idle : State → Phase
  writing : Writing → Phase
  off : Phase

-- what a transition gives: what is seen of it, who can be called next, and the lent area
pub record After : Type 0 where
  pub event : Event
  pub phase : Phase
  pub area : List ℕ

abbrev pub gives : Event → Phase → List ℕ → Option After
gives e p a = some (record { event = e; phase = p; area = a })

-- the state, or the record, is there to be called
abbrev pub on_state : Phase → (State → Option After) → Option After
on_state (idle s) f = f s
on_state (writing w) f = none
on_state off f = none

abbrev pub on_record : Phase → (Writing → Option After) → Option After
on_record (idle s) f = none
on_record (writing w) f = f w
on_record off f = none

-- what each answer makes
abbrev pub answered_as : {A : Type 0} → List ℕ → (Result A → Event) → Answer A State → Option After
answered_as a e r = gives (e r.outcome) (idle r.state) a

-- a call of worker w on the state
abbrev pub asked : State → List ℕ → ℕ → Ask → Option After
asked s a w (claim o now) = answered_as a (claimed o now) (consumer.claim s w o now)
asked s a w (ack o g) = answered_as a (acked o g) (consumer.ack s w o g)
asked s a w (term o g) = answered_as a (termed o g) (consumer.ack s w o g)
asked s a w (nack o g now d) = answered_as a (nacked o g now d) (consumer.nack s w o g now d)
asked s a w (progress o g now) = answered_as a (progressed o g now) (consumer.progress s w o g now)
asked s a w (commit bound) = answered_as a (committed bound) (consumer.commit s w bound)
asked s a w (look q) = gives (looked q (questions.look s w q)) (idle s) a

abbrev pub began_as : State → List ℕ → Result Writing → Option After
began_as s a (refused r) = gives (begun (refused r)) (idle s) a
began_as s a (done w) = gives (begun (done (writes s))) (writing w) a

abbrev pub left_as : Left → Phase
left_as (going w) = writing w
left_as (finished s) = idle s

abbrev pub stepped_as : Answer BlockWritten Lent → Option After
stepped_as r = gives (stepped r.outcome) (left_as r.state.left) r.state.area

-- a refused restart leaves who could be called
abbrev pub restarted_as : Phase → List ℕ → Result State → Option After
restarted_as p a (refused r) = gives (restarted (refused r)) p a
restarted_as p a (done s) = gives (restarted (done s)) (idle s) a

-- one call, lent an area; `none`: it can't be made where it stands, or a number is no u64
unfoldable pub transition : Configuration → Phase → List ℕ → Call → Option After
transition c p a (ask w q) = cond (u64 w && fits q) (on_state p (λ s. asked s a w q)) none
transition c p a (begin w) = cond (u64 w) (on_state p (λ s. began_as s a (checkpoint.begin s w))) none
transition c p a step = on_record p (λ w. stepped_as (checkpoint.step w a))
transition c p a restart = restarted_as p a (restarts.restart c a)
