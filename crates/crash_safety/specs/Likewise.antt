-- What is proved of demand 3's lists beyond the demand, on a disk that keeps no order between two syncs: nothing is forgotten, stale tokens and
-- other workers' tokens are refused, nobody does what he has no right to, and jobs are handed out in opening hours.
-- SPEC.md, "Disk".
use Rattle.std.specs.Prelude.{ℕ, ◌≡◌, true, List, [], ◌∷◌}
use Rattle.std.proofs.Math.Option.{some}
use Rattle.types.specs.Refusal.{Refusal, done}
use Rattle.types.specs.Table.{first}
use Rattle.cursor.specs.Cursor.{settled}
use Rattle.consumer.specs.State.{Configuration, State}
use Rattle.consumer.specs.Rights.{Operation}
use Rattle.consumer.specs.Calls.{HandOut}
use Rattle.consumer.specs.Valid.{Fits}
use Rattle.starts.specs.Restart.{start}
use Rattle.machine.specs.Calls.{Ask, claim, Call, ask, Event, claimed}
use Rattle.machine.specs.Transitions.{Phase, idle}
use Rattle.crash_safety.specs.Settled.{settled_in, state_in}
use Rattle.crash_safety.specs.Workers.{operation_of, caller_of, rows_for, refusal_of, token_in, NotOwn}
use Rattle.crash_safety.specs.Tokens.{no_tokens, tokens_in, StaleRefused}
use Rattle.crash_safety.specs.Hours.{InHours}
use Rattle.crash_safety.specs.Disk.{Disk}
use Rattle.crash_safety.specs.Unordered.{DiskItem, does, OnDisk, on_disk, leads, next_on, run_on, ends_on, fresh_disk}

-- `nothing_forgotten` on the disk. An offset that is settled in the state that a list leaves was settled by an accepted
-- Ack, Term or Commit of that list
unfoldable pub NothingForgottenOnDisk : Type 0
NothingForgottenOnDisk =
    (c : Configuration) (size : ℕ) (s : State) (items : List DiskItem) → Fits c.settings → start c size ≡ done s
    → (left : State) → state_in (ends_on c (fresh_disk s size) items).phase ≡ some left
    → (o : ℕ) → settled left.cursor o ≡ true → settled_in (run_on c (fresh_disk s size) items) o ≡ true

-- a call on the disk that is seen as one event
abbrev pub SeenAs : Configuration → OnDisk → Call → Event → Phase → Disk → Type 0
SeenAs c w q e p d = next_on c w.phase w.disk (does q) ≡ leads (e ∷ []) p d

-- `no-stale-token` on the disk. Every call after every list, with a token that is stale by the events
unfoldable pub NoStaleTokenOnDisk : Type 0
NoStaleTokenOnDisk =
    (c : Configuration) (size : ℕ) (s : State) (items : List DiskItem) → Fits c.settings → start c size ≡ done s
    → (w : ℕ) (q : Ask) (o g : ℕ) → token_in q ≡ some (o, g)
    → (e : Event) (p : Phase) (d : Disk) → SeenAs c (ends_on c (fresh_disk s size) items) (ask w q) e p d
    → StaleRefused (tokens_in no_tokens (run_on c (fresh_disk s size) items)) o g (rows_for c w (operation_of q)) (refusal_of e)

-- `token-of-one` on the disk. A list, a claim of worker v that hands a token out, whatever comes then, and a call of
-- another worker with that token
unfoldable pub TokenOfOneOnDisk : Type 0
TokenOfOneOnDisk =
    (c : Configuration) (size : ℕ) (s : State) (before between : List DiskItem) → Fits c.settings → start c size ≡ done s
    → (v o now : ℕ) (h : HandOut) (p : Phase) (d : Disk)
    → SeenAs c (ends_on c (fresh_disk s size) before) (ask v (claim o now)) (claimed o now (done h)) p d
    → (w : ℕ) (q : Ask) → (w ≡ v → ⊥) → token_in q ≡ some (h.offset, h.generation)
    → (e : Event) (p' : Phase) (d' : Disk) → SeenAs c (ends_on c (on_disk p d) between) (ask w q) e p' d'
    → NotOwn (rows_for c w (operation_of q)) (refusal_of e)

-- a call of a worker who may not make it: 38 or 39, whichever is met first; who can be called and the disk stay
pub record TurnedOn (w : OnDisk) (r : Refusal) (e : Event) (p : Phase) (d : Disk) : Type 0 where
  pub answered : refusal_of e ≡ some r
  pub kept : p ≡ w.phase
  pub disk : d ≡ w.disk

-- `nothing-without-right` on the disk
unfoldable pub NothingWithoutRightOnDisk : Type 0
NothingWithoutRightOnDisk =
    (c : Configuration) (size : ℕ) (s : State) (items : List DiskItem) → Fits c.settings → start c size ≡ done s
    → (q : Call) (v : ℕ) (op : Operation) → caller_of q ≡ some (v, op) → (r : Refusal) → first (rows_for c v op) ≡ some r
    → (e : Event) (p : Phase) (d : Disk) → SeenAs c (ends_on c (fresh_disk s size) items) q e p d
    → TurnedOn (ends_on c (fresh_disk s size) items) r e p d

-- `in_opening-hours` on the disk. After every list that leaves a state with nothing pending
unfoldable pub InHoursOnDisk : Type 0
InHoursOnDisk =
    (c : Configuration) (size : ℕ) (s : State) (items : List DiskItem) → Fits c.settings → start c size ≡ done s
    → (left : State) → (ends_on c (fresh_disk s size) items).phase ≡ idle left → (ends_on c (fresh_disk s size) items).disk.pending ≡ []
    → InHours c.settings.hours left
