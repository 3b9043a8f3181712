-- Every restart of a list is made, so the events have as many as the list. Assumes nothing.
use Prim.Native.Nat.{ℕ, ◌+◌}
use native.Mathlib.Omega.{arith}
use mathlib.Core.Path.{◌≡◌, refl, sym, ap, ◌∙◌}
use mathlib.Core.Bool.{Bool, true, false}
use mathlib.Core.List.{List, [], ◌∷◌}
use mathlib.Core.Option.{Option, none, some}
use lib.Dec.{eqb}
use lib.ListN.{length}
use Rattle.types.specs.Refusal.{Refusal, Result, refused, done}
use Rattle.types.proofs.Cases.{split}
use Rattle.types.specs.Table.{Answer}
use Rattle.consumer.specs.State.{Configuration, State}
use Rattle.consumer.specs.Calls as consumer
use Rattle.consumer.specs.Questions as questions
use Rattle.checkpoint.specs.Checkpoint as checkpoint
use Rattle.checkpoint.specs.Checkpoint.{Writing, is_last, BlockWritten, Lent}
use Rattle.starts.specs.Restart as restarts
use Rattle.machine.specs.Calls.{Ask, claim, ack, term, nack, progress, commit, look, Event, claimed, acked, termed, nacked, progressed, committed, looked, stepped, failed}
use Rattle.machine.specs.Transitions.{Phase, idle, writing, off, After, asked, began_as, stepped_as, restarted_as}
use Rattle.power_cut.specs.Cut.{Cut, old, new, torn, is_torn, cut_at, cut_on}
use Rattle.crash_safety.specs.Runs.{Item, World, next, after, run}
use Rattle.crash_safety.specs.Effects.{effect_of}
use Rattle.crash_safety.specs.Demand3.{restart_in, restarts_in}
use Rattle.crash_safety.proofs.Bound.{is_restart, restarts_seen}
use Rattle.crash_safety.proofs.Items.{Shown, next_cases}

-- how many restarts an item makes
abbrev pub made : Option After → ℕ
made none = 0
made (some t) = is_restart (effect_of t.event)

abbrev Counted : Item → Option After → Type 0
Counted i x = made x ≡ restart_in i

restarted-made : (p : Phase) (a : List ℕ) (r : Result State) → made (restarted_as p a r) ≡ 1
restarted-made p a (refused r) = refl
restarted-made p a (done s) = refl

-- no restart is seen of an answer to another call
module _ {A : Type 0} (event : Result A → Event) (when-refused : (r : Refusal) → is_restart (effect_of (event (refused r))) ≡ 0)
    (when-done : (x : A) → is_restart (effect_of (event (done x))) ≡ 0) where
  answered-made : (a : Result A) → is_restart (effect_of (event a)) ≡ 0
  answered-made (refused r) = when-refused r
  answered-made (done x) = when-done x

asked-made : (s : State) (a : List ℕ) (w : ℕ) (q : Ask) → made (asked s a w q) ≡ 0
asked-made s a w (claim o now) = answered-made (claimed o now) (λ r. refl) (λ h. refl) (consumer.claim s w o now).outcome
asked-made s a w (ack o g) = answered-made (acked o g) (λ r. refl) (λ u. refl) (consumer.ack s w o g).outcome
asked-made s a w (term o g) = answered-made (termed o g) (λ r. refl) (λ u. refl) (consumer.ack s w o g).outcome
asked-made s a w (nack o g now d) = answered-made (nacked o g now d) (λ r. refl) (λ e. refl) (consumer.nack s w o g now d).outcome
asked-made s a w (progress o g now) = answered-made (progressed o g now) (λ r. refl) (λ e. refl) (consumer.progress s w o g now).outcome
asked-made s a w (commit bound) = answered-made (committed bound) (λ r. refl) (λ m. refl) (consumer.commit s w bound).outcome
asked-made s a w (look x) = answered-made (looked x) (λ r. refl) (λ l. refl) (questions.look s w x)

began-made : (s : State) (a : List ℕ) (r : Result Writing) → made (began_as s a r) ≡ 0
began-made s a (refused r) = refl
began-made s a (done w) = refl

-- nor of a block write, the header's or not
write-made : (event : Bool → Event) → is_restart (effect_of (event true)) ≡ 0 → is_restart (effect_of (event false)) ≡ 0 → (last : Bool)
    → is_restart (effect_of (event last)) ≡ 0
write-made event header body true = header
write-made event header body false = body

step-made : (r : Answer BlockWritten Lent) → made (stepped_as r) ≡ 0
step-made r =
    answered-made stepped (λ f. refl)
    (λ w. write-made (λ last. stepped (done (record { block = w.block; last = last }))) refl refl w.last) r.outcome

cut-made : (w : Writing) (a : List ℕ) (k : Cut) → made (cut_at w a k) ≡ 0
cut-made w a old = refl
cut-made w a new = write-made failed refl refl (is_last w)
cut-made w a (torn b) = split (is_torn b) (λ t. rw t) (λ t. rw t)

cut-on-made : (w : Writing) (a : List ℕ) (k : Cut) → made (cut_on w a k) ≡ 0
cut-on-made w a k = split (eqb (length a) w.state.size) (λ t. rw t (cut-made w a k)) (λ t. rw t)

counted : (p : Phase) (a : List ℕ) → Shown Counted a p
counted (idle s) a = (λ w q t. asked-made s a w q, λ w. began-made s a (checkpoint.begin s w))
counted (writing w) a = (step-made (checkpoint.step w a), λ b t. step-made (checkpoint.step w b), cut-on-made w a)
counted off a = tt

pub next-made : (c : Configuration) (w : World) (i : Item) → made (next c w i) ≡ restart_in i
next-made c w i =
    next_cases c Counted (λ j e. sym e) w.phase w.journal
    (restarted-made w.phase w.journal (restarts.restart c w.journal))
    (counted w.phase w.journal) i

pub all_made : (c : Configuration) (items : List Item) (w : World) → restarts_seen (run c w items) ≡ restarts_in items
unfolding run restarts_seen restarts_in
all_made c [] w = refl
all_made c (i ∷ is) w = go (next c w i) refl (all_made c is w) (λ t. all_made c is (after t))
  where
    go : (x : Option After) → next c w i ≡ x → restarts_seen (run c w is) ≡ restarts_in is
        → ((t : After) → restarts_seen (run c (after t) is) ≡ restarts_in is)
        → restarts_seen (run c w (i ∷ is)) ≡ restart_in i + restarts_in is
    go none e skip rest = rw (e, run) (omega (arith, skip, sym (ap made e) ∙ next-made c w i))
    go (some t) e skip rest = rw (e, run) (omega (arith, rest t, sym (ap made e) ∙ next-made c w i))
