-- What a program does by the contracts of `Machine::start`, `Machine::off`, `call`, `Machine::plan`, `Machine::export` and `cut` is the run of the same
-- items, so demand 3 holds of it. Assumes nothing.
use Prim.Native.Nat.{ℕ, zero, suc}
use native.Mathlib.Omega.{arith}
use mathlib.Core.Path.{◌≡◌, refl, sym, ap, ◌∙◌}
use mathlib.Core.Bool.{Bool}
use mathlib.Core.List.{List, ◌∷◌}
use mathlib.Core.Option.{Option, none, some, none-ne-some}
use lib.ListN.{length}
use Rattle.std.specs.Prelude as std
use Rattle.std.specs.Prelude.{Some, None, Ok, Err}
use Rattle.types.specs.Refusal.{Refusal, Result, refused, done}
use Rattle.types.specs.declared.refusals.Refusal as code
use Rattle.types.specs.Refused.{refusal_of}
use Rattle.types.proofs.Checked.{refused_not_done}
use Rattle.types.proofs.Table.{checked-done}
use Rattle.consumer.specs.State.{State}
use Rattle.consumer.specs.State as state
use Rattle.consumer.specs.Export.{Snapshots}
use Rattle.consumer.specs.View.{view}
use Rattle.consumer.specs.declared.Configuration.{Configuration}
use Rattle.consumer.specs.declared.snapshots.Lengths.{Lengths}
use Rattle.consumer.specs.Valid.{Fits}
use Rattle.checkpoint.specs.declared.Writing.{Writing}
use Rattle.starts.specs.Starting.{configuration_of, start_fault}
use Rattle.starts.specs.Restart as restarts
use Rattle.starts.specs.Restart.{start_table, fresh, start}
use Rattle.machine.specs.Answers.{call_of}
use Rattle.machine.specs.Calls.{Call, step, restart, Event, restarted}
use Rattle.machine.specs.Transitions.{Phase, idle, After, gives, restarted_as, transition}
use Rattle.machine.specs.View.{phase_at, phase_of, SoundAt, Sound, StartedIs, after_of, CallKept, held, Held, planned_of, exported_of}
use Rattle.machine.specs.declared.calls.CallAnswer.{CallAnswer}
use Rattle.machine.specs.declared.calls.CallAnswer.TheVariants as answer
use Rattle.machine.specs.declared.Machine.{Machine}
use Rattle.machine.specs.declared.Started.{Started}
use Rattle.machine.proofs.Planned.{plan-is-call}
use Rattle.machine.proofs.Exported.{export-is-call}
use Rattle.power_cut.specs.View as power
use Rattle.power_cut.specs.View.{CutKept}
use Rattle.crash_safety.specs.Runs.{Item, call, step_on, World, world, keeps_journal, next, after, run, ends, fresh_world}
use Rattle.crash_safety.specs.Demand3.{Demand3}
use Rattle.crash_safety.specs.Batch.{BatchBound}
use Rattle.crash_safety.specs.Ran.{seen, Ran, rests, calls, strays, plans, exports, cuts, reopens, IsRun, RanIsRun, Demand3Ran}
use Rattle.crash_safety.proofs.Invariant.{Inv}
use Rattle.crash_safety.proofs.Journals.{restart-finds}
use Rattle.crash_safety.proofs.Reached.{reached}
use Rattle.crash_safety.proofs.Demand3.{demand_3}
use Rattle.crash_safety.proofs.Batch.{batch-bound}

-- ## one item
-- what an item leaves, made or not
abbrev Leaves : World → Option After → World → Type 0
Leaves w none v = v ≡ w
Leaves w (some t) v = v ≡ after t

module _ (c : state.Configuration) (w v : World) (i : Item) (is : List Item) where
  sees_more : (es : List Event) (x : Option After) → next c w i ≡ x → Leaves w x v → run c v is ≡ es → run c w (i ∷ is) ≡ seen x es
  unfolding run
  sees_more es none e l h = rw (e, run, ← l) h
  sees_more es (some t) e l h = rw (e, run, ← l, h)

  leaves-more : (x : Option After) → next c w i ≡ x → Leaves w x v → ends c w (i ∷ is) ≡ ends c v is
  unfolding ends
  leaves-more none e l = rw (e, ends, ← l)
  leaves-more (some t) e l = rw (e, ends, ← l)

abbrev world_of : Held → World
world_of h = world (phase_of h.machine) h.area

module _ (m m' : Machine) (a : List ℕ) where
  called-leaves : (q : Call) (a' out : List ℕ) (x : CallAnswer) → CallKept x (held m a) (held m' a')
      → Leaves (world (phase_of m) a) (after_of q x m' a' out) (world (phase_of m') a')
  called-leaves q a' out (answer.Asked x) k = refl
  called-leaves q a' out (answer.Begun x) k = refl
  called-leaves q a' out (answer.Stepped x) k = refl
  called-leaves q a' out (answer.Restarted x) k = refl
  called-leaves q a' out answer.NotNow k = ap world_of k

  cut-leaves : (a' : List ℕ) (x : std.Option Bool) → CutKept x (held m a) (held m' a')
      → Leaves (world (phase_of m) a) (power.after_of x m' a') (world (phase_of m') a')
  cut-leaves a' (Some header) k = refl
  cut-leaves a' None k = ap world_of k

  -- other memory is lent, and the journal stays
  stray_leaves : (q : Call) (b b' out : List ℕ) (x : CallAnswer) → CallKept x (held m b) (held m' b')
      → Leaves (world (phase_of m) a) (keeps_journal a (after_of q x m' b' out)) (world (phase_of m') a)
  stray_leaves q b b' out (answer.Asked x) k = refl
  stray_leaves q b b' out (answer.Begun x) k = refl
  stray_leaves q b b' out (answer.Stepped x) k = refl
  stray_leaves q b b' out (answer.Restarted x) k = refl
  stray_leaves q b b' out answer.NotNow k = ap (λ (h : Held). world (phase_of h.machine) a) k

-- a plan leaves all as it is, and so does an export
plan-leaves : (m : Machine) (a os : List ℕ) (room : ℕ) (out : List ℕ) (x : std.Option (std.Result ℕ code.Refusal))
    → Leaves (world (phase_of m) a) (planned_of x m os room out a) (world (phase_of m) a)
plan-leaves m a os room out (Some x) = refl
plan-leaves m a os room out None = refl

export-leaves : (m : Machine) (a : List ℕ) (out out' : Snapshots) (x : std.Option (std.Result Lengths code.Refusal)) → Leaves (world (phase_of m) a) (exported_of x m out out' a) (world (phase_of m) a)
export-leaves m a out out' (Some x) = refl
export-leaves m a out out' None = refl

seen-kept : (a : List ℕ) (x : Option After) (es : List Event) → seen (keeps_journal a x) es ≡ seen x es
seen-kept a none es = refl
seen-kept a (some t) es = refl

module _ (m m' : Machine) (a a' : List ℕ) (i : Item) (is : List Item) (es : List Event) (last : Machine) (end : List ℕ) where
  abbrev here : World
  here = world (phase_of m) a

  abbrev there : World
  there = world (phase_of m') a'

  linked : (x : Option After) → next (configuration_of m.configuration) here i ≡ x → Leaves here x there → m'.configuration ≡ m.configuration
      → IsRun m' a' is es last end → IsRun m a (i ∷ is) (seen x es) last end
  linked x e l c h =
      record {
        sees = sees_more (configuration_of m.configuration) here there i is es x e l (rw (← c) h.sees);
        leaves = leaves-more (configuration_of m.configuration) here there i is x e l ∙ rw (← c) h.leaves;
        configuration = h.configuration ∙ c;
        sound = h.sound;
      }

-- ## restarts
same-event : {t u : After} → some t ≡ some u → t.event ≡ u.event
same-event {t} {u} e = let same : t ≡ u = cc in ap (λ (v : After). v.event) same

same_answer : (x y : Result State) (p q : Phase) (a b : List ℕ) → gives (restarted x) p a ≡ gives (restarted y) q b → x ≡ y
same_answer x y p q a b e = let seen : restarted x ≡ restarted y = same-event e in cc

-- one that is not refused is the same whoever could be called before
pub restarts-alike : (p q p' : Phase) (a a' : List ℕ) (v : State) (r : Result State) → gives (restarted (done v)) p' a' ≡ restarted_as q a r
    → restarted_as p a r ≡ gives (restarted (done v)) p' a'
restarts-alike p q p' a a' v (refused f) e = refused_not_done (sym (same_answer (done v) (refused f) p' q a' a e))
restarts-alike p q p' a a' v (done s) e = sym e

-- ## every program
runs : {m last : Machine} {a end : List ℕ} {is : List Item} {es : List Event} → Sound m → Ran m a is es last end
    → IsRun m a is es last end
unfolding run ends next transition
runs s rests = record { sees = refl; leaves = refl; configuration = refl; sound = s }
runs {m} {last} {a} {end} s (calls {is = is} {es = es} q out r a' out' h rest) =
    let k = h s in
    linked m r.machine a a' _ is es last end _ (sym k.is)
    (called-leaves m r.machine a (call_of (length out) q) a' out' r.answer k.kept) k.configuration (runs k.sound rest)
runs {m} {last} {a} {end} s (strays {is = is} {es = es} b out r b' out' other h rest) =
    let k = h s in
    let x : Option After = after_of step r.answer r.machine b' out' in
    rw (← seen-kept a x es)
    (linked m r.machine a a (step_on b) is es last end (keeps_journal a x) (rw other (ap (keeps_journal a) (sym k.is)))
    (stray_leaves m r.machine a step b b' out' r.answer k.kept) k.configuration (runs k.sound rest))
runs {m} {last} {a} {end} s (plans {is = is} {es = es} w os out r out' g f h rest) =
    linked m m a a _ is es last end _ (sym ((h s).is a ∙ plan-is-call (configuration_of m.configuration) (phase_of m) a w os out g f))
    (plan-leaves m a os (length out) out' r) refl (runs s rest)
runs {m} {last} {a} {end} s (exports {is = is} {es = es} w out r out' g h rest) =
    linked m m a a _ is es last end _ (sym ((h s).is a ∙ export-is-call (configuration_of m.configuration) (phase_of m) a w out g))
    (export-leaves m a out out' r) refl (runs s rest)
runs {m} {last} {a} {end} s (cuts {is = is} {es = es} kind bytes r a' h rest) =
    let k = h s in
    linked m r.machine a a' _ is es last end _ (sym k.is)
    (cut-leaves m r.machine a a' r.answer k.kept) k.configuration (runs k.sound rest)
runs {m} {last} {a} {end} s (reopens {is = is} {es = es} m' out r a' out' off h started rest) =
    let k = h off.sound in
    let c : m'.configuration ≡ m.configuration = off.configuration in
    let v : State = view r.machine.writing.consumer in
    let e = rw (c, started) at k.is in
    rw started
    (linked m r.machine a a' (call restart) is es last end _
    (restarts-alike (phase_of m) (phase_of m') (phase_of r.machine) a a' v (restarts.restart (configuration_of m.configuration) a) e)
    refl (k.configuration ∙ c) (runs k.sound rest))

pub ran_is-run : RanIsRun
unfolding RanIsRun
ran_is-run m a is es last end s r = runs s r

-- ## from a start
-- a state that can be called is valid, so the numbers of its settings are of their types
pub idle-fits : (n : ℕ) (w : Writing) (s : State) → phase_at n w ≡ idle s → SoundAt n w → Fits s.settings
idle-fits zero w s e h = let same : view w.consumer ≡ s = cc in rw (← same) h.valid.fits
idle-fits (suc zero) w s e h = absurd (let z : ◌≡◌ {A = ℕ} 0 1 = cc in omega arith)
idle-fits (suc (suc n)) w s e h = absurd (let z : ◌≡◌ {A = ℕ} 0 1 = cc in omega arith)

-- so the configuration's do, where a start was accepted
pub fresh-fits : (c : state.Configuration) (size : ℕ) (m : Machine) (v : State) → start c size ≡ done v → phase_of m ≡ idle v → Sound m → Fits c.settings
unfolding start
fresh-fits c size m v is phase sound =
    let same = (checked-done (start_table c size) (fresh c size) v is).1 in
    rw (ap (λ (x : State). x.settings) same) (idle-fits m.phase m.writing v phase sound)

-- what an accepted start gives
pub record Fresh (s : Configuration) (size : ℕ) (m : Machine) : Type 0 where
  pub state : State
  pub is : start (configuration_of s) size ≡ done state
  pub phase : phase_of m ≡ idle state
  pub fits : Fits (configuration_of s).settings

pub fresh-from : (s : Configuration) (size : ℕ) (r : Started) → StartedIs s size r → r.answer ≡ Ok tt → Fresh s size r.machine
fresh-from s size r h e =
    let v : State = view r.machine.writing.consumer in
    let c = configuration_of s in
    let is : start c size ≡ done v = sym h.is ∙ rw e in
    let phase : phase_of r.machine ≡ idle v = h.phase ∙ rw is in
    record { state = v; is = is; phase = phase; fits = fresh-fits c size r.machine v is phase h.sound }

-- a restart of a machine that is off is not refused where the journal can be read
pub not_refused : (c : state.Configuration) (m m' : Machine) (a a' out : List ℕ) (s : State) (x : std.Result (Unit {0}) code.Refusal) (f : Refusal)
    → restarts.restart c a ≡ done s → after_of restart (answer.Restarted x) m' a' out ≡ transition c (phase_of m) a restart → start_fault x ≡ some f → ⊥
unfolding transition
not_refused c m m' a a' out s (Ok t) f reads e g = absurd (none-ne-some f g)
not_refused c m m' a a' out s (Err r) f reads e g =
    refused_not_done (same_answer (refused (refusal_of r)) (done s) (phase_of m') (idle s) a' a (rw reads at e))

pub demand_3_ran : Demand3Ran
unfolding Demand3Ran Demand3 BatchBound
demand_3_ran s size r h e is es last end p =
    let f = fresh-from s size r h e in
    let c : state.Configuration = configuration_of s in
    let ran = runs h.sound p in
    let sees : run c (fresh_world f.state size) is ≡ es = rw (h.configuration, f.phase) at ran.sees in
    let leaves : ends c (fresh_world f.state size) is ≡ world (phase_of last) end = rw (h.configuration, f.phase) at ran.leaves in
    let there = reached c size f.state is f.fits f.is in
    let inv : Inv c size there.ledger (world (phase_of last) end) = rw leaves at there.inv in
    record {
      holds = rw (← sees) (demand_3 c size f.state is f.fits f.is);
      batch = λ l. rw (← sees) (batch-bound c size f.state is l f.fits f.is);
      reopened = λ m out u a' out' off k x g ans fault.
          not_refused c m u.machine end a' out' _ x g (restart-finds c size end inv.saved there.accepted inv.journal)
          (rw (off.configuration, ans) at (k off.sound).is) fault;
    }
