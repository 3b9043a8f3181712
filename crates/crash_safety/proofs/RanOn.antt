-- What a program does by the contracts of the machine's functions, on a disk that keeps no order between two syncs, is the run of the same items;
-- so demand 3 holds of it. Assumes nothing.
use Prim.Native.Nat.{ℕ}
use mathlib.Core.Path.{◌≡◌, refl, sym, ap, ◌∙◌}
use mathlib.Core.Bool.{true, false}
use mathlib.Core.List.{List, [], ◌∷◌, ◌++◌, append_assoc}
use mathlib.Core.Option.{Option, none, some, none-ne-some}
use lib.ListN.{length}
use Rattle.std.specs.Prelude as std
use Rattle.std.specs.Prelude.{Some, None}
use Rattle.types.specs.Refusal.{Result, refused, done}
use Rattle.types.specs.declared.refusals.Refusal as code
use Rattle.journal.proofs.Sound.{differ}
use Rattle.consumer.specs.State.{State}
use Rattle.consumer.specs.State as state
use Rattle.consumer.specs.Questions.{Plan}
use Rattle.consumer.specs.View.{view}
use Rattle.checkpoint.specs.Checkpoint.{BlockWritten}
use Rattle.checkpoint.specs.Checkpoint as checkpoint
use Rattle.checkpoint.specs.Writing.{step_of}
use Rattle.starts.specs.Starting.{configuration_of}
use Rattle.starts.specs.Restart as restarts
use Rattle.machine.specs.Calls.{Call, ask, begin, step, restart, look, Event, stepped}
use Rattle.machine.specs.Transitions.{Phase, idle, writing, off, After, gives, left_as, restarted_as, transition}
use Rattle.machine.specs.Answers.{call_of}
use Rattle.machine.specs.View.{phase_of, Sound, after_of, CallKept, held, Held, planned_of}
use Rattle.machine.specs.declared.calls.CallAnswer.{CallAnswer}
use Rattle.machine.specs.declared.calls.CallAnswer.TheVariants as answer
use Rattle.machine.specs.declared.Machine.{Machine}
use Rattle.machine.proofs.Planned.{plan-is-call}
use Rattle.crash_safety.specs.Runs.{keeps_journal}
use Rattle.crash_safety.specs.Ran.{seen}
use Rattle.crash_safety.specs.Disk.{Disk, area, synced, has_header, answers, failed_by}
use Rattle.crash_safety.specs.Unordered.{DiskItem, does, steps_on, OnDisk, on_disk, Then, leads, leads_as, is_on_state, step_seen, with_block, too_early, next_on, run_on, ends_on, fresh_disk, Unordered}
use Rattle.crash_safety.specs.RanOn.{RanOn, rests, asks, plans, steps, steps_not, strays, makes_durable, loses_power, reopens, IsRunOn, RanOnIsRun, UnorderedRan}
use Rattle.crash_safety.specs.RanOn as ran
use Rattle.crash_safety.proofs.Law.{empty_ledger, noted, Law, folded}
use Rattle.crash_safety.proofs.Invariant.{restored}
use Rattle.crash_safety.proofs.Journals.{restart-finds}
use Rattle.crash_safety.proofs.Start.{begins_well}
use Rattle.crash_safety.proofs.Workers.{some_inj}
use Rattle.crash_safety.proofs.Ran.{restarts-alike, fresh-from, not_refused}
use Rattle.crash_safety.proofs.OnDisk.{at-end-on}
use Rattle.crash_safety.proofs.Unordered.{InvOn, sync-kept, kept_on, unordered}

-- ## one item
abbrev Leaves : OnDisk → Option Then → OnDisk → Type 0
Leaves w none v = v ≡ w
Leaves w (some t) v = v ≡ t.world

abbrev seen_by : Option Then → List Event → List Event
seen_by none es = es
seen_by (some t) es = t.seen ++ es

module _ (m m' : Machine) (d d' : Disk) (i : DiskItem) (is : List DiskItem) (es : List Event) (last : Machine) (end : Disk) where
  abbrev here : OnDisk
  here = on_disk (phase_of m) d

  abbrev there : OnDisk
  there = on_disk (phase_of m') d'

  abbrev c : state.Configuration
  c = configuration_of m.configuration

  sees_more : (x : Option Then) → next_on c (phase_of m) d i ≡ x → Leaves here x there → run_on c there is ≡ es → run_on c here (i ∷ is) ≡ seen_by x es
  unfolding run_on
  sees_more none e l h = rw (e, run_on, ← l) h
  sees_more (some t) e l h = rw (e, run_on, ← l, h)

  leaves-more : (x : Option Then) → next_on c (phase_of m) d i ≡ x → Leaves here x there → ends_on c here (i ∷ is) ≡ ends_on c there is
  unfolding ends_on
  leaves-more none e l = rw (e, ends_on, ← l)
  leaves-more (some t) e l = rw (e, ends_on, ← l)

  linked : (x : Option Then) → next_on c (phase_of m) d i ≡ x → Leaves here x there → m'.configuration ≡ m.configuration
      → IsRunOn m' d' is es last end → IsRunOn m d (i ∷ is) (seen_by x es) last end
  linked x e l same h =
      record {
        sees = sees_more x e l (rw (← same) h.sees);
        leaves = leaves-more x e l ∙ rw (← same) h.leaves;
        configuration = h.configuration ∙ same;
        sound = h.sound;
      }

-- ## calls on the state
pub on-state : (c : state.Configuration) (p : Phase) (d : Disk) (q : Call) → is_on_state q ≡ true → has_header d.pending ≡ false
    → next_on c p d (does q) ≡ leads_as [] d (transition c p (area d) q)
unfolding next_on
on-state c p d (ask w q) s e = rw e
on-state c p d (begin w) s e = rw e
on-state c p d step s e = absurd (differ s refl)
on-state c p d restart s e = absurd (differ s refl)

-- what is seen on this disk of what a call makes
seen_as : (d : Disk) (y : Option After) (es : List Event) → seen_by (leads_as [] d y) es ≡ seen y es
seen_as d none es = refl
seen_as d (some t) es = refl

module _ (m m' : Machine) (d : Disk) where
  called-leaves : (q : Call) (a a' out : List ℕ) (x : CallAnswer) → CallKept x (held m a) (held m' a')
      → Leaves (on_disk (phase_of m) d) (leads_as [] d (after_of q x m' a' out)) (on_disk (phase_of m') d)
  called-leaves q a a' out (answer.Asked x) k = refl
  called-leaves q a a' out (answer.Begun x) k = refl
  called-leaves q a a' out (answer.Stepped x) k = refl
  called-leaves q a a' out (answer.Restarted x) k = refl
  called-leaves q a a' out answer.NotNow k = ap (λ (h : Held). on_disk (phase_of h.machine) d) k

  -- other memory is lent
  stray_leaves : (q : Call) (b b' out : List ℕ) (x : CallAnswer) → CallKept x (held m b) (held m' b')
      → Leaves (on_disk (phase_of m) d) (leads_as [] d (keeps_journal (area d) (after_of q x m' b' out))) (on_disk (phase_of m') d)
  stray_leaves q b b' out (answer.Asked x) k = refl
  stray_leaves q b b' out (answer.Begun x) k = refl
  stray_leaves q b b' out (answer.Stepped x) k = refl
  stray_leaves q b b' out (answer.Restarted x) k = refl
  stray_leaves q b b' out answer.NotNow k = ap (λ (h : Held). on_disk (phase_of h.machine) d) k

plan-leaves : (m : Machine) (d : Disk) (os : List ℕ) (room : ℕ) (out : List ℕ) (x : std.Option (std.Result ℕ code.Refusal))
    → Leaves (on_disk (phase_of m) d) (leads_as [] d (planned_of x m os room out (area d))) (on_disk (phase_of m) d)
plan-leaves m d os room out (Some x) = refl
plan-leaves m d os room out None = refl

stray_seen : (d : Disk) (y : Option After) (es : List Event) → seen_by (leads_as [] d (keeps_journal (area d) y)) es ≡ seen y es
stray_seen d none es = refl
stray_seen d (some t) es = refl

-- ## steps
module _ (c : state.Configuration) where
  step-made : (p : Phase) (d : Disk) (x : Result BlockWritten) (p' : Phase) (a' : List ℕ) → too_early p d ≡ false
      → gives (stepped x) p' a' ≡ transition c p (area d) step → next_on c p d (does step) ≡ leads (step_seen x) p' (with_block d x a')
  unfolding next_on transition
  step-made (idle s) d x p' a' z e = absurd (none-ne-some _ (sym e))
  step-made (writing w) d x p' a' z e =
      let r = checkpoint.step w (area d) in
      let outcome : x ≡ r.outcome = let same : stepped x ≡ stepped r.outcome = ap (λ (u : After). u.event) (some_inj e) in cc in
      let phase : p' ≡ left_as r.state.left = ap (λ (u : After). u.phase) (some_inj e) in
      let left : a' ≡ r.state.area = ap (λ (u : After). u.area) (some_inj e) in
      rw (z, outcome, phase, left)
  step-made off d x p' a' z e = absurd (none-ne-some _ (sym e))

  step_not_made : (p : Phase) (d : Disk) → none ≡ transition c p (area d) step → next_on c p d (does step) ≡ none
  unfolding next_on transition
  step_not_made (idle s) d e = refl
  step_not_made (writing w) d e = absurd (none-ne-some _ e)
  step_not_made off d e = refl

-- ## restarts
restart-seen : (d : Disk) (p : Phase) (a : List ℕ) (r : Result State) (es : List Event)
    → seen_by (leads_as (answers d.pending) (synced d) (restarted_as p a r)) es ≡ answers d.pending ++ seen (restarted_as p a r) es
restart-seen d p a (refused f) es = append_assoc (answers d.pending) _ es
restart-seen d p a (done s) es = append_assoc (answers d.pending) _ es

-- the phase that an answer leaves
phase-left : (q : Call) (x : CallAnswer) (m' : Machine) (a' out : List ℕ) (t : After) → after_of q x m' a' out ≡ some t → phase_of m' ≡ t.phase
phase-left q (answer.Asked x) m' a' out t e = ap (λ (u : After). u.phase) (some_inj e)
phase-left q (answer.Begun x) m' a' out t e = ap (λ (u : After). u.phase) (some_inj e)
phase-left q (answer.Stepped x) m' a' out t e = ap (λ (u : After). u.phase) (some_inj e)
phase-left q (answer.Restarted x) m' a' out t e = ap (λ (u : After). u.phase) (some_inj e)
phase-left q answer.NotNow m' a' out t e = absurd (none-ne-some t e)

restart-leaves : (m m' : Machine) (d : Disk) (a' out : List ℕ) (x : CallAnswer) (r : Result State)
    → after_of restart x m' a' out ≡ restarted_as (phase_of m) (area d) r
    → Leaves (on_disk (phase_of m) d) (leads_as (answers d.pending) (synced d) (restarted_as (phase_of m) (area d) r)) (on_disk (phase_of m') (synced d))
restart-leaves m m' d a' out x (refused f) e = ap (λ p. on_disk p (synced d)) (phase-left restart x m' a' out _ e)
restart-leaves m m' d a' out x (done s) e = ap (λ p. on_disk p (synced d)) (phase-left restart x m' a' out _ e)

-- ## every program
runs : {m last : Machine} {d end : Disk} {is : List DiskItem} {es : List Event} → Sound m → RanOn m d is es last end → IsRunOn m d is es last end
unfolding run_on ends_on next_on transition
runs s rests = record { sees = refl; leaves = refl; configuration = refl; sound = s }
runs {m} {last} {d} {end} s (asks {is = is} {es = es} q out r a' out' state-call free h rest) =
    let k = h s in
    let c = configuration_of m.configuration in
    let y : Option After = after_of (call_of (length out) q) r.answer r.machine a' out' in
    rw (← seen_as d y es)
    (linked m r.machine d d _ is es last end (leads_as [] d y) (on-state c (phase_of m) d (call_of (length out) q) state-call free ∙ ap (leads_as [] d) (sym k.is))
    (called-leaves m r.machine d (call_of (length out) q) (area d) a' out' r.answer k.kept) k.configuration (runs k.sound rest))
runs {m} {last} {d} {end} s (plans {is = is} {es = es} w os out r out' g f free h rest) =
    let c = configuration_of m.configuration in
    let y : Option After = planned_of r m os (length out) out' (area d) in
    rw (← seen_as d y es)
    (linked m m d d _ is es last end (leads_as [] d y)
    (on-state c (phase_of m) d (ask w (look (Plan os (length out)))) refl free ∙ ap (leads_as [] d) (sym ((h s).is (area d) ∙ plan-is-call c (phase_of m) (area d) w os out g f)))
    (plan-leaves m d os (length out) out' r) refl (runs s rest))
runs {m} {last} {d} {end} s (steps {is = is} {es = es} out r a' out' x ready h made rest) =
    let k = h s in
    let c = configuration_of m.configuration in
    linked m r.machine d (with_block d (step_of x) a') (does step) is es last end (leads (step_seen (step_of x)) (phase_of r.machine) (with_block d (step_of x) a'))
    (step-made c (phase_of m) d (step_of x) (phase_of r.machine) a' ready (rw made at k.is)) refl k.configuration (runs k.sound rest)
runs {m} {last} {d} {end} s (steps_not {is = is} {es = es} out r a' out' h not_made rest) =
    let k = h s in
    let c = configuration_of m.configuration in
    let same = rw not_made at k.kept in
    linked m r.machine d d (does step) is es last end none (step_not_made c (phase_of m) d (rw not_made at k.is))
    (ap (λ (u : Held). on_disk (phase_of u.machine) d) same) k.configuration (runs k.sound rest)
runs {m} {last} {d} {end} s (strays {is = is} {es = es} b out r b' out' other free h rest) =
    let k = h s in
    let y : Option After = after_of step r.answer r.machine b' out' in
    rw (← stray_seen d y es)
    (linked m r.machine d d (steps_on b) is es last end (leads_as [] d (keeps_journal (area d) y))
    (rw (free, other) (ap (λ z. leads_as [] d (keeps_journal (area d) z)) (sym k.is)))
    (stray_leaves m r.machine d step b b' out' r.answer k.kept) k.configuration (runs k.sound rest))
runs {m} {last} {d} {end} s (makes_durable {is = is} {es = es} rest) =
    linked m m d (synced d) _ is es last end (leads (answers d.pending) (phase_of m) (synced d)) refl refl refl (runs s rest)
runs {m} {last} {d} {end} s (loses_power {is = is} {es = es} ks m' is-off rest) =
    linked m m' d _ _ is es last end _ refl (ap (λ p. on_disk p (failed_by d ks)) is-off.phase) is-off.configuration (runs is-off.sound rest)
runs {m} {last} {d} {end} s (ran.restarts {is = is} {es = es} out r a' out' h rest) =
    let k = h s in
    let c = configuration_of m.configuration in
    let x : Result State = restarts.restart c (area d) in
    rw (k.is, ← restart-seen d (phase_of m) (area d) x es)
    (linked m r.machine d (synced d) (does restart) is es last end (leads_as (answers d.pending) (synced d) (restarted_as (phase_of m) (area d) x)) refl
    (restart-leaves m r.machine d a' out' r.answer x k.is) k.configuration (runs k.sound rest))
runs {m} {last} {d} {end} s (reopens {is = is} {es = es} m' out r a' out' is-off h started rest) =
    let k = h is-off.sound in
    let same : m'.configuration ≡ m.configuration = is-off.configuration in
    let c = configuration_of m.configuration in
    let x : Result State = restarts.restart c (area d) in
    let v : State = view r.machine.writing.consumer in
    let e = restarts-alike (phase_of m) (phase_of m') (phase_of r.machine) (area d) a' v x (rw (same, started) at k.is) in
    let full : restarted_as (phase_of m) (area d) x ≡ after_of restart r.answer r.machine a' out' = rw started e in
    rw (← full, ← restart-seen d (phase_of m) (area d) x es)
    (linked m r.machine d (synced d) (does restart) is es last end (leads_as (answers d.pending) (synced d) (restarted_as (phase_of m) (area d) x)) refl
    (restart-leaves m r.machine d a' out' r.answer x (sym full)) (k.configuration ∙ same) (runs k.sound rest))

pub ran_on-is-run : RanOnIsRun
unfolding RanOnIsRun
ran_on-is-run m d is es last end s r = runs s r

-- ## from a start
pub unordered_ran : UnorderedRan
unfolding UnorderedRan Unordered
unordered_ran s size r h e is es last end p =
    let f = fresh-from s size r h e in
    let c : state.Configuration = configuration_of s in
    let done-so = runs h.sound p in
    let w = fresh_disk f.state size in
    let sees : run_on c w is ≡ es = rw (h.configuration, f.phase) at done-so.sees in
    let leaves : ends_on c w is ≡ on_disk (phase_of last) end = rw (h.configuration, f.phase) at done-so.leaves in
    let b = begins_well c size f.state f.fits f.is in
    let l = folded noted empty_ledger (run_on c w is) in
    let inv : InvOn c size l (on_disk (phase_of last) end) =
    rw leaves at (at-end-on noted (Law c.settings.policy) (InvOn c size) c (kept_on c size b.accepted) is empty_ledger w b.inv) in
    let there = (sync-kept c size l (phase_of last) end.held end.pending inv).inv in
    record {
      holds = rw (← sees) (unordered c size f.state is f.fits f.is);
      reopened = λ m out u a' out' is-off k x g ans fault.
          not_refused c m u.machine (area end) a' out' (restored c size there.saved) x g (restart-finds c size (area end) there.saved b.accepted there.journal)
          (rw (is-off.configuration, ans) at (k is-off.sound).is) fault;
    }
