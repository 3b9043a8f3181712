-- What a server does by the contracts of the exported functions is the run of the same items, so demand 3 holds of it.
-- Assumes nothing.
use Prim.Native.Nat.{ℕ}
use mathlib.Core.Path.{◌≡◌, refl, sym, ap, subst, ◌∙◌}
use mathlib.Core.List.{List, [], ◌∷◌}
use mathlib.Core.Option.{Option, none, some, map, none-ne-some}
use lib.Dec.{eqb}
use lib.ListN.{length, replicate}
use Rattle.types.specs.Refusal.{Result, refused, done}
use Rattle.types.specs.Refusal as refusal
use Rattle.types.specs.Table.{Passed}
use Rattle.types.proofs.Cases.{split, both}
use Rattle.types.proofs.Refusal.{number_not_0}
use Rattle.consumer.specs.State.{State}
use Rattle.consumer.specs.State as state
use Rattle.consumer.specs.Export.{Snapshots}
use Rattle.consumer.specs.declared.Configuration.{Configuration}
use Rattle.starts.specs.Starting.{configuration_of}
use Rattle.starts.specs.Restart as restarts
use Rattle.starts.specs.Restart.{start_table, start}
use Rattle.starts.proofs.Zeros.{start-restart}
use Rattle.machine.specs.Calls.{Call, ask, step, restart, u64}
use Rattle.machine.specs.Transitions.{Phase, idle, writing, off, After, restarted_as, transition}
use Rattle.machine.specs.View.{phase_of, Sound, OffIs, plan_after, export_after}
use Rattle.machine.specs.declared.Machine.{Machine}
use Rattle.machine.proofs.Planned.{plan-is-call}
use Rattle.machine.proofs.Exported.{export-is-call}
use Rattle.answers.specs.Numbers.{numbers_of, no_values, numbers_in}
use Rattle.answers.specs.declared.Numbers.{Numbers}
use Rattle.power_cut.specs.Cut.{Cut, old, new, torn, is_torn, cut_at, power_cut}
use Rattle.server.specs.Kinds.{ask_at, call_at}
use Rattle.server.specs.Transitions.{Answered, answered_with, answered_by, on_call, StartedAs, StartIs, CallIs}
use Rattle.server.proofs.Found.{on-state}
use Rattle.server.proofs.AsCalls.{ask-is-call}
use Rattle.server.proofs.Planned.{plan-transition}
use Rattle.server.proofs.Snapshots.{export-transition}
use Rattle.crash_safety.specs.Runs.{Item, call, step_on, cut, World, world, keeps_journal, next, after, run, ends, fresh_world}
use Rattle.crash_safety.specs.Book.{Page, empty_book}
use Rattle.crash_safety.specs.Demand3.{delivers, is_under, Finds, restarts_in, limit_of, threshold_of, Limited, Demand3}
use Rattle.crash_safety.specs.Batch.{is_repeated, different_offsets, WithinBatch, BatchBound}
use Rattle.crash_safety.specs.Totals.{is_delivery, BatchTotal}
use Rattle.crash_safety.proofs.Workers.{some_inj}
use Rattle.crash_safety.proofs.Invariant.{Inv}
use Rattle.crash_safety.proofs.Journals.{restart-finds}
use Rattle.crash_safety.proofs.Law.{Ledger, empty_ledger, noted, Law, folded, folded-book}
use Rattle.crash_safety.proofs.Runs.{at-end}
use Rattle.crash_safety.proofs.Kept.{item-kept}
use Rattle.crash_safety.proofs.Start.{begins_well}
use Rattle.crash_safety.proofs.Demand3.{demand_3}
use Rattle.crash_safety.proofs.Batch.{batch-bound}
use Rattle.crash_safety.proofs.Totals.{batch-total}
use Rattle.crash_safety.proofs.Ran.{fresh-fits}
use Rattle.served.specs.Served.{Served, rests, asks, asks_nothing, plans, exports, begins, steps, strays, fails, reopens, answered_as, left_by, answers_to, IsServed, ServedIsRun, Found, FindsCopy, Begins, starts, opens, Demand3Served, Demand3Opened}
use Rattle.served.specs.Served as served
use Rattle.served.proofs.Told.{told_same, restarts-answered}

-- ## one item
ends_more : (c : state.Configuration) (w : World) (i : Item) (is : List Item) → ends c w (i ∷ is) ≡ ends c (left_by w (next c w i)) is
unfolding ends
ends_more c w i is = from (next c w i)
  where
    from : (x : Option After) → elim x [ none ↦ ends c w is | some t ↦ ends c (after t) is ] ≡ ends c (left_by w x) is
    from none = refl
    from (some t) = refl

-- what a machine and a journal stand for after a call
abbrev pub Stands : Machine → List ℕ → Machine → List ℕ → Option After → Type 0
Stands m a m' a' x = world (phase_of m') a' ≡ left_by (world (phase_of m) a) x

pub stands : (m m' : Machine) (a a' out out' : List ℕ) (n : Numbers) (x : Option After) → answered_with n (phase_of m') a' out' ≡ answered_by (phase_of m) a out x
    → (n ≡ numbers_in x) × Stands m a m' a' x
stands m m' a a' out out' n none e = (ap (λ (r : Answered). r.numbers) e, ap (λ (r : Answered). world r.phase r.area) e)
stands m m' a a' out out' n (some t) e = (ap (λ (r : Answered). r.numbers) e, ap (λ (r : Answered). world r.phase r.area) e)

module _ (m m' : Machine) (a a' : List ℕ) (i : Item) (is : List Item) (ns : List Numbers) (last : Machine) (end : List ℕ) where
  linked : m'.configuration ≡ m.configuration → Stands m a m' a' (next (configuration_of m.configuration) (world (phase_of m) a) i)
      → IsServed m' a' is ns last end
      → IsServed m a (i ∷ is) (answered_as i (next (configuration_of m.configuration) (world (phase_of m) a) i) ns) last end
  unfolding answers_to
  linked c s h =
      record {
        answers = ap (answered_as i (next (configuration_of m.configuration) (world (phase_of m) a) i)) (rw (← s) (subst (λ (x : Configuration). answers_to (configuration_of x) (world (phase_of m') a') is ≡ ns) c h.answers));
        leaves = ends_more (configuration_of m.configuration) (world (phase_of m) a) i is ∙ rw (← s, ← c) h.leaves;
        configuration = h.configuration ∙ c;
        sound = h.sound;
      }

-- ## what is lent, looked at or left
-- other memory is lent, and the journal stays
pub stray_stands : (m m' : Machine) (a b b' : List ℕ) (x : Option After) → Stands m b m' b' x → Stands m a m' a (keeps_journal a x)
stray_stands m m' a b b' none e = ap (λ (w : World). world w.phase a) e
stray_stands m m' a b b' (some t) e = ap (λ (w : World). world w.phase a) e

pub stray_numbers : (a : List ℕ) (x : Option After) → numbers_in x ≡ numbers_in (keeps_journal a x)
stray_numbers a none = refl
stray_numbers a (some t) = refl

-- a plan leaves all as it is, and so does an export
pub plan-leaves : (p : Phase) (a : List ℕ) (w : ℕ) (os out : List ℕ) → world p a ≡ left_by (world p a) (plan_after p a w os out)
plan-leaves (idle s) a w os out = refl
plan-leaves (writing r) a w os out = refl
plan-leaves off a w os out = refl

export-leaves : (p : Phase) (a : List ℕ) (w : ℕ) (out : Snapshots) → world p a ≡ left_by (world p a) (export_after p a w out)
export-leaves (idle s) a w out = refl
export-leaves (writing r) a w out = refl
export-leaves off a w out = refl

-- after a power failure nobody can be called until a restart
cut_off : (p : Phase) (a : List ℕ) (k : Cut) (t : After) → power_cut p a k ≡ some t → t.phase ≡ off
cut_off (idle s) a k t e = absurd (none-ne-some _ e)
cut_off (writing w) a k t e =
    split (eqb (length a) w.state.size)
    (λ h. at_block k (rw h at e))
    (λ h. absurd (none-ne-some _ (rw h at e)))
  where
    at_block : (k : Cut) → cut_at w a k ≡ some t → t.phase ≡ off
    at_block old e = ap (λ (u : After). u.phase) (some_inj (sym e))
    at_block new e = ap (λ (u : After). u.phase) (some_inj (sym e))
    at_block (torn b) e =
        split (is_torn b)
        (λ h. ap (λ (u : After). u.phase) (some_inj (sym (rw h at e))))
        (λ h. absurd (none-ne-some _ (rw h at e)))
cut_off off a k t e = absurd (none-ne-some _ e)

-- ## restarts
-- one that is not refused is the same whoever could be called before
pub restarts-alike : (p q p' : Phase) (a out : List ℕ) (n : Numbers) (r : Result State) → n.0 ≡ 0 → answered_with n p' a out ≡ answered_by q a out (restarted_as q a r)
    → answered_with n p' a out ≡ answered_by p a out (restarted_as p a r)
restarts-alike p q p' a out n (refused f) z e = absurd (number_not_0 f (sym (ap (λ (x : Answered). x.numbers.0) e) ∙ z))
restarts-alike p q p' a out n (done s) z e = e

-- ## every server
module _ (m m' : Machine) (a a' : List ℕ) (i : Item) (is : List Item) (n : Numbers) (ns : List Numbers) (last : Machine) (end out out' : List ℕ) where
  -- an item that is answered, by what its function's contract says
  answered : (x : Option After) → next (configuration_of m.configuration) (world (phase_of m) a) i ≡ x
      → ((l : List Numbers) → answered_as i x l ≡ numbers_in x ∷ l)
      → m'.configuration ≡ m.configuration → answered_with n (phase_of m') a' out' ≡ answered_by (phase_of m) a out x → IsServed m' a' is ns last end
      → IsServed m a (i ∷ is) (n ∷ ns) last end
  answered x is-next told c e h =
      let s = stands m m' a a' out out' n x e in
      rw (s.0, ← told ns, ← is-next) (linked m m' a a' i is ns last end c (rw is-next s.1) h)

pub serves : {m last : Machine} {a end : List ℕ} {is : List Item} {ns : List Numbers} → Sound m → Served m a is ns last end → IsServed m a is ns last end
unfolding answers_to ends next transition
serves s rests = record { answers = refl; leaves = refl; configuration = refl; sound = s }
serves {m} {last} {a} {end} s (asks {is = is} {ns = ns} w kind x y z d out q n m' out' fit found h rest) =
    let c = configuration_of m.configuration in
    let f0 = both (u64 w) _ fit in
    let f1 = both (u64 x) _ f0.1 in
    let f2 = both (u64 y) _ f1.1 in
    let f3 = both (u64 z) _ f2.1 in
    let f4 = both (u64 d) _ f3.1 in
    let own : (k : ℕ) → ask_at k x y z d (length out) ≡ none → kind ≡ k → ⊥ = λ k none_at e. none-ne-some q (sym none_at ∙ rw e at found) in
    let k = ask-is-call w x y z d f0.0 f1.0 f2.0 f3.0 f4.0 m kind out n m' out' (own 16 refl) (own 17 refl) (own 18 refl) (h s) a in
    let at : call_at w kind x y z d (length out) ≡ some (ask w q) = sym (on-state w x y z d (length out) kind (own 16 refl) (own 17 refl) (own 18 refl)) ∙ ap (map (ask w)) found in
    answered m m' a a (call (ask w q)) is n ns last end out out' (transition c (phase_of m) a (ask w q)) refl (λ l. refl) k.configuration
    (k.is ∙ ap (λ (o : Option Call). answered_by (phase_of m) a out (on_call o (transition c (phase_of m) a))) at) (serves k.sound rest)
serves {m} {last} {a} {end} {is} {ns} s (asks_nothing w kind x y z d out n m' out' found h rest) =
    let k = h s in
    let same : m' ≡ m = rw found at k.kept in
    subst (λ (u : Machine). IsServed u a is ns last end) same (serves k.sound rest)
serves {m} {last} {a} {end} s (plans {is = is} {ns = ns} w os out n m' out' fit-w fit h rest) =
    let k = h s in
    let c = configuration_of m.configuration in
    let same : m' ≡ m = k.kept in
    let e = plan-is-call c (phase_of m) a w os out fit-w fit in
    rw (plan-transition m w os out n m' out' k fit-w fit a)
    (linked m m' a a _ is ns last end (ap (λ (u : Machine). u.configuration) same)
    (ap (λ (u : Machine). world (phase_of u) a) same ∙ plan-leaves (phase_of m) a w os out ∙ ap (left_by (world (phase_of m) a)) e) (serves (subst Sound (sym same) s) rest))
serves {m} {last} {a} {end} s (exports {is = is} {ns = ns} w out n m' out' fit h rest) =
    let k = h s in
    let c = configuration_of m.configuration in
    let same : m' ≡ m = k.kept in
    let e = export-is-call c (phase_of m) a w out fit in
    rw (export-transition m w out n m' out' k fit a)
    (linked m m' a a _ is ns last end (ap (λ (u : Machine). u.configuration) same)
    (ap (λ (u : Machine). world (phase_of u) a) same ∙ export-leaves (phase_of m) a w out ∙ ap (left_by (world (phase_of m) a)) e) (serves (subst Sound (sym same) s) rest))
serves {m} {last} {a} {end} s (begins {is = is} {ns = ns} w n m' h rest) =
    let k = h s a [] in
    answered m m' a a _ is n ns last end [] [] _ refl (λ l. refl) k.configuration k.is (serves k.sound rest)
serves {m} {last} {a} {end} s (steps {is = is} {ns = ns} n m' a' h rest) =
    let k = h s [] in
    answered m m' a a' _ is n ns last end [] [] _ refl (λ l. refl) k.configuration k.is (serves k.sound rest)
serves {m} {last} {a} {end} s (strays {is = is} {ns = ns} b n m' b' other h rest) =
    let k = h s [] in
    let x = transition (configuration_of m.configuration) (phase_of m) b step in
    let e = stands m m' b b' [] [] n x k.is in
    let there : next (configuration_of m.configuration) (world (phase_of m) a) (step_on b) ≡ keeps_journal a x = rw other in
    rw (e.0 ∙ stray_numbers a x)
    (subst (λ (y : Option After). IsServed m a (step_on b ∷ is) (answered_as (step_on b) y ns) last end) there
    (linked m m' a a (step_on b) is ns last end k.configuration (rw other (stray_stands m m' a b b' x e.1)) (serves k.sound rest)))
serves {m} {last} {a} {end} s (served.restarts {is = is} {ns = ns} n m' h rest) =
    let k = h s [] in
    answered m m' a a _ is n ns last end [] [] _ refl (λ l. refl) k.configuration k.is (serves k.sound rest)
serves {m} {last} {a} {end} s (fails {is = is} {ns = ns} k t m' e is-off rest) =
    linked m m' a t.area (cut k) is ns last end is-off.configuration
    (rw (e, is-off.phase, cut_off (phase_of m) a k t e)) (serves is-off.sound rest)
serves {m} {last} {a} {end} s (reopens {is = is} {ns = ns} m' n m'' is-off h zero_number rest) =
    let k = h is-off.sound [] in
    let c = configuration_of m.configuration in
    let same : m'.configuration ≡ m.configuration = is-off.configuration in
    answered m m'' a a _ is n ns last end [] [] _ refl (λ l. refl) (k.configuration ∙ same)
    (restarts-alike (phase_of m) (phase_of m') (phase_of m'') a [] n (restarts.restart c a) zero_number (rw same at k.is)) (serves k.sound rest)

pub served_is-run : ServedIsRun
unfolding ServedIsRun
served_is-run m a is ns last end s r = serves s r

-- ## from a start
-- what an accepted one gives
pub record Fresh (s : Configuration) (size : ℕ) (m : Machine) : Type 0 where
  pub state : State
  pub is : start (configuration_of s) size ≡ done state
  pub phase : phase_of m ≡ idle state
  pub configuration : m.configuration ≡ s
  pub sound : Sound m

pub started : (before : Machine) (s : Configuration) (size : ℕ) (n : Numbers) (m : Machine) → StartIs before s size n m → n.0 ≡ 0 → Fresh s size m
started before s size n m h accepted = from (start (configuration_of s) size) refl h.is h.made
  where
    from : (r : Result State) → start (configuration_of s) size ≡ r → n ≡ numbers_of (refusal.answered no_values r) → StartedAs r s before m → Fresh s size m
    from (refused f) e is made = absurd (number_not_0 f (sym (ap (λ (x : Numbers). x.0) is) ∙ accepted))
    from (done v) e is made = record { state = v; is = e; phase = made.0; configuration = made.1; sound = made.2 }

-- so does a restart on a zeroed journal
pub opened : (s : Configuration) (size : ℕ) (m : Machine) (n : Numbers) (m' : Machine) → OffIs s m → CallIs m 0 18 0 0 0 0 (replicate size 0) [] n m' (replicate size 0) [] → n.0 ≡ 0
    → Fresh s size m'
unfolding transition
opened s size m n m' is-off k accepted = from (restarts.restart c a) refl (rw is-off.configuration at k.is)
  where
    c : state.Configuration
    c = configuration_of s

    a : List ℕ
    a = replicate size 0

    from : (r : Result State) → restarts.restart c a ≡ r → answered_with n (phase_of m') a [] ≡ answered_by (phase_of m) a [] (restarted_as (phase_of m) a r) → Fresh s size m'
    from (refused f) e is = absurd (number_not_0 f (sym (ap (λ (x : Answered). x.numbers.0) is) ∙ accepted))
    from (done v) e is =
        record {
          state = v;
          is = start-restart c size ∙ e;
          phase = ap (λ (x : Answered). x.phase) is;
          configuration = k.configuration ∙ is-off.configuration;
          sound = k.sound;
        }

pub begun : (s : Configuration) (size : ℕ) (m : Machine) → Begins s size m → Fresh s size m
begun s size m (starts before n h accepted) = started before s size n m h accepted
begun s size m (opens before n is-off h accepted) = opened s size before n m is-off (h is-off.sound []) accepted

-- a restart that finds a state
pub restart-found : (p : Phase) (m' : Machine) (a : List ℕ) (n : Numbers) (q : Page) (v : State) → answered_with n (phase_of m') a [] ≡ answered_by p a [] (restarted_as p a (done v))
    → Finds q v → Found q n m'
restart-found p m' a n q v e finds =
    record {
      answered = ap (λ (x : Answered). x.numbers.0) e;
      state = v;
      callable = ap (λ (x : Answered). x.phase) e;
      finds = finds;
    }

-- and after any list from within the invariant
pub copy-found : (s : Configuration) (size : ℕ) → Passed (start_table (configuration_of s) size) → (l : Ledger) (w : World) → Inv (configuration_of s) size l w
    → (is : List Item) (p : Phase) (end : List ℕ) → ends (configuration_of s) w is ≡ world p end
    → FindsCopy s l.book (run (configuration_of s) w is) end
unfolding transition
copy-found s size accepted l w begun_so is p end leaves m n m' sound is-s made =
    let c : state.Configuration = configuration_of s in
    let es = run c w is in
    let inv : Inv c size (folded noted l es) (world p end) =
    rw leaves at (at-end noted (Law c.settings.policy) (Inv c size) c (item-kept c size accepted) is l w begun_so) in
    let finds = restart-finds c size end inv.saved accepted inv.journal in
    restart-found (phase_of m) m' end n _ _ (rw (is-s, finds) at (made sound []).is) (rw (← folded-book es l) inv.finds)

pub demand_3_served : Demand3Served
unfolding Demand3Served Demand3 BatchBound BatchTotal different_offsets
demand_3_served s size m how is ns last end p =
    let f = begun s size m how in
    let c : state.Configuration = configuration_of s in
    let w : World = fresh_world f.state size in
    let done-so = serves f.sound p in
    let fits = fresh-fits c size m f.state f.is f.phase f.sound in
    let answers : answers_to c w is ≡ ns = rw (f.configuration, f.phase) at done-so.answers in
    let b = begins_well c size f.state fits f.is in
    let holds = demand_3 c size f.state is fits f.is in
    let batch : Limited c → WithinBatch (limit_of c) (threshold_of c) (restarts_in is) (run c w is) = λ l. batch-bound c size f.state is l fits f.is in
    let same = told_same c is w in
    let found : FindsCopy s empty_book (run c w is) end =
    copy-found s size b.accepted empty_ledger w b.inv is (phase_of last) end (rw (f.configuration, f.phase) at done-so.leaves) in
    record {
      numbers = rw (← answers) (record {
        bound = λ l o. rw (same.hands (delivers o)) (holds.bound l o);
        generations = λ g. rw (same.hands (is_under g)) (holds.generations g);
        batch = λ l. rw (same.hands is_repeated, same.offsets) (batch l);
        total = λ l. rw (same.hands is_delivery, same.offsets) ((batch-total c size f.state is fits f.is).total l);
        restarts = restarts-answered c is w empty_book holds.found;
      });
      fresh = f.state;
      is-fresh = f.is;
      answers = answers;
      holds = holds;
      batch = batch;
      sound = done-so.sound;
      configuration = done-so.configuration ∙ f.configuration;
      found = found;
      reopened = λ u k u' is-off made. (found u k u' is-off.sound is-off.configuration made).answered;
    }

pub demand_3_opened : Demand3Opened
unfolding Demand3Opened Demand3Served
demand_3_opened s size m n m' is-off h accepted = demand_3_served s size m' (opens m n is-off h accepted)
