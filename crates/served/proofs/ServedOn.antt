-- What a server does by the contracts of the exported functions, on a disk that keeps no order between two syncs, is the run of the same items;
-- so demand 3 holds of it. Assumes nothing.
use Prim.Native.Nat.{ℕ}
use mathlib.Core.Path.{◌≡◌, refl, sym, ap, subst, ◌∙◌}
use mathlib.Core.Bool.{Bool, true, false}
use mathlib.Core.List.{List, [], ◌∷◌, ◌++◌}
use mathlib.Core.Option.{Option, none, some, map, none-ne-some}
use lib.Dec.{eqb}
use lib.ListN.{length}
use borrow.Author.Tests.{ne_eqb}
use Rattle.types.specs.Refusal.{Result, refused, done, answered, numbered}
use Rattle.types.specs.Table.{Passed}
use Rattle.types.proofs.Cases.{both}
use Rattle.types.proofs.Refusal.{number_not_0}
use Rattle.consumer.specs.State.{State}
use Rattle.consumer.specs.State as state
use Rattle.consumer.specs.Questions.{Plan, bit}
use Rattle.consumer.specs.declared.Configuration.{Configuration}
use Rattle.checkpoint.specs.Checkpoint.{BlockWritten}
use Rattle.checkpoint.specs.Checkpoint as checkpoint
use Rattle.starts.specs.Starting.{configuration_of}
use Rattle.starts.specs.Restart as restarts
use Rattle.starts.specs.Restart.{start_table}
use Rattle.machine.specs.Calls.{Call, ask, begin, step, restart, look, u64}
use Rattle.machine.specs.Transitions.{Phase, idle, writing, off, After, left_as, restarted_as, transition}
use Rattle.machine.specs.View.{phase_of, Sound}
use Rattle.machine.specs.declared.Machine.{Machine}
use Rattle.machine.proofs.Planned.{plan-is-call}
use Rattle.answers.specs.Numbers.{numbers_of, wrote_values, numbers_in}
use Rattle.answers.specs.declared.Numbers.{Numbers}
use Rattle.server.specs.Kinds.{ask_at, call_at}
use Rattle.server.specs.Transitions.{Answered, answered_by, on_call}
use Rattle.server.proofs.Found.{on-state}
use Rattle.server.proofs.AsCalls.{ask-is-call}
use Rattle.server.proofs.Planned.{plan-transition}
use Rattle.crash_safety.specs.Runs.{World, world, keeps_journal}
use Rattle.crash_safety.specs.Disk.{Disk, area, synced, failed_by, answers}
use Rattle.crash_safety.specs.Unordered.{DiskItem, does, steps_on, syncs, fails, OnDisk, on_disk, Then, leads_as, with_block, too_early, next_on, run_on, ends_on, fresh_disk, Unordered}
use Rattle.crash_safety.proofs.Law.{Ledger, empty_ledger, noted, Law, folded, folded-book}
use Rattle.crash_safety.proofs.Journals.{restart-finds}
use Rattle.crash_safety.proofs.Start.{begins_well}
use Rattle.crash_safety.proofs.OnDisk.{folded-append, at-end-on}
use Rattle.crash_safety.proofs.Unordered.{InvOn, sync-kept, kept_on, unordered}
use Rattle.crash_safety.proofs.Ran.{fresh-fits}
use Rattle.crash_safety.proofs.RanOn as ran
use Rattle.served.specs.Served.{left_by, FindsCopy}
use Rattle.served.specs.ServedOn.{written_by, ServedOn, rests, asks, asks_nothing, plans, begins, steps, strays, makes_durable, loses_power, reopens, answer_on, left_on, answers_on, IsServedOn, ServedOnIsRun, UnorderedServed}
use Rattle.served.specs.ServedOn as served
use Rattle.served.proofs.Served.{Stands, stands, stray_stands, stray_numbers, plan-leaves, restarts-alike, begun, restart-found}

-- ## one item
ends_more : (c : state.Configuration) (w : OnDisk) (i : DiskItem) (is : List DiskItem)
    → ends_on c w (i ∷ is) ≡ ends_on c (left_on w (next_on c w.phase w.disk i)) is
unfolding ends_on
ends_more c w i is = from (next_on c w.phase w.disk i)
  where
    from : (x : Option Then) → elim x [ none ↦ ends_on c w is | some t ↦ ends_on c t.world is ] ≡ ends_on c (left_on w x) is
    from none = refl
    from (some t) = refl

module _ (m m' : Machine) (d d' : Disk) (i : DiskItem) (is : List DiskItem) (ns : List Numbers) (last : Machine) (end : Disk) where
  abbrev c : state.Configuration
  c = configuration_of m.configuration

  linked : m'.configuration ≡ m.configuration → on_disk (phase_of m') d' ≡ left_on (on_disk (phase_of m) d) (next_on c (phase_of m) d i)
      → IsServedOn m' d' is ns last end → IsServedOn m d (i ∷ is) (answer_on c (phase_of m) d i ++ ns) last end
  unfolding answers_on
  linked same s h =
      record {
        answers = ap (λ l. answer_on c (phase_of m) d i ++ l) (rw (← s) (subst (λ (x : Configuration). answers_on (configuration_of x) (on_disk (phase_of m') d') is ≡ ns) same h.answers));
        leaves = ends_more c (on_disk (phase_of m) d) i is ∙ rw (← s, ← same) h.leaves;
        configuration = h.configuration ∙ same;
        sound = h.sound;
      }

-- what a call on the area leaves on the disk
stands_on : (m m' : Machine) (d : Disk) (a a' : List ℕ) (x : Option After) → Stands m a m' a' x
    → on_disk (phase_of m') d ≡ left_on (on_disk (phase_of m) d) (leads_as [] d x)
stands_on m m' d a a' none e = ap (λ (w : World). on_disk w.phase d) e
stands_on m m' d a a' (some t) e = ap (λ (w : World). on_disk w.phase d) e

-- a restart is always made, or refused
restart-stands : (m m' : Machine) (p : Phase) (d : Disk) (a a' : List ℕ) (r : Result State)
    → world (phase_of m') a' ≡ left_by (world p a) (restarted_as p a r)
    → on_disk (phase_of m') (synced d) ≡ left_on (on_disk p d) (leads_as (answers d.pending) (synced d) (restarted_as p a r))
restart-stands m m' p d a a' (refused f) e = ap (λ (w : World). on_disk w.phase (synced d)) e
restart-stands m m' p d a a' (done s) e = ap (λ (w : World). on_disk w.phase (synced d)) e

-- ## a step
-- the block that the numbers name
bit-read : (b : Bool) → eqb (bit b) 1 ≡ b
bit-read true = refl
bit-read false = refl

step-written : (d : Disk) (r : Result BlockWritten) (a : List ℕ) → written_by d (numbers_of (answered wrote_values r)) a ≡ with_block d r a
step-written d (refused f) a = rw (ne_eqb (numbered f).number 0 (number_not_0 f))
step-written d (done b) a = rw (bit-read b.last)

step-stands : (c : state.Configuration) (m m' : Machine) (p : Phase) (d : Disk) (a' : List ℕ) (n : Numbers) → too_early p d ≡ false
    → n ≡ numbers_in (transition c p (area d) step) → world (phase_of m') a' ≡ left_by (world p (area d)) (transition c p (area d) step)
    → on_disk (phase_of m') (written_by d n a') ≡ left_on (on_disk p d) (next_on c p d (does step))
unfolding transition next_on
step-stands c m m' (idle s) d a' n z is e = rw is (ap (λ (w : World). on_disk w.phase d) e)
step-stands c m m' (writing w) d a' n z is e =
    let r = checkpoint.step w (area d) in
    let phase : phase_of m' ≡ left_as r.state.left = ap (λ (v : World). v.phase) e in
    let left : a' ≡ r.state.area = ap (λ (v : World). v.journal) e in
    rw (z, is, step-written d r.outcome a', phase, left)
step-stands c m m' off d a' n z is e = rw is (ap (λ (w : World). on_disk w.phase d) e)

-- ## every server
pub serves : {m last : Machine} {d end : Disk} {is : List DiskItem} {ns : List Numbers} → Sound m → ServedOn m d is ns last end
    → IsServedOn m d is ns last end
unfolding answers_on ends_on next_on transition
serves s rests = record { answers = refl; leaves = refl; configuration = refl; sound = s }
serves {m} {last} {d} {end} s (asks {is = is} {ns = ns} w kind x y z delay out q n m' out' fit found free h rest) =
    let c = configuration_of m.configuration in
    let a : List ℕ = area d in
    let f0 = both (u64 w) _ fit in
    let f1 = both (u64 x) _ f0.1 in
    let f2 = both (u64 y) _ f1.1 in
    let f3 = both (u64 z) _ f2.1 in
    let f4 = both (u64 delay) _ f3.1 in
    let own : (k : ℕ) → ask_at k x y z delay (length out) ≡ none → kind ≡ k → ⊥ = λ k none_at e. none-ne-some q (sym none_at ∙ rw e at found) in
    let k = ask-is-call w x y z delay f0.0 f1.0 f2.0 f3.0 f4.0 m kind out n m' out' (own 16 refl) (own 17 refl) (own 18 refl) (h s) a in
    let at : call_at w kind x y z delay (length out) ≡ some (ask w q) =
    sym (on-state w x y z delay (length out) kind (own 16 refl) (own 17 refl) (own 18 refl)) ∙ ap (map (ask w)) found in
    let e = stands m m' a a out out' n (transition c (phase_of m) a (ask w q))
    (k.is ∙ ap (λ (o : Option Call). answered_by (phase_of m) a out (on_call o (transition c (phase_of m) a))) at) in
    rw e.0
    (linked m m' d d (does (ask w q)) is ns last end k.configuration
    (rw (ran.on-state c (phase_of m) d (ask w q) refl free) (stands_on m m' d a a (transition c (phase_of m) a (ask w q)) e.1)) (serves k.sound rest))
serves {m} {last} {d} {end} {is} {ns} s (asks_nothing w kind x y z delay out n m' out' found h rest) =
    let k = h s in
    let same : m' ≡ m = rw found at k.kept in
    subst (λ (u : Machine). IsServedOn u d is ns last end) same (serves k.sound rest)
serves {m} {last} {d} {end} s (plans {is = is} {ns = ns} w os out n m' out' fit-w fit free h rest) =
    let k = h s in
    let c = configuration_of m.configuration in
    let a : List ℕ = area d in
    let same : m' ≡ m = k.kept in
    let e = plan-is-call c (phase_of m) a w os out fit-w fit in
    let q : Call = ask w (look (Plan os (length out))) in
    let there : Stands m a m' a (transition c (phase_of m) a q) =
    ap (λ (u : Machine). world (phase_of u) a) same ∙ plan-leaves (phase_of m) a w os out ∙ ap (left_by (world (phase_of m) a)) e in
    rw (plan-transition m w os out n m' out' k fit-w fit a)
    (linked m m' d d (does q) is ns last end (ap (λ (u : Machine). u.configuration) same)
    (rw (ran.on-state c (phase_of m) d q refl free) (stands_on m m' d a a (transition c (phase_of m) a q) there)) (serves (subst Sound (sym same) s) rest))
serves {m} {last} {d} {end} s (begins {is = is} {ns = ns} w n m' free h rest) =
    let a : List ℕ = area d in
    let k = h s a [] in
    let c = configuration_of m.configuration in
    let e = stands m m' a a [] [] n (transition c (phase_of m) a (begin w)) k.is in
    rw e.0
    (linked m m' d d (does (begin w)) is ns last end k.configuration
    (rw (ran.on-state c (phase_of m) d (begin w) refl free) (stands_on m m' d a a (transition c (phase_of m) a (begin w)) e.1)) (serves k.sound rest))
serves {m} {last} {d} {end} s (steps {is = is} {ns = ns} n m' a' ready h rest) =
    let k = h s [] in
    let c = configuration_of m.configuration in
    let e = stands m m' (area d) a' [] [] n (transition c (phase_of m) (area d) step) k.is in
    subst (λ (x : Numbers). IsServedOn m d (does step ∷ is) (x ∷ ns) last end) (sym e.0)
    (linked m m' d (written_by d n a') (does step) is ns last end k.configuration
    (step-stands c m m' (phase_of m) d a' n ready e.0 e.1) (serves k.sound rest))
serves {m} {last} {d} {end} s (strays {is = is} {ns = ns} b n m' b' other free h rest) =
    let k = h s [] in
    let a : List ℕ = area d in
    let x = transition (configuration_of m.configuration) (phase_of m) b step in
    let e = stands m m' b b' [] [] n x k.is in
    rw (e.0 ∙ stray_numbers a x)
    (rw other at (linked m m' d d (steps_on b) is ns last end k.configuration
    (rw (free, other) (stands_on m m' d a a (keeps_journal a x) (stray_stands m m' a b b' x e.1))) (serves k.sound rest)))
serves {m} {last} {d} {end} s (makes_durable {is = is} {ns = ns} rest) = linked m m d (synced d) syncs is ns last end refl refl (serves s rest)
serves {m} {last} {d} {end} s (served.restarts {is = is} {ns = ns} n m' h rest) =
    let k = h s [] in
    let c = configuration_of m.configuration in
    let a : List ℕ = area d in
    let e = stands m m' a a [] [] n (transition c (phase_of m) a restart) k.is in
    rw e.0
    (linked m m' d (synced d) (does restart) is ns last end k.configuration
    (restart-stands m m' (phase_of m) d a a (restarts.restart c a) e.1) (serves k.sound rest))
serves {m} {last} {d} {end} s (loses_power {is = is} {ns = ns} ks m' is-off rest) =
    linked m m' d (failed_by d ks) (fails ks) is ns last end is-off.configuration
    (ap (λ p. on_disk p (failed_by d ks)) is-off.phase) (serves is-off.sound rest)
serves {m} {last} {d} {end} s (reopens {is = is} {ns = ns} m' n m'' is-off h zero_number rest) =
    let k = h is-off.sound [] in
    let a : List ℕ = area d in
    let c = configuration_of m.configuration in
    let same : m'.configuration ≡ m.configuration = is-off.configuration in
    let e = stands m m'' a a [] [] n (transition c (phase_of m) a restart)
    (restarts-alike (phase_of m) (phase_of m') (phase_of m'') a [] n (restarts.restart c a) zero_number (rw same at k.is)) in
    rw e.0
    (linked m m'' d (synced d) (does restart) is ns last end (k.configuration ∙ same)
    (restart-stands m m'' (phase_of m) d a a (restarts.restart c a) e.1) (serves k.sound rest))

pub served_on-is-run : ServedOnIsRun
unfolding ServedOnIsRun
served_on-is-run m d is ns last end s r = serves s r

-- ## a restart after a sync finds the copy, renewed by what was pending
pub copy-found : (s : Configuration) (size : ℕ) → Passed (start_table (configuration_of s) size) → (l : Ledger) (w : OnDisk) → InvOn (configuration_of s) size l w
    → (is : List DiskItem) (p : Phase) (end : Disk) → ends_on (configuration_of s) w is ≡ on_disk p end
    → FindsCopy s l.book (run_on (configuration_of s) w is ++ answers end.pending) (area end)
unfolding transition
copy-found s size accepted l w begun_so is p end leaves m n m' sound is-s made =
    let c : state.Configuration = configuration_of s in
    let es = run_on c w is in
    let k = folded noted l es in
    let inv : InvOn c size k (on_disk p end) =
    rw leaves at (at-end-on noted (Law c.settings.policy) (InvOn c size) c (kept_on c size accepted) is l w begun_so) in
    let there = (sync-kept c size k p end.held end.pending inv).inv in
    let finds = restart-finds c size (area end) there.saved accepted there.journal in
    let books = sym (folded-book (es ++ answers end.pending) l) ∙ ap (λ (x : Ledger). x.book) (folded-append noted es (answers end.pending) l) in
    restart-found (phase_of m) m' (area end) n _ _ (rw (is-s, finds) at (made sound []).is) (rw books there.finds)

-- ## from a start
pub unordered_served : UnorderedServed
unfolding UnorderedServed Unordered
unordered_served s size m how is ns last end p =
    let f = begun s size m how in
    let c : state.Configuration = configuration_of s in
    let done-so = serves f.sound p in
    let fits = fresh-fits c size m f.state f.is f.phase f.sound in
    let b = begins_well c size f.state fits f.is in
    record {
      fresh = f.state;
      is-fresh = f.is;
      answered = rw (f.configuration, f.phase) at done-so.answers;
      holds = unordered c size f.state is fits f.is;
      sound = done-so.sound;
      configuration = done-so.configuration ∙ f.configuration;
      found = copy-found s size b.accepted empty_ledger (fresh_disk f.state size) b.inv is (phase_of last) end (rw (f.configuration, f.phase) at done-so.leaves);
    }
