-- A server whose first call is an import is, after its first checkpoint, where an import's list begins; so what holds of those lists holds of it.
-- Assumes nothing.
use Prim.Native.Nat.{ℕ, ◌≤◌, ◌<◌}
use native.Mathlib.Omega.{arith}
use mathlib.Core.Path.{◌≡◌, refl, sym, ap, subst, ◌∙◌}
use mathlib.Core.Bool.{true, false, ◌&&◌}
use mathlib.Core.List.{List, [], ◌∷◌}
use mathlib.Core.Option.{Option, none, some, none-ne-some}
use lib.ListN.{length, replicate}
use Rattle.types.specs.Limits.{MAX}
use Rattle.types.specs.Refusal.{Result, refused, done, BadArea, Fenced}
use Rattle.types.specs.Refusal as refusal
use Rattle.types.specs.Table.{◌⇒◌, Passed}
use Rattle.types.proofs.Cases.{split, both}
use Rattle.types.proofs.Refusal.{number_not_0}
use Rattle.types.proofs.Table.{checked-done, passed-append}
use Rattle.raw.specs.Bytes.{IsBytes}
use Rattle.consumer.specs.State.{State, bad_area}
use Rattle.consumer.specs.State as state
use Rattle.consumer.specs.Rights.{checkpointing}
use Rattle.consumer.specs.Calls.{call_rows}
use Rattle.consumer.specs.Valid as valid
use Rattle.consumer.specs.declared.Configuration.{Configuration}
use Rattle.checkpoint.specs.Checkpoint as checkpoint
use Rattle.checkpoint.specs.Checkpoint.{Writing, writes, flushed, begin_table, begin_rows}
use Rattle.starts.specs.Starting.{configuration_of}
use Rattle.starts.specs.Restart as restarts
use Rattle.starts.specs.Restart.{settings_table, start_table}
use Rattle.starts.specs.Import.{import}
use Rattle.machine.specs.Calls.{Ask, ask, begin, step, restart, u64, fits, Event}
use Rattle.machine.specs.Transitions.{Phase, idle, After, began_as, restarted_as, transition}
use Rattle.machine.specs.View.{phase_of, Sound, OffIs}
use Rattle.machine.specs.declared.Machine.{Machine}
use Rattle.answers.specs.Numbers.{numbers_of, no_values, seen_numbers, numbers_in}
use Rattle.answers.specs.declared.Numbers.{Numbers}
use Rattle.server.specs.Transitions.{Answered, answered_with, answered_by, StartedAs, ImportIs, CallIs}
use Rattle.server.proofs.AsCalls.{ask-fits}
use Rattle.crash_safety.specs.Runs.{call, World, world, next, run, ends, fresh_world}
use Rattle.crash_safety.specs.Book.{Page}
use Rattle.crash_safety.specs.Demand3.{delivers, is_under, restarts_in}
use Rattle.crash_safety.specs.Batch.{is_repeated, different_offsets}
use Rattle.crash_safety.specs.Recovery as recovery
use Rattle.crash_safety.specs.Workers.{operation_of, rows_for, May, refusal_of, or_else}
use Rattle.crash_safety.specs.Tokens.{number_of}
use Rattle.crash_safety.specs.Settled.{state_in}
use Rattle.crash_safety.specs.ForGood.{hands}
use Rattle.crash_safety.specs.Disk.{Disk, disk, area, has_header}
use Rattle.crash_safety.specs.Unordered.{DiskItem, does, steps_on, syncs, fails, OnDisk, on_disk, leads, leads_as, next_on, run_on, ends_on, restarts_on}
use Rattle.crash_safety.specs.From.{book_from}
use Rattle.crash_safety.specs.Reconfigured.{Accepted}
use Rattle.crash_safety.specs.Import.{snapshots_page, Imported, moved_in, HoldsMoved, ImportFound}
use Rattle.crash_safety.proofs.Generations.{none_at-least}
use Rattle.crash_safety.proofs.Invariant.{Inv}
use Rattle.crash_safety.proofs.Unordered.{InvOn}
use Rattle.crash_safety.proofs.Ran.{idle-fits}
use Rattle.crash_safety.proofs.RanOn.{on-state}
use Rattle.crash_safety.proofs.Commits.{Gone, fenced-after}
use Rattle.crash_safety.proofs.From.{ledger_from, restart-passed, restart-settings, holds-all, holds-all-on}
use Rattle.crash_safety.proofs.Reconfigured.{reopened}
use Rattle.crash_safety.proofs.Import.{import-settings, accepted, moved, none_out, import-found, holds-moved, fenced-on}
use Rattle.served.specs.Served.{Served, answers_to}
use Rattle.served.specs.ServedOn.{ServedOn, rests, asks, asks_nothing, plans, begins, steps, strays, makes_durable, loses_power, reopens, answers_on}
use Rattle.served.specs.ServedOn as served
use Rattle.served.specs.Tokens.{unless_barred}
use Rattle.served.specs.Import.{Moves, moves, opens, ImportServed, ImportServedOn, OldTokenServed, OldTokenServedOn}
use Rattle.served.proofs.Told.{number-seen, told_same, restarts-answered}
use Rattle.served.proofs.Served.{serves, copy-found}
use Rattle.served.proofs.Tokens.{first_fits, made_so, callable, barred}
use Rattle.served.proofs.ServedOn as disks

-- ## the first checkpoint
-- a begin that is answered 0 is of a worker who may, and its third number is how many writes follow
begun_so : (c : state.Configuration) (x : State) (a : List ℕ) (v : ℕ) (b : Numbers) → x.settings ≡ c.settings
    → numbers_in (next c (world (idle x) a) (call (begin v))) ≡ b → b.0 ≡ 0 → May c v checkpointing × (b.2 ≡ writes x)
unfolding next transition checkpoint.begin
begun_so c x a v b same e z =
    split (u64 v)
    (λ t. go (checkpoint.begin x v) refl (rw t at e))
    (λ t. let no : numbers_in none ≡ b = rw t at e in absurd (let k = ap (λ (n : Numbers). n.0) no in omega arith))
  where
    go : (r : Result Writing) → checkpoint.begin x v ≡ r → numbers_in (began_as x a r) ≡ b → May c v checkpointing × (b.2 ≡ writes x)
    go (refused f) q h = absurd (number_not_0 f (ap (λ (n : Numbers). n.0) h ∙ z))
    go (done w) q h =
        let rows = (passed-append (call_rows x v checkpointing) (begin_rows x) (checked-done (begin_table x v) (checkpoint.writing x 0) w q).0).0 in
        (rw (← same) rows, sym (ap (λ (n : Numbers). n.2) h))

-- where an import's list begins: the invariant holds with a book that begins with the snapshots, from the first generation on, and no lease is out
record Moved (s : Configuration) (size first : ℕ) (cursor attempts : List ℕ) (m : Machine) (a : List ℕ) : Type 0 where
  state : State
  phase : phase_of m ≡ idle state
  fits : valid.Fits (configuration_of s).settings
  accepted : Passed (start_table (configuration_of s) size)
  inv : Inv (configuration_of s) size (ledger_from (snapshots_page cursor attempts) first) (world (idle state) a)
  leases : (state).table.leases ≡ []
  configuration : m.configuration ≡ s
  sound : Sound m

abbrev head : Numbers → List Numbers → Numbers
head n [] = n
head n (x ∷ l) = x

module _ (s : Configuration) (size first : ℕ) (cursor attempts : List ℕ) (m : Machine) (a : List ℕ) where
  abbrev c : state.Configuration
  c = configuration_of s

  abbrev There : Type 0
  There = Moved s size first cursor attempts m a

  -- by an import
  by-import : first ≤ MAX → IsBytes cursor → IsBytes attempts → (before made : Machine) (n : Numbers) → ImportIs before s size first cursor attempts n made
      → n.0 ≡ 0 → (v : ℕ) (b : Numbers) (ws : List Numbers) → Served made (replicate size 0) (recovery.begun v b.2) (b ∷ ws) m a → b.0 ≡ 0 → There
  unfolding answers_to ImportFound
  by-import low cb ab before made n h zero_number v b ws p zero-begun = from (import c size first cursor attempts) refl h.is h.made
    where
      from : (r : Result State) → import c size first cursor attempts ≡ r → n ≡ numbers_of (refusal.answered no_values r) → StartedAs r s before made → There
      from (refused f) e is k = absurd (number_not_0 f (sym (ap (λ (x : Numbers). x.0) is) ∙ zero_number))
      from (done x) e is k =
          let so = serves k.2 p in
          let same = import-settings c size first cursor attempts x e in
          let fit : valid.Fits c.settings = rw (← same) (idle-fits made.phase made.writing x k.0 k.2) in
          let configured : answers_to c (world (phase_of made) (replicate size 0)) (recovery.begun v b.2) ≡ b ∷ ws =
          subst (λ (y : Configuration). answers_to (configuration_of y) (world (phase_of made) (replicate size 0)) (recovery.begun v b.2) ≡ b ∷ ws) k.1 so.answers in
          let answers : answers_to c (fresh_world x size) (recovery.begun v b.2) ≡ b ∷ ws =
          subst (λ (p : Phase). answers_to c (world p (replicate size 0)) (recovery.begun v b.2) ≡ b ∷ ws) k.0 configured in
          let leaves : ends c (fresh_world x size) (recovery.begun v b.2) ≡ world (phase_of m) a = rw (k.1, k.0) at so.leaves in
          let d = begun_so c x (replicate size 0) v b same (ap (head b) answers) zero-begun in
          let there : moved_in c size x v ≡ world (phase_of m) a = rw (← d.1) leaves in
          let imported : Imported c size first cursor attempts x v =
          record { settings = fit; generation = low; cursor-bytes = cb; attempt_bytes_lem = ab; answered = e; may = d.0 } in
          let idles = (import-found c size first cursor attempts x v imported).goes_on in
          let phase : phase_of m ≡ idle (flushed x) = sym (ap (λ (w : World). w.phase) there) ∙ idles in
          record {
            state = flushed x;
            phase = phase;
            fits = fit;
            accepted = accepted c size first cursor attempts x v imported;
            inv = subst (Inv c size (ledger_from (snapshots_page cursor attempts) first)) (there ∙ ap (λ (q : Phase). world q a) phase)
                (moved c size first cursor attempts x v imported);
            leases = rw idles at (none_out c size first cursor attempts x v imported);
            configuration = so.configuration ∙ k.1;
            sound = so.sound;
          }

  -- by a restart on such a journal
  by-restart : (other : Configuration) (left before : Machine) (n : Numbers) → Moved other size first cursor attempts left a → OffIs s before
      → CallIs before 0 18 0 0 0 0 a [] n m a [] → n.0 ≡ 0 → There
  unfolding transition
  by-restart other left before n k is-off h accepted-so = from (restarts.restart c a) refl (rw is-off.configuration at h.is)
    where
      from : (r : Result State) → restarts.restart c a ≡ r → answered_with n (phase_of m) a [] ≡ answered_by (phase_of before) a [] (restarted_as (phase_of before) a r)
          → There
      from (refused f) e is = absurd (number_not_0 f (sym (ap (λ (x : Answered). x.numbers.0) is) ∙ accepted-so))
      from (done x) e is =
          let phase : phase_of m ≡ idle x = ap (λ (y : Answered). y.phase) is in
          let fit : valid.Fits c.settings = rw (← restart-settings c a x e) (idle-fits m.phase m.writing x phase h.sound) in
          let passed = (passed-append (settings_table c.settings) (bad_area (length a) ⇒ BadArea ∷ []) (restart-passed c a x e)).0 in
          let ok : Accepted c = record { fits = fit; passes = passed } in
          let r = reopened (configuration_of other) c size k.accepted ok (snapshots_page cursor attempts) first (idle k.state) a x k.inv e in
          record {
            state = x;
            phase = phase;
            fits = fit;
            accepted = r.accepted;
            inv = r.inv;
            leases = r.leases;
            configuration = h.configuration ∙ is-off.configuration;
            sound = h.sound;
          }

moved_so : (size first : ℕ) (cursor attempts : List ℕ) (s : Configuration) (m : Machine) (a : List ℕ) → Moves size first cursor attempts s m a
    → Moved s size first cursor attempts m a
moved_so size first cursor attempts s m a (moves low cb ab before made n h zero_number v b ws p zero-begun) =
    by-import s size first cursor attempts m a low cb ab before made n h zero_number v b ws p zero-begun
moved_so size first cursor attempts s m a (opens other left before n how is-off h zero_number) =
    by-restart s size first cursor attempts m a other left before n (moved_so size first cursor attempts other left a how) is-off (h is-off.sound []) zero_number

-- ## demand 3
pub import_served : ImportServed
unfolding ImportServed different_offsets
import_served s size first cursor attempts m a how is ns last end p =
    let k = moved_so size first cursor attempts s m a how in
    let c : state.Configuration = configuration_of s in
    let w : World = world (phase_of m) a in
    let page : Page = snapshots_page cursor attempts in
    let so = serves k.sound p in
    let answers : answers_to c w is ≡ ns = rw k.configuration at so.answers in
    let inv : Inv c size (ledger_from page first) w = rw k.phase k.inv in
    let h = holds-moved c page first (restarts_in is) (run c w is) (state_in (ends c w is).phase)
    (holds-all c size k.fits k.accepted page first w is inv) in
    let same = told_same c is w in
    record {
      numbers = rw (← answers) (record {
        bound = λ l o. rw (same.hands (delivers o)) (h.delivered l o);
        generations = λ g. rw (same.hands (is_under g)) (h.holds.holds.generations g);
        above = λ g low. rw (same.hands (is_under g)) (none_at-least g first low (run c w is) h.holds.keeps.above);
        batch = λ l. rw (same.hands is_repeated, same.offsets) (h.holds.counts l).batch;
        settled = λ o t. rw (same.hands (hands o)) (h.holds.keeps.never o t);
        restarts = restarts-answered c is w (book_from page) h.holds.holds.found;
      });
      sound = so.sound;
      configuration = so.configuration ∙ k.configuration;
      found = copy-found s size k.accepted (ledger_from page first) w inv is (phase_of last) end (rw k.configuration at so.leaves);
    }

pub import_served_on : ImportServedOn
unfolding ImportServedOn
import_served_on s size first cursor attempts m a how is ns last end p =
    let k = moved_so size first cursor attempts s m a how in
    let c : state.Configuration = configuration_of s in
    let w : OnDisk = on_disk (phase_of m) (disk a []) in
    let page : Page = snapshots_page cursor attempts in
    let so = disks.serves k.sound p in
    let leaves : ends_on c w is ≡ on_disk (phase_of last) end = rw k.configuration at so.leaves in
    let inv = subst (λ (q : Phase). InvOn c size (ledger_from page first) (on_disk q (disk a []))) (sym k.phase) k.inv in
    let h : HoldsMoved c page first (restarts_on is) (run_on c w is) (state_in (ends_on c w is).phase) =
    holds-moved c page first (restarts_on is) (run_on c w is) (state_in (ends_on c w is).phase) (holds-all-on c size k.fits k.accepted page first w is inv) in
    record {
      answered = rw k.configuration at so.answers;
      holds = rw leaves at h;
      sound = so.sound;
      configuration = so.configuration ∙ k.configuration;
      found = disks.copy-found s size k.accepted (ledger_from page first) w inv is (phase_of last) end leaves;
    }

-- ## tokens of the old server
-- a call that is fenced, in numbers
told-fenced : (c : state.Configuration) (w : ℕ) (q : Ask) (e : Event) (n : Numbers) → seen_numbers e ≡ n
    → refusal_of e ≡ or_else (rows_for c w (operation_of q)) Fenced → n.0 ≡ unless_barred c w (operation_of q) 24
told-fenced c w q e n is fenced = rw (← is) (number-seen e ∙ ap number_of fenced ∙ barred c w (operation_of q) Fenced)

-- no lease has such a token
old-gone : (s : Configuration) (size first : ℕ) (cursor attempts : List ℕ) (m : Machine) (a : List ℕ)
    → (k : Moved s size first cursor attempts m a) → (o g : ℕ) → g < first → Gone o g first k.state.table.leases
old-gone s size first cursor attempts m a k o g low = record { below = low; own = λ l e z. none-ne-some l (rw k.leases at e) }

pub old-token_served : OldTokenServed
unfolding OldTokenServed
old-token_served s size first cursor attempts m a how is ns m₁ m₂ a₁ a₂ p₁ here at w o g q p token low p₂ =
    let k = moved_so size first cursor attempts s m a how in
    let c : state.Configuration = configuration_of s in
    let one = serves k.sound p₁ in
    let two = serves one.sound p₂ in
    let s₁ : m₁.configuration ≡ s = one.configuration ∙ k.configuration in
    let w₁ : World = world (phase_of m₁) a₁ in
    let left : ends c (world (idle k.state) a) is ≡ w₁ = rw (k.configuration, k.phase) at one.leaves in
    let u = made_so c w₁ w q p (world (phase_of m₂) a₂) (rw s₁ at two.answers) (rw s₁ at two.leaves)
    (λ e h. callable c (phase_of m₁) a₁ w q here at (first_fits p₂) e) in
    let asks-so : next c (ends c (world (idle k.state) a) is) (call (ask w q)) ≡ some u.then = rw left u.made in
    let fenced = fenced-after c size k.accepted (ledger_from (snapshots_page cursor attempts) first) (world (idle k.state) a) o g k.inv
    (old-gone s size first cursor attempts m a k o g low) is w q token u.then asks-so in
    told-fenced c w q u.then.event p u.numbers fenced

-- a call on the disk is made while no header is pending, and its numbers are u64
record Free (d : Disk) (w : ℕ) (q : Ask) : Type 0 where
  free : has_header d.pending ≡ false
  fit : (u64 w && fits q) ≡ true

abbrev Freely : Disk → List DiskItem → Type 0
Freely d [] = Unit {0}
Freely d (does (ask w q) ∷ is) = Free d w q
Freely d (does (begin w) ∷ is) = Unit {0}
Freely d (does step ∷ is) = Unit {0}
Freely d (does restart ∷ is) = Unit {0}
Freely d (steps_on b ∷ is) = Unit {0}
Freely d (syncs ∷ is) = Unit {0}
Freely d (fails ks ∷ is) = Unit {0}

first-free : {m last : Machine} {d end : Disk} {is : List DiskItem} {ns : List Numbers} → ServedOn m d is ns last end → Freely d is
first-free rests = tt
first-free (asks w kind x y z delay out q n m' out' fit found free h more) =
    let f0 = both (u64 w) _ fit in
    let f1 = both (u64 x) _ f0.1 in
    let f2 = both (u64 y) _ f1.1 in
    let f3 = both (u64 z) _ f2.1 in
    let f4 = both (u64 delay) _ f3.1 in
    record { free = free; fit = rw f0.0 (ask-fits w x y z delay f0.0 f1.0 f2.0 f3.0 f4.0 kind _ q found) }
first-free (asks_nothing w kind x y z delay out n m' out' found h more) = first-free more
first-free (plans w os out n m' out' fit-w fit free h more) = record { free = free; fit = rw fit-w fit }
first-free (begins w n m' free h more) = tt
first-free (steps n m' a' ready h more) = tt
first-free (strays b n m' b' other free h more) = tt
first-free (makes_durable more) = tt
first-free (served.restarts n m' h more) = tt
first-free (loses_power ks m' is-off more) = tt
first-free (reopens m' n m'' is-off h zero_number more) = tt

pub old-token_served_on : OldTokenServedOn
unfolding OldTokenServedOn answers_on next
old-token_served_on s size first cursor attempts m a how is ns m₁ m₂ d₁ d₂ p₁ here at w o g q p token low p₂ =
    let k = moved_so size first cursor attempts s m a how in
    let c : state.Configuration = configuration_of s in
    let one = disks.serves k.sound p₁ in
    let two = disks.serves one.sound p₂ in
    let s₁ : m₁.configuration ≡ s = one.configuration ∙ k.configuration in
    let left : ends_on c (on_disk (idle k.state) (disk a [])) is ≡ on_disk (phase_of m₁) d₁ = rw (k.configuration, k.phase) at one.leaves in
    let answers : answers_on c (on_disk (phase_of m₁) d₁) (does (ask w q) ∷ []) ≡ p ∷ [] = rw s₁ at two.answers in
    let f : Free d₁ w q = first-free p₂ in
    let fenced = fenced-on c size k.accepted (ledger_from (snapshots_page cursor attempts) first) k.state a o g k.inv
    (old-gone s size first cursor attempts m a k o g low) is in
    go c (phase_of m₁) d₁ w q p (transition c (phase_of m₁) (area d₁) (ask w q)) refl (ap (head p) answers) f
    (callable c (phase_of m₁) (area d₁) w q here at f.fit)
    (λ e p' d' asks-so. fenced w q token e p' d' (rw left asks-so))
  where
    go : (c : state.Configuration) (p₁ : Phase) (d : Disk) (w : ℕ) (q : Ask) (n : Numbers) (x : Option After) → transition c p₁ (area d) (ask w q) ≡ x
        → numbers_in x ≡ n → Free d w q → (transition c p₁ (area d) (ask w q) ≡ none → ⊥)
        → ((e : Event) (p' : Phase) (d' : Disk) → next_on c p₁ d (does (ask w q)) ≡ leads (e ∷ []) p' d'
        → refusal_of e ≡ or_else (rows_for c w (operation_of q)) Fenced)
        → n.0 ≡ unless_barred c w (operation_of q) 24
    go c p₁ d w q n none e h f made fenced = absurd (made e)
    go c p₁ d w q n (some t) e h f made fenced =
        let so = fenced t.event t.phase d (on-state c p₁ d (ask w q) refl f.free ∙ ap (leads_as [] d) e) in
        told-fenced c w q t.event n h so
