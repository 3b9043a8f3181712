-- Recovery: a restart reads the journal and nothing else, so that it is the same wherever the journal is; and no block write of a
-- checkpoint but the whole header changes what it reads. Assumes nothing.
use Prim.Native.Nat.{ℕ, suc, ◌≤◌, ◌<◌}
use native.Mathlib.Omega.{arith}
use mathlib.Core.Path.{◌≡◌, refl, sym, ap, ◌∙◌}
use mathlib.Core.Bool.{Bool, true, false}
use mathlib.Core.List.{List, [], ◌∷◌, ◌++◌}
use mathlib.Core.Option.{some}
use lib.Dec.{eqb}
use lib.ListN.{length}
use borrow.Author.Tests.{eq-eqb, lt-leb, le-leb}
use Rattle.types.specs.Refusal.{Result, refused, done}
use Rattle.types.specs.Table.{Passed}
use Rattle.journal.specs.Area.{write_at}
use Rattle.consumer.specs.State.{Configuration, State}
use Rattle.consumer.specs.Rights.{checkpointing}
use Rattle.checkpoint.specs.Checkpoint as checkpoint
use Rattle.checkpoint.specs.Checkpoint.{writes, flushed, Writing, is_last, next_place, next_block}
use Rattle.starts.specs.Restart as restarts
use Rattle.starts.specs.Restart.{start_table}
use Rattle.machine.specs.Calls.{step, restart, restarted, failed}
use Rattle.machine.specs.Transitions.{Phase, idle, writing, off, After, restarted_as, transition}
use Rattle.power_cut.specs.Cut.{Cut, old, new, torn, is_torn, cut_at}
use Rattle.crash_safety.specs.Runs.{Item, call, cut, World, world, next, after, run, ends, fresh_world}
use Rattle.crash_safety.specs.Workers.{May}
use Rattle.crash_safety.specs.Recovery.{DeterministicRecovery, begun, then_cut, HasNumber, WritesCount, EveryWriteCounts, EveryCutMade}
use Rattle.crash_safety.proofs.Law.{Ledger}
use Rattle.crash_safety.proofs.Runs.{run-made, ends-made, run_none, ends_none}
use Rattle.crash_safety.proofs.Invariant.{Saved, restored, Journal, Ready, is-ready, Inv}
use Rattle.crash_safety.proofs.Journals.{restart-finds, stored}
use Rattle.crash_safety.proofs.Writes.{more-journal, torn-journal}
use Rattle.crash_safety.proofs.Checkpoints.{before, Begun, has-begun, begun_more, last_step, full-journal}
use Rattle.crash_safety.proofs.Reached.{reached}

-- ## a restart
-- who can be called after a restart that answered so
abbrev called : Phase → Result State → Phase
called p (refused r) = p
called p (done s) = idle s

abbrev again : Phase → List ℕ → Result State → After
again p a r = record { event = restarted r; phase = called p r; area = a }

restarted-again : (p : Phase) (a : List ℕ) (r : Result State) → restarted_as p a r ≡ some (again p a r)
restarted-again p a (refused r) = refl
restarted-again p a (done s) = refl

module _ (c : Configuration) (w : World) where
  abbrev answer : Result State
  answer = restarts.restart c w.journal

  restart-made : next c w (call restart) ≡ some (again w.phase w.journal answer)
  unfolding next transition
  restart-made = restarted-again w.phase w.journal answer

  abbrev next-world : World
  next-world = world (called w.phase answer) w.journal

  restart-run : (is : List Item) → run c w (call restart ∷ is) ≡ restarted answer ∷ run c next-world is
  restart-run is = run-made c w (call restart) is (again w.phase w.journal answer) restart-made

  restart-ends : (is : List Item) → ends c w (call restart ∷ is) ≡ ends c next-world is
  restart-ends is = ends-made c w (call restart) is (again w.phase w.journal answer) restart-made

restart-alone : (c : Configuration) (w : World) → run c w (call restart ∷ []) ≡ restarted (restarts.restart c w.journal) ∷ []
restart-alone c w = restart-run c w [] ∙ rw (run_none c (world (called w.phase (restarts.restart c w.journal)) w.journal))

pub deterministic_recovery : DeterministicRecovery
unfolding DeterministicRecovery
deterministic_recovery c w =
    record {
      same = λ v e. restart-alone c v ∙ ap (λ a. restarted (restarts.restart c a) ∷ []) e ∙ sym (restart-alone c w);
      twice = restart-run c w (call restart ∷ [])
          ∙ rw (restart-alone c w, restart-alone c (world (called w.phase (restarts.restart c w.journal)) w.journal));
      no_byte = ap (λ (v : World). v.journal) (restart-ends c w [] ∙ ends_none c _);
    }

-- ## a checkpoint
-- a restart gives the consumer that the journal holds
pub restart-gives : (c : Configuration) (n : ℕ) → Passed (start_table c n) → (w : World) (v : Saved) → Journal c n w.journal v
    → (ends c w (call restart ∷ [])).phase ≡ idle (restored c n v)
restart-gives c n accepted w v j =
    ap (λ (u : World). u.phase) (restart-ends c w [] ∙ ends_none c _) ∙ rw (restart-finds c n w.journal v accepted j)

module _ (c : Configuration) (n : ℕ) (accepted : Passed (start_table c n)) (v : Saved) (s : State) (now : Ready c n v s)
    (worker : ℕ)
    (may : May c worker checkpointing)
    (numbered : HasNumber s)
    (a : List ℕ)
    (journal : Journal c n a v) where
  abbrev start : World
  start = world (idle s) a

  -- k steps, a power failure that leaves this journal, and a restart
  module _ (k : ℕ) (h : k ≤ before s) (x : Cut) where
    abbrev so_far : Begun c n v s now worker may numbered a journal k
    so_far = has-begun c n v s now worker may numbered a journal k h

    abbrev mid : World
    mid = world (writing (checkpoint.writing s k)) so_far.area

    -- the journal has the consumer's length, so that the step writes
    same_length : eqb (length so_far.area) s.size ≡ true
    same_length = eq-eqb (length so_far.area) s.size (so_far.midway.journal.size ∙ sym now.size)

    after-cut : (t : After) → next c mid (cut x) ≡ some t → ends c start (begun worker k ++ then_cut x) ≡ ends c (after t) (call restart ∷ [])
    after-cut t e = so_far.leads.ends_there (then_cut x) ∙ ends-made c mid (cut x) (call restart ∷ []) t e

  in_place : (ends c start (call restart ∷ [])).phase ≡ idle (restored c n v)
  in_place = restart-gives c n accepted start v journal

  -- a cut that leaves the journal holding what it held
  cut-unfinished : (k : ℕ) (h : k ≤ before s) (x : Cut) (t : After) → next c (mid k h x) (cut x) ≡ some t → Journal c n t.area v
      → (ends c start (begun worker k ++ then_cut x)).phase ≡ (ends c start (call restart ∷ [])).phase
  cut-unfinished k h x t e j =
      ap (λ (u : World). u.phase) (after-cut k h x t e) ∙ restart-gives c n accepted (after t) v j ∙ sym in_place

  cut-old : (k : ℕ) → k ≤ before s → (ends c start (begun worker k ++ then_cut old)).phase ≡ (ends c start (call restart ∷ [])).phase
  unfolding next
  cut-old k h =
      let b = so_far k h old in
      cut-unfinished k h old (record { event = failed false; phase = off; area = b.area }) (rw (same_length k h old)) b.midway.journal

  cut-torn : (k : ℕ) (y : List ℕ) → k ≤ before s → is_torn y ≡ true
      → (ends c start (begun worker k ++ then_cut (torn y))).phase ≡ (ends c start (call restart ∷ [])).phase
  unfolding next
  cut-torn k y h t =
      let b = so_far k h (torn y) in
      let w : Writing = checkpoint.writing s k in
      cut-unfinished k h (torn y) (record { event = failed false; phase = off; area = write_at b.area (next_place w) y }) (rw (same_length k h (torn y), t))
      (torn-journal c n v b.area w b.midway.journal now b.midway.written y t)

  -- the block wholly written
  abbrev after-new : (k : ℕ) → k ≤ before s → Bool → After
  after-new k h last =
      record {
        event = failed last;
        phase = off;
        area = write_at (so_far k h new).area (next_place (checkpoint.writing s k)) (next_block (checkpoint.writing s k));
      }

  new-made : (k : ℕ) (h : k ≤ before s) (last : Bool) → is_last (checkpoint.writing s k) ≡ last
      → next c (mid k h new) (cut new) ≡ some (after-new k h last)
  unfolding next
  new-made k h last t = rw (← t, same_length k h new)

  -- zeros or a body
  cut-body : (k : ℕ) → k < before s → (ends c start (begun worker k ++ then_cut new)).phase ≡ (ends c start (call restart ∷ [])).phase
  cut-body k more =
      let h : k ≤ before s = omega arith in
      let b = so_far k h new in
      let t : is_last (checkpoint.writing s k) ≡ false = lt-leb (before s) k more in
      cut-unfinished k h new (after-new k h false) (new-made k h false t)
      (more-journal c n v b.area (checkpoint.writing s k) b.midway.journal now b.midway.written t)

  -- the header wholly written: by the last step
  pub finished-gives : (ends c start (begun worker (suc (before s)) ++ call restart ∷ [])).phase ≡ idle (restored c n (stored s))
  finished-gives =
      let k : ℕ = before s in
      let h : k ≤ before s = omega arith in
      let b = so_far k h new in
      ap (λ (u : World). u.phase) (
      ap (ends c start) (begun_more worker k (call restart ∷ []))
      ∙ b.leads.ends_there (call step ∷ call restart ∷ [])
      ∙ ends-made c (mid k h new) (call step) (call restart ∷ []) _ (last_step c n v s now k b.area b.midway h))
      ∙ restart-gives c n accepted (world (idle (flushed s)) (after-new k h true).area) (stored s) (full-journal c n v s now k b.area b.midway h)

  -- or by a cut
  cut-new : (ends c start (begun worker (before s) ++ then_cut new)).phase ≡ (ends c start (begun worker (suc (before s)) ++ call restart ∷ [])).phase
  cut-new =
      let k : ℕ = before s in
      let h : k ≤ before s = omega arith in
      let b = so_far k h new in
      let t = after-new k h true in
      ap (λ (u : World). u.phase) (after-cut k h new t (new-made k h true (le-leb (before s) k h)))
      ∙ restart-gives c n accepted (after t) (stored s) (full-journal c n v s now k b.area b.midway h)
      ∙ sym finished-gives

writes-count : (c : Configuration) (n : ℕ) → Passed (start_table c n) → (l : Ledger) (p : Phase) (a : List ℕ) (left : State) → p ≡ idle left
    → HasNumber left → (v : ℕ) → May c v checkpointing → Inv c n l (world p a) → WritesCount c v (world p a) left
writes-count c n accepted l p a left e numbered v may =
    rw e (λ inv. record {
      left-old = λ k h. cut-old c n accepted inv.saved left (is-ready inv.callable) v may numbered a inv.journal k (omega arith);
      left-torn = λ k b h. cut-torn c n accepted inv.saved left (is-ready inv.callable) v may numbered a inv.journal k b (omega arith);
      body_new = λ k h. cut-body c n accepted inv.saved left (is-ready inv.callable) v may numbered a inv.journal k (omega arith);
      left-new = λ k h.
          let same : k ≡ before left = omega arith in
          let all : writes left ≡ suc (before left) = omega arith in
          rw (all, same) (cut-new c n accepted inv.saved left (is-ready inv.callable) v may numbered a inv.journal);
    })

pub every_write-counts : EveryWriteCounts
unfolding EveryWriteCounts
every_write-counts c n s items f e left here numbered v may =
    let r = reached c n s items f e in
    let w = ends c (fresh_world s n) items in
    writes-count c n r.accepted r.ledger w.phase w.journal left here numbered v may r.inv

-- ## cuts
cut-made : (c : Configuration) (n : ℕ) (l : Ledger) (p : Phase) (a : List ℕ) (w : Writing) → p ≡ writing w → Inv c n l (world p a)
    → (k : Cut) → next c (world p a) (cut k) ≡ cut_at w a k
unfolding next
cut-made c n l p a w e =
    rw e (λ inv k. rw (eq-eqb (length a) w.state.size (inv.journal.size ∙ sym inv.callable.0.size)))

pub every_cut-made : EveryCutMade
unfolding EveryCutMade
every_cut-made c n s items f e w here =
    let r = reached c n s items f e in
    let u = ends c (fresh_world s n) items in
    cut-made c n r.ledger u.phase u.journal w here r.inv
