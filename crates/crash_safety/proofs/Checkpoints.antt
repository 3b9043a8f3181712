-- A checkpoint made step by step: from a state with a number for one more group, begin and each step are made as they should be, the
-- journal holds what it held until the header is there, and the last step leaves the state. Assumes nothing.
use Prim.Native.Nat.{ℕ, zero, suc, ◌+◌, ◌≤◌, ◌<◌}
use native.Mathlib.Omega.{arith}
use mathlib.Core.Path.{◌≡◌, refl, sym, ap, ◌∙◌}
use mathlib.Core.Bool.{Bool, true, false, cond}
use mathlib.Core.List.{List, [], ◌∷◌, ◌++◌, append-nil}
use mathlib.Core.Option.{some}
use lib.ListN.{length, replicate}
use borrow.Author.Tests.{eq-eqb, le-ltb, leb-false, lt-leb, le-leb}
use Rattle.types.specs.Limits.{MAX, MAX32, WORKERS}
use Rattle.types.specs.Refusal.{done}
use Rattle.types.specs.Table.{Passed}
use Rattle.types.proofs.Table.{checked-passed, append-passed}
use Rattle.journal.specs.Area.{write_at}
use Rattle.consumer.specs.State.{Configuration, State}
use Rattle.consumer.specs.Rights.{checkpointing}
use Rattle.consumer.specs.Calls.{call_rows}
use Rattle.checkpoint.specs.Checkpoint as checkpoints
use Rattle.checkpoint.specs.Checkpoint.{bodies, zeros, writes, flushed, is_last, next_place, next_block}
use Rattle.machine.specs.Calls.{u64, begin, step, begun, stepped}
use Rattle.machine.specs.Transitions.{idle, writing, After, left_as, transition}
use Rattle.crash_safety.specs.Runs.{Item, call, World, world, next, after, run, ends}
use Rattle.crash_safety.specs.Workers.{May}
use Rattle.crash_safety.specs.Recovery as recovery
use Rattle.crash_safety.specs.Recovery.{HasNumber}
use Rattle.crash_safety.specs.Useful.{Accepted, began, steps, AllAccepted, checkpoint}
use Rattle.crash_safety.proofs.Runs.{run-made, ends-made, ends_none}
use Rattle.crash_safety.proofs.Invariant.{Saved, Journal, Ready, Written}
use Rattle.crash_safety.proofs.Journals.{stored}
use Rattle.crash_safety.proofs.Writes.{none_written, more-journal, more-written, header-journal}

-- ## items that write
-- the items lead from the one world to the other, and none of them is refused
pub record Leads (c : Configuration) (w : World) (items : List Item) (v : World) : Type 0 where
  pub ends_there : (is : List Item) → ends c w (items ++ is) ≡ ends c v is
  pub wrote : (is : List Item) → AllAccepted (run c v is) → AllAccepted (run c w (items ++ is))

leads_none : (c : Configuration) (w : World) → Leads c w [] w
leads_none c w = record { ends_there = λ is. refl; wrote = λ is h. h }

leads_one : (c : Configuration) (w : World) (i : Item) (items : List Item) (v : World) (t : After) → next c w i ≡ some t → Accepted t.event
    → Leads c (after t) items v → Leads c w (i ∷ items) v
unfolding AllAccepted
leads_one c w i items v t e h l =
    record {
      ends_there = λ is. ends-made c w i (items ++ is) t e ∙ l.ends_there is;
      wrote = λ is k. rw (run-made c w i (items ++ is) t e) (h, l.wrote is k);
    }

-- one step more
pub steps-more : (m : ℕ) (is : List Item) → replicate (suc m) (call step) ++ is ≡ replicate m (call step) ++ call step ∷ is
steps-more zero is = refl
steps-more (suc m) is = ap (λ (l : List Item). call step ∷ l) (steps-more m is)

pub begun_more : (b k : ℕ) (is : List Item) → recovery.begun b (suc k) ++ is ≡ recovery.begun b k ++ call step ∷ is
begun_more b k is = ap (λ (l : List Item). call (begin b) ∷ l) (steps-more k is)

pub none_wrote : (c : Configuration) (w : World) → AllAccepted (run c w [])
unfolding run AllAccepted
none_wrote c w = tt

-- the blocks that are written before the header
abbrev pub before : State → ℕ
before s = zeros s + bodies s

-- ## a checkpoint under way
module _ (c : Configuration) (n : ℕ) (v : Saved) (s : State) (now : Ready c n v s) where
  -- so many of its blocks are written, and the journal holds what it held
  pub record Midway (k : ℕ) (a : List ℕ) : Type 0 where
    pub journal : Journal c n a v
    pub written : Written a (checkpoints.writing s k)

  abbrev at : ℕ → List ℕ → World
  at k a = world (writing (checkpoints.writing s k)) a

  -- m steps more lead to where e blocks are written
  pub record Further (k e m : ℕ) (a : List ℕ) : Type 0 where
    pub area : List ℕ
    pub midway : Midway e area
    pub leads : Leads c (at k a) (replicate m (call step)) (at e area)

  module _ (k : ℕ) (a : List ℕ) (mid : Midway k a) where
    same_length : length a ≡ s.size
    same_length = mid.journal.size ∙ sym now.size

    -- the journal with the next block
    abbrev pub longer : List ℕ
    longer = write_at a (next_place (checkpoints.writing s k)) (next_block (checkpoints.writing s k))

    -- the next step
    pub made : (last : Bool) → is_last (checkpoints.writing s k) ≡ last → next c (at k a) (call step) ≡ some (record {
      event = stepped (done (record { block = next_place (checkpoints.writing s k); last = last }));
      phase = left_as (cond last (checkpoints.finished (flushed s)) (checkpoints.going (checkpoints.writing s (suc k))));
      area = longer;
    })
    unfolding next transition checkpoints.step
    made last t = rw (← t, eq-eqb (length a) s.size same_length)

    -- one before the last
    module _ (more : k < before s) where
      pub not_last : is_last (checkpoints.writing s k) ≡ false
      not_last = lt-leb (before s) k more

      pub midway-more : Midway (suc k) longer
      midway-more =
          record {
            journal = more-journal c n v a (checkpoints.writing s k) mid.journal now mid.written not_last;
            written = more-written c n v a (checkpoints.writing s k) mid.journal now mid.written not_last;
          }

    -- the last one
    module _ (all : before s ≤ k) where
      is-last : is_last (checkpoints.writing s k) ≡ true
      is-last = le-leb (before s) k all

      pub last_step : next c (at k a) (call step) ≡ some (record {
        event = stepped (done (record { block = next_place (checkpoints.writing s k); last = true }));
        phase = idle (flushed s);
        area = longer;
      })
      last_step = made true is-last

      pub full-journal : Journal c n longer (stored s)
      full-journal = header-journal c n v a (checkpoints.writing s k) mid.journal now mid.written is-last

  pub further : (m k e : ℕ) → k + m ≡ e → e ≤ before s → (a : List ℕ) → Midway k a → Further k e m a
  further zero k e q h a mid =
      let same : e ≡ k = omega arith in
      rw same (record { area = a; midway = mid; leads = leads_none c (at k a) })
  further (suc m) k e q h a mid =
      let more : k < before s = omega arith in
      let rest = further m (suc k) e (omega arith) h (longer k a mid) (midway-more k a mid more) in
      record {
        area = rest.area;
        midway = rest.midway;
        leads = leads_one c (at k a) (call step) (replicate m (call step)) (at e rest.area) _ (made k a mid false (not_last k a mid more)) (steps _) rest.leads;
      }

  -- ## from begin on, by a worker who may
  module _ (b : ℕ) (may : May c b checkpointing) (numbered : HasNumber s) (a : List ℕ) (journal : Journal c n a v) where
    -- that is a u64
    fits : u64 b ≡ true
    fits = le-leb b MAX (omega (arith, leb-false WORKERS b may.0))

    may-begin : Passed (call_rows s b checkpointing)
    may-begin = rw now.settings may

    pub begin-step : next c (world (idle s) a) (call (begin b)) ≡ some (record {
      event = begun (done (writes s));
      phase = writing (checkpoints.writing s 0);
      area = a;
    })
    unfolding next transition checkpoints.begin
    begin-step =
        rw (fits, checked-passed (checkpoints.begin_table s b) (done (checkpoints.writing s 0)) (append-passed (call_rows s b checkpointing) (checkpoints.begin_rows s) may-begin (le-ltb MAX32 s.next.number numbered, tt)))

    pub midway_none : Midway 0 a
    midway_none = record { journal = journal; written = none_written s a now.valid numbered }

    -- begin and k steps
    pub record Begun (k : ℕ) : Type 0 where
      pub area : List ℕ
      pub midway : Midway k area
      pub leads : Leads c (world (idle s) a) (recovery.begun b k) (at k area)

    pub has-begun : (k : ℕ) → k ≤ before s → Begun k
    has-begun k h =
        let rest = further k 0 k (omega arith) h a midway_none in
        record {
          area = rest.area;
          midway = rest.midway;
          leads = leads_one c (world (idle s) a) (call (begin b)) (replicate k (call step)) (at k rest.area) _ begin-step (began _) rest.leads;
        }

    -- ## begin and all its steps
    -- the header's step is the last
    as_begun : checkpoint b s ≡ recovery.begun b (before s) ++ call step ∷ []
    as_begun =
        let all : writes s ≡ suc (before s) = omega arith in
        ap (recovery.begun b) all ∙ sym (append-nil (recovery.begun b (suc (before s)))) ∙ begun_more b (before s) []

    -- none is refused, and the journal holds what begin took
    pub record Finished : Type 0 where
      pub area : List ℕ
      pub holds : Journal c n area (stored s)
      pub wrote : AllAccepted (run c (world (idle s) a) (checkpoint b s))
      pub leaves : ends c (world (idle s) a) (checkpoint b s) ≡ world (idle (flushed s)) area

    pub checkpoint-made : Finished
    unfolding AllAccepted
    checkpoint-made =
        let k : ℕ = before s in
        let h : k ≤ before s = omega arith in
        let m = has-begun k h in
        let last = last_step k m.area m.midway h in
        let mid : World = at k m.area in
        record {
          area = longer k m.area m.midway;
          holds = full-journal k m.area m.midway h;
          wrote = rw as_begun (m.leads.wrote (call step ∷ []) (rw (run-made c mid (call step) [] _ last) (steps _, none_wrote c _)));
          leaves = rw as_begun (m.leads.ends_there (call step ∷ []) ∙ ends-made c mid (call step) [] _ last ∙ ends_none c _);
        }
