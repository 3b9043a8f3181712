-- Recovery. A restart depends on the configuration and the journal alone, changes no byte, and made twice answers the same twice. A
-- checkpoint counts by its header: with the power failing in any of its steps, unless that leaves the header wholly written, a
-- restart gives the consumer that a restart would have given in place of the checkpoint; with the header wholly written it gives
-- the one that a restart gives after the finished checkpoint. And whatever list came before, a step can be cut in each of its ways.
-- SPEC.md, "Restart".
use Rattle.std.specs.Prelude.{ℕ, suc, ◌≤◌, ◌<◌, ◌≡◌, true, List, [], ◌∷◌, ◌++◌, replicate}
use Rattle.types.specs.Limits.{MAX32}
use Rattle.types.specs.Refusal.{done}
use Rattle.consumer.specs.State.{Configuration, State}
use Rattle.consumer.specs.Valid.{Fits}
use Rattle.consumer.specs.Rights.{checkpointing}
use Rattle.checkpoint.specs.Checkpoint.{writes, Writing}
use Rattle.starts.specs.Restart.{start}
use Rattle.machine.specs.Calls.{begin, step, restart}
use Rattle.machine.specs.Transitions.{idle, writing}
use Rattle.power_cut.specs.Cut.{Cut, old, new, torn, is_torn, cut_at}
use Rattle.crash_safety.specs.Runs.{Item, call, cut, World, next, run, ends, fresh_world}
use Rattle.crash_safety.specs.Workers.{May}

-- ## a restart
pub record Deterministic (c : Configuration) (w : World) : Type 0 where
  -- the same journal, the same answer
  pub same : (v : World) → v.journal ≡ w.journal → run c v (call restart ∷ []) ≡ run c w (call restart ∷ [])
  pub twice : run c w (call restart ∷ call restart ∷ []) ≡ run c w (call restart ∷ []) ++ run c w (call restart ∷ [])
  pub no_byte : (ends c w (call restart ∷ [])).journal ≡ w.journal

-- the same journal gives the same restart. Whoever can be called, on whatever journal
unfoldable pub DeterministicRecovery : Type 0
DeterministicRecovery = (c : Configuration) (w : World) → Deterministic c w

-- ## a checkpoint
-- worker v begins, and so many steps follow
abbrev pub begun : ℕ → ℕ → List Item
begun v k = call (begin v) ∷ replicate k (call step)

-- the power fails in the next step, and a restart comes
abbrev pub then_cut : Cut → List Item
then_cut k = cut k ∷ call restart ∷ []

-- a header can hold the number of the next group
abbrev pub HasNumber : State → Type 0
HasNumber s = s.next.number ≤ MAX32

pub record WritesCount (c : Configuration) (v : ℕ) (w : World) (s : State) : Type 0 where
  pub left-old : (k : ℕ) → k < writes s → (ends c w (begun v k ++ then_cut old)).phase ≡ (ends c w (call restart ∷ [])).phase
  pub left-torn : (k : ℕ) (b : List ℕ) → k < writes s → is_torn b ≡ true
      → (ends c w (begun v k ++ then_cut (torn b))).phase ≡ (ends c w (call restart ∷ [])).phase
  pub body_new : (k : ℕ) → suc k < writes s → (ends c w (begun v k ++ then_cut new)).phase ≡ (ends c w (call restart ∷ [])).phase
  pub left-new : (k : ℕ) → suc k ≡ writes s
      → (ends c w (begun v k ++ then_cut new)).phase ≡ (ends c w (begun v (writes s) ++ call restart ∷ [])).phase

-- a checkpoint counts by its header, wherever it is cut. After every list that leaves a state with a number for one
-- more group, whichever worker begins that may
unfoldable pub EveryWriteCounts : Type 0
EveryWriteCounts =
    (c : Configuration) (size : ℕ) (s : State) (items : List Item) → Fits c.settings → start c size ≡ done s
    → (left : State) → (ends c (fresh_world s size) items).phase ≡ idle left → HasNumber left
    → (v : ℕ) → May c v checkpointing → WritesCount c v (ends c (fresh_world s size) items) left

-- ## cuts
-- after every list a step can be cut in each way. The journal of a list always has the consumer's length
unfoldable pub EveryCutMade : Type 0
EveryCutMade =
    (c : Configuration) (size : ℕ) (s : State) (items : List Item) → Fits c.settings → start c size ≡ done s
    → (w : Writing) → (ends c (fresh_world s size) items).phase ≡ writing w
    → (k : Cut) → next c (ends c (fresh_world s size) items) (cut k) ≡ cut_at w (ends c (fresh_world s size) items).journal k
