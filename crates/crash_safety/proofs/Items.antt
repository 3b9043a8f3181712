-- Which items can be made, by who can be called: a proof about every item from proofs about those. Assumes nothing.
use Prim.Native.Nat.{ℕ}
use mathlib.Core.Path.{◌≡◌, refl}
use mathlib.Core.Bool.{true, false, ◌&&◌}
use mathlib.Core.List.{List}
use mathlib.Core.Option.{Option, none}
use lib.Dec.{eqb}
use lib.ListN.{length}
use Rattle.types.proofs.Cases.{split, both}
use Rattle.consumer.specs.State.{Configuration}
use Rattle.checkpoint.specs.Checkpoint as checkpoint
use Rattle.starts.specs.Restart as restarts
use Rattle.machine.specs.Calls.{Ask, ask, begin, step, restart, u64, fits}
use Rattle.machine.specs.Transitions.{Phase, idle, writing, off, After, asked, began_as, stepped_as, restarted_as, transition}
use Rattle.power_cut.specs.Cut.{Cut, cut_on}
use Rattle.crash_safety.specs.Runs.{Item, call, step_on, cut, keeps_journal, world, next}
use Rattle.crash_safety.specs.Demand3.{restart_in}

-- what has to be shown of the items that can be made beside a restart, which always can
abbrev pub Shown : (Item → Option After → Type 0) → List ℕ → Phase → Type 0
Shown N a (idle s) =
    ((w : ℕ) (q : Ask) → fits q ≡ true → N (call (ask w q)) (asked s a w q)) ×
    ((w : ℕ) → N (call (begin w)) (began_as s a (checkpoint.begin s w)))
Shown N a (writing w) =
    N (call step) (stepped_as (checkpoint.step w a)) ×
    ((b : List ℕ) → eqb (length b) (length a) ≡ false → N (step_on b) (keeps_journal a (stepped_as (checkpoint.step w b)))) ×
    ((k : Cut) → N (cut k) (cut_on w a k))
Shown N a off = Unit {0}

module _ (c : Configuration) (N : Item → Option After → Type 0) (skip : (i : Item) → restart_in i ≡ 0 → N i none) where
  pub next_cases : (p : Phase) (a : List ℕ) → N (call restart) (restarted_as p a (restarts.restart c a)) → Shown N a p
      → (i : Item) → N i (next c (world p a) i)
  unfolding next transition
  next_cases p a again shown (call restart) = again
  next_cases (idle s) a again shown (call (ask w q)) =
      split (u64 w && fits q) (λ t. rw t (shown.0 w q (both (u64 w) (fits q) t).1)) (λ t. rw t (skip (call (ask w q)) refl))
  next_cases (writing r) a again shown (call (ask w q)) =
      split (u64 w && fits q) (λ t. rw t (skip (call (ask w q)) refl)) (λ t. rw t (skip (call (ask w q)) refl))
  next_cases off a again shown (call (ask w q)) =
      split (u64 w && fits q) (λ t. rw t (skip (call (ask w q)) refl)) (λ t. rw t (skip (call (ask w q)) refl))
  next_cases (idle s) a again shown (call (begin w)) =
      split (u64 w) (λ t. rw t (shown.1 w)) (λ t. rw t (skip (call (begin w)) refl))
  next_cases (writing r) a again shown (call (begin w)) =
      split (u64 w) (λ t. rw t (skip (call (begin w)) refl)) (λ t. rw t (skip (call (begin w)) refl))
  next_cases off a again shown (call (begin w)) =
      split (u64 w) (λ t. rw t (skip (call (begin w)) refl)) (λ t. rw t (skip (call (begin w)) refl))
  next_cases (idle s) a again shown (call step) = skip (call step) refl
  next_cases (writing w) a again shown (call step) = shown.0
  next_cases off a again shown (call step) = skip (call step) refl
  next_cases (idle s) a again shown (step_on b) =
      split (eqb (length b) (length a)) (λ t. rw t (skip (step_on b) refl)) (λ t. rw t (skip (step_on b) refl))
  next_cases (writing w) a again shown (step_on b) =
      split (eqb (length b) (length a)) (λ t. rw t (skip (step_on b) refl)) (λ t. rw t (shown.1 b t))
  next_cases off a again shown (step_on b) =
      split (eqb (length b) (length a)) (λ t. rw t (skip (step_on b) refl)) (λ t. rw t (skip (step_on b) refl))
  next_cases (idle s) a again shown (cut k) = skip (cut k) refl
  next_cases (writing w) a again shown (cut k) = shown.2 k
  next_cases off a again shown (cut k) = skip (cut k) refl
