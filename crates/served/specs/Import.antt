-- A server whose first call is an import: demand 3 in the numbers that it is answered, with what the old server had settled and counted, and
-- every token of the old server refused (24): the day of the move.
-- SPEC.md, "Import".
use Rattle.std.specs.Prelude.{ℕ, ◌+◌, ◌*◌, ◌-◌, ◌≤◌, ◌<◌, ◌≡◌, true, List, [], ◌∷◌, ◌++◌, length, replicate}
use Rattle.std.proofs.Math.Option.{some}
use Rattle.types.specs.Limits.{MAX}
use Rattle.raw.specs.Bytes.{IsBytes}
use Rattle.consumer.specs.State.{State}
use Rattle.consumer.specs.State as state
use Rattle.consumer.specs.declared.Configuration.{Configuration}
use Rattle.starts.specs.Starting.{configuration_of}
use Rattle.machine.specs.Calls.{Ask, ask}
use Rattle.machine.specs.Transitions.{idle}
use Rattle.machine.specs.View.{phase_of, Sound, OffIs}
use Rattle.machine.specs.declared.Machine.{Machine}
use Rattle.answers.specs.declared.Numbers.{Numbers}
use Rattle.server.specs.Transitions.{ImportIs, CallIs}
use Rattle.crash_safety.specs.Runs.{Item, call, world, run}
use Rattle.crash_safety.specs.Book.{Page}
use Rattle.crash_safety.specs.Demand3.{delivers, is_under, restarts_in, limit_of, threshold_of, Limited}
use Rattle.crash_safety.specs.Batch.{is_repeated, different}
use Rattle.crash_safety.specs.Recovery.{begun}
use Rattle.crash_safety.specs.Workers.{operation_of, token_in}
use Rattle.crash_safety.specs.Settled.{state_in}
use Rattle.crash_safety.specs.ForGood.{hands}
use Rattle.crash_safety.specs.Disk.{Disk, disk, area, answers}
use Rattle.crash_safety.specs.Unordered.{DiskItem, does, on_disk, run_on, restarts_on}
use Rattle.crash_safety.specs.From.{book_from, repeated_before, sum}
use Rattle.crash_safety.specs.Import.{snapshots_page, HoldsMoved}
use Rattle.served.specs.Told.{Told, told_of, hand_outs_told, offsets_told, RestartsAnswered}
use Rattle.served.specs.Served.{Served, FindsCopy}
use Rattle.served.specs.ServedOn.{ServedOn, answers_on}
use Rattle.served.specs.Tokens.{unless_barred}

-- the machine that a server begins with, and its journal: by `ninotskev_import` and the first checkpoint, a begin of any worker and as many steps as
-- that is answered; or by a restart of a machine that is off, on the journal that another program left so, with whatever configuration. This restart
-- doesn't count among the C. Neither the import nor the begin nor the restart is refused; the numbers and the bytes are Rust's
pub data Moves (size first : ℕ) (cursor attempts : List ℕ) : Configuration → Machine → List ℕ → Type 0 where
  moves : {s : Configuration} {m : Machine} {a : List ℕ} → first ≤ MAX → IsBytes cursor → IsBytes attempts
      → (before made : Machine) (n : Numbers) → ImportIs before s size first cursor attempts n made → n.0 ≡ 0
      → (v : ℕ) (b : Numbers) (ws : List Numbers) → Served made (replicate size 0) (begun v b.2) (b ∷ ws) m a → b.0 ≡ 0
      → Moves size first cursor attempts s m a
  opens : {s : Configuration} {m : Machine} {a : List ℕ} (other : Configuration) (left before : Machine) (n : Numbers)
      → Moves size first cursor attempts other left a → OffIs s before
      → (Sound before → (out : List ℕ) → CallIs before 0 18 0 0 0 0 a out n m a out) → n.0 ≡ 0
      → Moves size first cursor attempts s m a

-- ## demand 3, of the numbers that a list's calls were answered, where a page was there before
pub record InNumbersFrom (c : state.Configuration) (p : Page) (first : ℕ) (is : List Item) (ts : List Told) : Type 0 where
  -- an offset that came with count k: M − k, not below 0, and C × (N + 1)
  pub bound : Limited c → (o : ℕ) → hand_outs_told (delivers o) ts ≤ limit_of c - p.count o + restarts_in is * (threshold_of c + 1)
  pub generations : (g : ℕ) → hand_outs_told (is_under g) ts ≤ 1
  pub above : (g : ℕ) → g < first → hand_outs_told (is_under g) ts ≡ 0
  pub batch : Limited c → sum (repeated_before (limit_of c) p) (different (offsets_told ts)) + hand_outs_told is_repeated ts
      ≤ (limit_of c - 1) * length (different (offsets_told ts)) + restarts_in is * threshold_of c
  -- what was settled is not handed out
  pub settled : (o : ℕ) → p.settled o ≡ true → hand_outs_told (hands o) ts ≡ 0
  pub restarts : RestartsAnswered ts

pub record HoldsImported (s : Configuration) (p : Page) (first : ℕ) (m : Machine) (a : List ℕ) (is : List Item) (ns : List Numbers) (last : Machine) (end : List ℕ)
    : Type 0 where
  pub numbers : InNumbersFrom (configuration_of s) p first is (told_of is ns)
  -- what the machine in memory is, and what it or another finds next
  pub sound : Sound last
  pub configuration : last.configuration ≡ s
  pub found : FindsCopy s (book_from p) (run (configuration_of s) (world (phase_of m) a) is) end

-- every server
unfoldable pub ImportServed : Type 0
ImportServed =
    (s : Configuration) (size first : ℕ) (cursor attempts : List ℕ) (m : Machine) (a : List ℕ) → Moves size first cursor attempts s m a
    → (is : List Item) (ns : List Numbers) (last : Machine) (end : List ℕ) → Served m a is ns last end
    → HoldsImported s (snapshots_page cursor attempts) first m a is ns last end

-- on a disk that keeps no order between two syncs, and holds that journal
pub record HoldsImportedOn (s : Configuration) (p : Page) (first : ℕ) (m : Machine) (a : List ℕ) (is : List DiskItem) (ns : List Numbers) (last : Machine)
    (end : Disk) : Type 0 where
  pub answered : answers_on (configuration_of s) (on_disk (phase_of m) (disk a [])) is ≡ ns
  pub holds : HoldsMoved (configuration_of s) p first (restarts_on is) (run_on (configuration_of s) (on_disk (phase_of m) (disk a [])) is) (state_in (phase_of last))
  pub sound : Sound last
  pub configuration : last.configuration ≡ s
  pub found : FindsCopy s (book_from p) (run_on (configuration_of s) (on_disk (phase_of m) (disk a [])) is ++ answers end.pending) (area end)

-- a server that begins with an import, on a disk that keeps no order
unfoldable pub ImportServedOn : Type 0
ImportServedOn =
    (s : Configuration) (size first : ℕ) (cursor attempts : List ℕ) (m : Machine) (a : List ℕ) → Moves size first cursor attempts s m a
    → (is : List DiskItem) (ns : List Numbers) (last : Machine) (end : Disk) → ServedOn m (disk a []) is ns last end
    → HoldsImportedOn s (snapshots_page cursor attempts) first m a is ns last end

-- ## tokens of the old server
-- whatever the server does; then a call, which can be made, with a token whose generation is below the first one
unfoldable pub OldTokenServed : Type 0
OldTokenServed =
    (s : Configuration) (size first : ℕ) (cursor attempts : List ℕ) (m : Machine) (a : List ℕ) → Moves size first cursor attempts s m a
    → (is : List Item) (ns : List Numbers) (m₁ m₂ : Machine) (a₁ a₂ : List ℕ) → Served m a is ns m₁ a₁
    → (here : State) → phase_of m₁ ≡ idle here
    → (w o g : ℕ) (q : Ask) (p : Numbers) → token_in q ≡ some (o, g) → g < first → Served m₁ a₁ (call (ask w q) ∷ []) (p ∷ []) m₂ a₂
    → p.0 ≡ unless_barred (configuration_of s) w (operation_of q) 24

-- on the disk
unfoldable pub OldTokenServedOn : Type 0
OldTokenServedOn =
    (s : Configuration) (size first : ℕ) (cursor attempts : List ℕ) (m : Machine) (a : List ℕ) → Moves size first cursor attempts s m a
    → (is : List DiskItem) (ns : List Numbers) (m₁ m₂ : Machine) (d₁ d₂ : Disk) → ServedOn m (disk a []) is ns m₁ d₁
    → (here : State) → phase_of m₁ ≡ idle here
    → (w o g : ℕ) (q : Ask) (p : Numbers) → token_in q ≡ some (o, g) → g < first → ServedOn m₁ d₁ (does (ask w q) ∷ []) (p ∷ []) m₂ d₂
    → p.0 ≡ unless_barred (configuration_of s) w (operation_of q) 24
