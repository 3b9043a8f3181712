-- Demand 3 from any journal that a restart accepts: one that a list left, or one that was upgraded, restored from a backup or mended by hand.
-- The list begins with the state that the restart answered, and the book with what that state has; the restart itself is not counted.
-- SPEC.md, "Bounds".
use Rattle.std.specs.Prelude.{ℕ, ◌+◌, ◌*◌, ◌-◌, ◌≤◌, min, ◌≡◌, true, List, [], ◌∷◌}
use Rattle.std.proofs.Math.Option.{Option, some}
use Rattle.types.specs.Refusal.{done}
use Rattle.types.specs.Keyed.{lookup}
use Rattle.raw.specs.Bytes.{IsBytes}
use Rattle.cursor.specs.Cursor.{settled}
use Rattle.consumer.specs.State.{Configuration, State, count_or0}
use Rattle.consumer.specs.Valid.{Fits}
use Rattle.starts.specs.Restart.{restart}
use Rattle.machine.specs.Calls.{Event}
use Rattle.machine.specs.Transitions.{idle}
use Rattle.crash_safety.specs.Effects.{effect_of}
use Rattle.crash_safety.specs.Runs.{Item, world, run, ends}
use Rattle.crash_safety.specs.Book.{Page, Book}
use Rattle.crash_safety.specs.Demand3.{delivers, hand_outs, restarts_in, limit_of, threshold_of, Limited, Holds}
use Rattle.crash_safety.specs.Batch.{is_repeated, offsets_handed_out, different, different_offsets}
use Rattle.crash_safety.specs.Settled.{state_in}
use Rattle.crash_safety.specs.Law.{AtLeast}
use Rattle.crash_safety.specs.ForGood.{hands}
use Rattle.crash_safety.specs.Disk.{disk}
use Rattle.crash_safety.specs.Unordered.{DiskItem, on_disk, run_on, ends_on, restarts_on}

-- what a state that a restart answers has settled and carries
abbrev pub page_of : State → Page
page_of s = record { settled = settled s.cursor; count = λ o. count_or0 (lookup o s.table.carried) }

-- the book that begins with a page
abbrev pub book_from : Page → Book
book_from p = record { page = p; copy = p }

-- ## what was counted before
-- an offset's deliveries, by its count, up to M; and how many of its M − 1 repeated ones
abbrev pub delivered_before : (M : ℕ) → Page → ℕ → ℕ
delivered_before M p o = min (p.count o) M

abbrev pub repeated_before : (M : ℕ) → Page → ℕ → ℕ
repeated_before M p o = min (p.count o - 1) (M - 1)

unfoldable pub sum : (ℕ → ℕ) → List ℕ → ℕ
sum f [] = 0
sum f (x ∷ l) = f x + sum f l

-- ## ceilings
-- each hand-out has a generation of at least g, and what each restart answers a ceiling of at least g
unfoldable pub AllAtLeast : ℕ → List Event → Type 0
AllAtLeast g [] = Unit {0}
AllAtLeast g (e ∷ es) = AtLeast g (effect_of e) × AllAtLeast g es

-- ## the demand
-- what was counted before is within both bounds too: of each offset, and over the batch of those that are handed out
pub record CountsWithin (M N C : ℕ) (p : Page) (es : List Event) : Type 0 where
  pub bound : (o : ℕ) → delivered_before M p o + hand_outs (delivers o) es ≤ M + C * (N + 1)
  pub batch : sum (repeated_before M p) (different (offsets_handed_out es)) + hand_outs is_repeated es ≤ (M - 1) * different_offsets es + C * N

-- what was found, a page and the ceiling g, stays
pub record Keeps (p : Page) (g : ℕ) (es : List Event) (left : Option State) : Type 0 where
  -- no generation below the ceiling that was found is handed out, and the ceiling doesn't fall below it
  pub above : AllAtLeast g es
  pub ceiling : (x : State) → left ≡ some x → g ≤ x.ceiling
  -- what was found settled is not handed out, and stays settled
  pub never : (o : ℕ) → p.settled o ≡ true → hand_outs (hands o) es ≡ 0
  pub stays : (x : State) → left ≡ some x → (o : ℕ) → p.settled o ≡ true → settled x.cursor o ≡ true

pub record HoldsFrom (c : Configuration) (p : Page) (g restarts : ℕ) (es : List Event) (left : Option State) : Type 0 where
  pub holds : Holds c (book_from p) restarts es
  pub counts : Limited c → CountsWithin (limit_of c) (threshold_of c) restarts p es
  pub keeps : Keeps p g es left

-- demand 3 from any journal that a restart accepts. Of every list, from every area of bytes
unfoldable pub Demand3From : Type 0
Demand3From =
    (c : Configuration) (a : List ℕ) (s : State) (items : List Item) → Fits c.settings → IsBytes a → restart c a ≡ done s
    → HoldsFrom c (page_of s) s.ceiling (restarts_in items) (run c (world (idle s) a) items) (state_in (ends c (world (idle s) a) items).phase)

-- `demand_3_from` on the disk. It keeps no order between two syncs, and holds this area
unfoldable pub UnorderedFrom : Type 0
UnorderedFrom =
    (c : Configuration) (a : List ℕ) (s : State) (items : List DiskItem) → Fits c.settings → IsBytes a → restart c a ≡ done s
    → HoldsFrom c (page_of s) s.ceiling (restarts_on items) (run_on c (on_disk (idle s) (disk a [])) items)
    (state_in (ends_on c (on_disk (idle s) (disk a [])) items).phase)
