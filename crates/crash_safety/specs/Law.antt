-- The law of the events: what each event of a list is allowed by the events before it, without a look at a state or a journal; and that
-- every state agrees with the book that the events make. Both bounds and the generations follow from it by counting.
-- SPEC.md, "Book".
use Rattle.std.specs.Prelude.{ℕ, suc, ◌+◌, ◌≤◌, ◌<◌, ◌≡◌, false, cond, List, [], ◌∷◌, leb}
use Rattle.std.proofs.Math.Option.{Option, none, some}
use Rattle.types.specs.Limits.{sat32}
use Rattle.types.specs.Refusal.{refused, done}
use Rattle.cursor.specs.Cursor.{settled}
use Rattle.delivery.specs.Policy.{Policy, disposition}
use Rattle.consumer.specs.State.{Configuration, State}
use Rattle.consumer.specs.Calls.{HandOut}
use Rattle.consumer.specs.Questions.{count_of}
use Rattle.consumer.specs.Valid.{Fits}
use Rattle.starts.specs.Restart.{start}
use Rattle.machine.specs.Calls.{Event}
use Rattle.crash_safety.specs.Effects.{Effect, handing, settling, requeuing, renewing, restarting, nothing, effect_of}
use Rattle.crash_safety.specs.Book.{Page, Book, empty_book, note, book_after}
use Rattle.crash_safety.specs.Runs.{Item, run, ends, fresh_world}
use Rattle.crash_safety.specs.Demand3.{handed, Right}
use Rattle.crash_safety.specs.Settled.{state_in}
use Rattle.crash_safety.specs.Unordered.{DiskItem, run_on, ends_on, fresh_disk}

-- ## what the events before tell
-- the redeliveries since the last flush, which a header wholly written and a restart make 0
abbrev pub since : ℕ → Effect → ℕ
since n (handing o h) = cond (leb 2 h.deliveries) (n + 1) n
since n (settling named) = n
since n (requeuing o) = n
since n renewing = 0
since n (restarting (refused r)) = n
since n (restarting (done s)) = 0
since n nothing = n

-- a number above every generation handed out
abbrev pub above : ℕ → Option HandOut → ℕ
above g none = g
above g (some h) = suc h.generation

-- the book, and both numbers
pub record Ledger : Type 0 where
  pub book : Book
  pub redeliveries : ℕ
  pub floor : ℕ

abbrev pub ledger : Book → ℕ → ℕ → Ledger
ledger b n g = record { book = b; redeliveries = n; floor = g }

abbrev pub noted : Ledger → Event → Ledger
noted l e =
    ledger (note l.book (effect_of e)) (since l.redeliveries (effect_of e)) (above l.floor (handed (effect_of e)))

abbrev pub empty_ledger : Ledger
empty_ledger = ledger empty_book 0 0

-- ## the law
-- a hand-out that answers a claim of offset o: the book has it unsettled, its count is the book's and 1, at most 4294967295, and says where
-- it goes; and the redeliveries are below the threshold
pub record Lawful (p : Policy) (l : Ledger) (o : ℕ) (h : HandOut) : Type 0 where
  pub offset : h.offset ≡ o
  pub unsettled : l.book.page.settled o ≡ false
  pub counted : h.deliveries ≡ sat32 (l.book.page.count o) 1
  pub destined : h.destination ≡ disposition p h.deliveries
  pub under : l.redeliveries < p.flush_redeliveries

abbrev pub HandsOut : Policy → Ledger → Effect → Type 0
HandsOut p l (handing o h) = Lawful p l o h
HandsOut p l (settling named) = Unit {0}
HandsOut p l (requeuing o) = Unit {0}
HandsOut p l renewing = Unit {0}
HandsOut p l (restarting a) = Unit {0}
HandsOut p l nothing = Unit {0}

-- a hand-out has a generation of at least g, and what a restart answers a ceiling of at least g
abbrev pub AtLeast : ℕ → Effect → Type 0
AtLeast g (handing o h) = g ≤ h.generation
AtLeast g (settling named) = Unit {0}
AtLeast g (requeuing o) = Unit {0}
AtLeast g renewing = Unit {0}
AtLeast g (restarting (refused r)) = Unit {0}
AtLeast g (restarting (done s)) = g ≤ s.ceiling
AtLeast g nothing = Unit {0}

-- what a restart finds; generations and ceilings above all generations before; and the rest of a hand-out
abbrev pub Law : Policy → Ledger → Event → Type 0
Law p l e = Right l.book.copy (effect_of e) × AtLeast l.floor (effect_of e) × HandsOut p l (effect_of e)

-- ## along a list of events
-- P holds of each event, beside what `fold` makes of those before it
unfoldable pub Along : {G : Type 0} → (G → Event → G) → (G → Event → Type 0) → G → List Event → Type 0
Along fold P g [] = Unit {0}
Along fold P g (e ∷ es) = P g e × Along fold P (fold g e) es

-- what `fold` makes of all of them
unfoldable pub folded : {G : Type 0} → (G → Event → G) → G → List Event → G
folded fold g [] = g
folded fold g (e ∷ es) = folded fold (fold g e) es

-- ## every list
-- settled offsets and counts are the page's
pub record Agrees (p : Page) (s : State) : Type 0 where
  pub settles : (o : ℕ) → settled s.cursor o ≡ p.settled o
  pub counts : (o : ℕ) → count_of s o ≡ p.count o

-- the events obey the law, and the state that is left, in hand or in a record, agrees with the book's page
pub record Lawfully (c : Configuration) (es : List Event) (left : Option State) : Type 0 where
  pub obeyed : Along noted (Law c.settings.policy) empty_ledger es
  pub agrees : (s : State) → left ≡ some s → Agrees (book_after empty_book es).page s

-- every event obeys the law, and every state agrees with the book. Of every list, from every fresh consumer on a zeroed
-- journal
unfoldable pub LawOfEvents : Type 0
LawOfEvents =
    (c : Configuration) (size : ℕ) (s : State) (items : List Item) → Fits c.settings → start c size ≡ done s
    → Lawfully c (run c (fresh_world s size) items) (state_in (ends c (fresh_world s size) items).phase)

-- `law-of-events` on the disk. It keeps no order between two syncs
unfoldable pub LawOnDisk : Type 0
LawOnDisk =
    (c : Configuration) (size : ℕ) (s : State) (items : List DiskItem) → Fits c.settings → start c size ≡ done s
    → Lawfully c (run_on c (fresh_disk s size) items) (state_in (ends_on c (fresh_disk s size) items).phase)
