-- What is settled, and until when. An accepted Ack, Term or Commit shows until a restart; with a header wholly written after it, and no
-- restart between, it is for good: no list that goes on from there hands the offset out, and every state has it settled. Nothing less is
-- for good: a restart finds just the book's copy.
-- SPEC.md, "Book".
use Rattle.std.specs.Prelude.{ℕ, ◌≡◌, Bool, true, List, ◌∷◌, ◌++◌, eqb}
use Rattle.std.proofs.Math.Option.{Option, some}
use Rattle.types.specs.Refusal.{done}
use Rattle.cursor.specs.Cursor.{settled}
use Rattle.consumer.specs.State.{Configuration, State}
use Rattle.consumer.specs.Calls.{HandOut}
use Rattle.consumer.specs.Valid.{Fits}
use Rattle.starts.specs.Restart.{start, restart}
use Rattle.machine.specs.Calls.{Event}
use Rattle.crash_safety.specs.Effects.{renewing, effect_of}
use Rattle.crash_safety.specs.Book.{Page, empty_book, book_after}
use Rattle.crash_safety.specs.Runs.{Item, run, ends, fresh_world}
use Rattle.crash_safety.specs.Demand3.{hand_outs, Finds, restarts_seen}
use Rattle.crash_safety.specs.Settled.{settles, state_in}
use Rattle.crash_safety.specs.Unordered.{DiskItem, run_on, ends_on, fresh_disk}

-- a hand-out of an offset, for delivery or as a dead letter
abbrev pub hands : ℕ → HandOut → Bool
hands o h = eqb o h.offset

-- ## events
-- an accepted Ack or Term of the offset, or Commit above it, and no restart after it
pub record SettledSince (o : ℕ) (es : List Event) : Type 0 where
  pub before : List Event
  pub by : Event
  pub since : List Event
  pub parts : es ≡ before ++ (by ∷ since)
  pub named : settles (effect_of by) o ≡ true
  pub no-restart : restarts_seen since ≡ 0

-- so it was, and then a header was wholly written; whatever comes after that
pub record WrittenSince (o : ℕ) (es : List Event) : Type 0 where
  pub before : List Event
  pub header : Event
  pub since : List Event
  pub parts : es ≡ before ++ (header ∷ since)
  pub named : SettledSince o before
  pub written : effect_of header ≡ renewing

-- ## until a restart
-- no event after it hands the offset out, and the state that is left, in hand or in a record, has it settled
pub record Shows (o : ℕ) (es : List Event) (left : Option State) (by : SettledSince o es) : Type 0 where
  pub never : hand_outs (hands o) by.since ≡ 0
  pub state : (s : State) → left ≡ some s → settled s.cursor o ≡ true

-- an accepted Ack, Term or Commit shows until a restart
unfoldable pub ShowsUntilRestart : Type 0
ShowsUntilRestart =
    (c : Configuration) (size : ℕ) (s : State) (items : List Item) → Fits c.settings → start c size ≡ done s
    → (o : ℕ) (by : SettledSince o (run c (fresh_world s size) items))
    → Shows o (run c (fresh_world s size) items) (state_in (ends c (fresh_world s size) items).phase) by

-- ## for good
-- none of these events hands the offset out, and the state that is left after them has it settled
pub record ForGood (o : ℕ) (es : List Event) (left : Option State) : Type 0 where
  pub never : hand_outs (hands o) es ≡ 0
  pub stays : (s : State) → left ≡ some s → settled s.cursor o ≡ true

-- what the book's copy has settled is settled for good. An offset that is settled on the copy after a list, and
-- whatever comes after that list
unfoldable pub SettledForGood : Type 0
SettledForGood =
    (c : Configuration) (size : ℕ) (s : State) (before after : List Item) (o : ℕ) → Fits c.settings → start c size ≡ done s
    → (book_after empty_book (run c (fresh_world s size) before)).copy.settled o ≡ true
    → ForGood o (run c (ends c (fresh_world s size) before) after) (state_in (ends c (ends c (fresh_world s size) before) after).phase)

-- so is what was settled before a header, with no restart between. By an accepted Ack, Term or Commit, and the header
-- is wholly written
unfoldable pub WrittenForGood : Type 0
WrittenForGood =
    (c : Configuration) (size : ℕ) (s : State) (before after : List Item) (o : ℕ) → Fits c.settings → start c size ≡ done s
    → WrittenSince o (run c (fresh_world s size) before)
    → ForGood o (run c (ends c (fresh_world s size) before) after) (state_in (ends c (ends c (fresh_world s size) before) after).phase)

-- ## and nothing else
-- a restart on this journal is not refused, and finds the page
pub record FindsNow (c : Configuration) (a : List ℕ) (p : Page) : Type 0 where
  pub state : State
  pub answered : restart c a ≡ done state
  pub finds : Finds p state

-- after every list a restart finds just the copy. What that has open is open again
unfoldable pub OnlyTheCopy : Type 0
OnlyTheCopy =
    (c : Configuration) (size : ℕ) (s : State) (items : List Item) → Fits c.settings → start c size ≡ done s
    → FindsNow c (ends c (fresh_world s size) items).journal (book_after empty_book (run c (fresh_world s size) items)).copy

-- ## the same on a disk that keeps no order between two syncs
-- `shows_until_restart` on the disk
unfoldable pub ShowsOnDisk : Type 0
ShowsOnDisk =
    (c : Configuration) (size : ℕ) (s : State) (items : List DiskItem) → Fits c.settings → start c size ≡ done s
    → (o : ℕ) (by : SettledSince o (run_on c (fresh_disk s size) items))
    → Shows o (run_on c (fresh_disk s size) items) (state_in (ends_on c (fresh_disk s size) items).phase) by

-- `settled_for_good` on the disk
unfoldable pub SettledOnDisk : Type 0
SettledOnDisk =
    (c : Configuration) (size : ℕ) (s : State) (before after : List DiskItem) (o : ℕ) → Fits c.settings → start c size ≡ done s
    → (book_after empty_book (run_on c (fresh_disk s size) before)).copy.settled o ≡ true
    → ForGood o (run_on c (ends_on c (fresh_disk s size) before) after) (state_in (ends_on c (ends_on c (fresh_disk s size) before) after).phase)

-- `written_for_good` on the disk
unfoldable pub WrittenOnDisk : Type 0
WrittenOnDisk =
    (c : Configuration) (size : ℕ) (s : State) (before after : List DiskItem) (o : ℕ) → Fits c.settings → start c size ≡ done s
    → WrittenSince o (run_on c (fresh_disk s size) before)
    → ForGood o (run_on c (ends_on c (fresh_disk s size) before) after) (state_in (ends_on c (ends_on c (fresh_disk s size) before) after).phase)

-- `only_the_copy` of what the disk holds. A power failure leaves that if it loses all that is pending
unfoldable pub HeldIsTheCopy : Type 0
HeldIsTheCopy =
    (c : Configuration) (size : ℕ) (s : State) (items : List DiskItem) → Fits c.settings → start c size ≡ done s
    → FindsNow c (ends_on c (fresh_disk s size) items).disk.held (book_after empty_book (run_on c (fresh_disk s size) items)).copy
