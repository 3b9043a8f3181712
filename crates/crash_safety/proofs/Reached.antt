-- What every list from a fresh consumer leaves is within demand 3's invariant, with the book that its events make. Assumes
-- nothing.
use Prim.Native.Nat.{ℕ}
use mathlib.Core.Path.{◌≡◌}
use mathlib.Core.List.{List}
use Rattle.types.specs.Refusal.{done}
use Rattle.types.specs.Table.{Passed}
use Rattle.consumer.specs.State.{Configuration, State}
use Rattle.consumer.specs.Valid.{Fits}
use Rattle.starts.specs.Restart.{start_table, start}
use Rattle.crash_safety.specs.Book.{empty_book, book_after}
use Rattle.crash_safety.specs.Runs.{Item, run, ends, fresh_world}
use Rattle.crash_safety.proofs.Law.{Ledger, empty_ledger, noted, Law, folded, folded-book}
use Rattle.crash_safety.proofs.Runs.{at-end}
use Rattle.crash_safety.proofs.Invariant.{Inv}
use Rattle.crash_safety.proofs.Kept.{item-kept}
use Rattle.crash_safety.proofs.Start.{begins_well}

pub record Reached (c : Configuration) (n : ℕ) (s : State) (items : List Item) : Type 0 where
  pub accepted : Passed (start_table c n)
  pub ledger : Ledger
  pub books : ledger.book ≡ book_after empty_book (run c (fresh_world s n) items)
  pub inv : Inv c n ledger (ends c (fresh_world s n) items)

pub reached : (c : Configuration) (n : ℕ) (s : State) (items : List Item) → Fits c.settings → start c n ≡ done s → Reached c n s items
reached c n s items f e =
    let b = begins_well c n s f e in
    record {
      accepted = b.accepted;
      ledger = folded noted empty_ledger (run c (fresh_world s n) items);
      books = folded-book (run c (fresh_world s n) items) empty_ledger;
      inv = at-end noted (Law c.settings.policy) (Inv c n) c (item-kept c n b.accepted) items empty_ledger (fresh_world s n) b.inv;
    }
