-- Begin, each step, each way in which the power may fail in a step, and a restart keep the invariant and the law. Assumes
-- nothing.
use Prim.Native.Nat.{ℕ, suc, ◌≤◌}
use native.Mathlib.Omega.{arith}
use mathlib.Core.Path.{◌≡◌, refl, sym, ◌∙◌}
use mathlib.Core.Bool.{Bool, true, false, cond}
use mathlib.Core.List.{List}
use mathlib.Core.Option.{Option}
use lib.Dec.{eqb}
use lib.ListN.{length}
use borrow.Author.Tests.{eqb-false, eq-eqb, ne_eqb}
use Rattle.types.specs.Refusal.{Result, refused, done}
use Rattle.types.specs.Table.{Passed}
use Rattle.types.proofs.Cases.{split}
use Rattle.lease.specs.Counts.{all_attempt_counts}
use Rattle.journal.specs.Area.{write_at}
use Rattle.consumer.specs.State.{Configuration, State}
use Rattle.checkpoint.specs.Checkpoint.{flushed, Writing, is_last, next_place, next_block, going, step}
use Rattle.checkpoint.specs.Checkpoint as checkpoint
use Rattle.checkpoint.proofs.Open.{begin-says}
use Rattle.checkpoint.proofs.Valid.{flushed-valid}
use Rattle.starts.specs.Restart.{start_table}
use Rattle.starts.specs.Restart as restarts
use Rattle.machine.specs.Calls.{stepped, failed}
use Rattle.machine.specs.Transitions.{Phase, idle, writing, off, After, gives, left_as, began_as, stepped_as, restarted_as}
use Rattle.crash_safety.specs.Book.{Page, renewed}
use Rattle.power_cut.specs.Cut.{Cut, old, new, torn, is_torn, cut_at, cut_on}
use Rattle.crash_safety.specs.Runs.{world, keeps_journal}
use Rattle.crash_safety.specs.Demand3.{Finds}
use Rattle.crash_safety.proofs.Law.{Ledger, ledger, noted, Law}
use Rattle.crash_safety.proofs.Runs.{Answered}
use Rattle.crash_safety.proofs.Invariant.{Saved, restored, Journal, Agrees, Stands, is-ready, Written, Inv}
use Rattle.crash_safety.proofs.Journals.{restart-finds, stored}
use Rattle.crash_safety.proofs.Writes.{none_written, more-journal, more-written, header-journal, torn-journal}

-- a state without leases has the counts that it carries
pub restored-agrees : (c : Configuration) (n : ℕ) (v : Saved) (p : Page) → Finds p (restored c n v) → Agrees p (restored c n v)
unfolding all_attempt_counts
restored-agrees c n v p f = record { settles = f.settles; counts = f.counts }

-- what a checkpoint stores of a state is found again
pub stored-found : (c : Configuration) (n : ℕ) (s : State) (p : Page) → Agrees p s → Finds p (restored c n (stored s))
stored-found c n s p g = record { settles = g.settles; counts = g.counts }

pub flushed-agrees : (s : State) (p : Page) → Agrees p s → Agrees p (flushed s)
unfolding all_attempt_counts
flushed-agrees s p g = record { settles = g.settles; counts = g.counts }

module _ (c : Configuration) (n : ℕ) (l : Ledger) (a : List ℕ) where
  abbrev Kept : Option After → Type 0
  Kept = Answered noted (Law c.settings.policy) (Inv c n) l

  -- every generation handed out lies below the ceiling that a restart would begin at
  pub below-ceiling : (p : Phase) (inv : Inv c n l (world p a)) → l.floor ≤ inv.saved.ceiling
  below-ceiling (idle s) inv = omega (arith, inv.callable.floor, inv.callable.valid.under-ceiling, inv.callable.ceiling)
  below-ceiling (writing w) inv = omega (arith, inv.callable.0.floor, inv.callable.0.valid.under-ceiling, inv.callable.0.ceiling)
  below-ceiling off inv = inv.callable

  -- ## restart
  module _ (accepted : Passed (start_table c n)) where
    pub restart-kept : (p : Phase) → Inv c n l (world p a) → Kept (restarted_as p a (restarts.restart c a))
    restart-kept p inv =
        rw (restart-finds c n a inv.saved accepted inv.journal) (record {
          says = (inv.finds, below-ceiling p inv, tt);
          keeps = record {
            saved = inv.saved;
            journal = inv.journal;
            finds = inv.finds;
            callable = record {
              valid = inv.journal.valid;
              size = refl;
              settings = refl;
              ceiling = refl;
              next = refl;
              agrees = restored-agrees c n inv.saved l.book.copy inv.finds;
              redeliveries = refl;
              floor = below-ceiling p inv;
            };
          };
        })

  -- ## begin
  begun_kept : (s : State) (w : ℕ) → Inv c n l (world (idle s) a) → (r : Result Writing) → checkpoint.begin s w ≡ r → Kept (began_as s a r)
  begun_kept s w inv (refused r) e = record { says = (tt, tt, tt); keeps = inv }
  begun_kept s w inv (done r) e =
      let d = begin-says s w r e in
      record {
        says = (tt, tt, tt);
        keeps = record {
          saved = inv.saved;
          journal = inv.journal;
          finds = inv.finds;
          callable = rw (← d.1) (inv.callable, none_written s a inv.callable.valid d.0.numbered);
        };
      }

  pub begin-kept : (s : State) → Inv c n l (world (idle s) a) → (w : ℕ) → Kept (began_as s a (checkpoint.begin s w))
  begin-kept s inv w = begun_kept s w inv (checkpoint.begin s w) refl

  -- ## a step
  module _ (w : Writing) (inv : Inv c n l (world (writing w) a)) where
    abbrev s : State
    s = w.state

    abbrev now : Stands c n inv.saved l s
    now = inv.callable.0

    abbrev so_far : Written a w
    so_far = inv.callable.1

    -- the journal with the next block
    abbrev longer : List ℕ
    longer = write_at a (next_place w) (next_block w)

    -- zeros or a body
    module _ (more : is_last w ≡ false) where
      more-kept : Journal c n longer inv.saved
      more-kept = more-journal c n inv.saved a w inv.journal (is-ready now) so_far more

      pub more-made : Inv c n l (world (writing (checkpoint.writing s (suc w.written))) longer)
      more-made =
          record {
            saved = inv.saved;
            journal = more-kept;
            finds = inv.finds;
            callable = (now, more-written c n inv.saved a w inv.journal (is-ready now) so_far more);
          }

    -- the header
    module _ (all : is_last w ≡ true) where
      full-kept : Journal c n longer (stored s)
      full-kept = header-journal c n inv.saved a w inv.journal (is-ready now) so_far all

      pub finished : Inv c n (ledger (renewed l.book) 0 l.floor) (world (idle (flushed s)) longer)
      finished =
          record {
            saved = stored s;
            journal = full-kept;
            finds = stored-found c n s l.book.page now.agrees;
            callable = record {
              valid = flushed-valid s so_far.valid.numbered now.valid;
              size = now.size;
              settings = now.settings;
              ceiling = refl;
              next = refl;
              agrees = flushed-agrees s l.book.page now.agrees;
              redeliveries = refl;
              floor = now.floor;
            };
          }

      pub left-new : Inv c n (ledger (renewed l.book) 0 l.floor) (world off longer)
      left-new =
          record {
            saved = stored s;
            journal = full-kept;
            finds = stored-found c n s l.book.page now.agrees;
            callable = omega (arith, now.floor, now.valid.under-ceiling, now.valid.ceiling-fits);
          }

    pub same_length : eqb (length a) s.size ≡ true
    same_length = eq-eqb (length a) s.size (inv.journal.size ∙ sym now.size)

    -- by whether the block is the header
    made_kept : (last : Bool) → is_last w ≡ last
        → Kept (gives (stepped (done (record { block = next_place w; last = last })))
        (left_as (cond last (checkpoint.finished (flushed s)) (going (checkpoint.writing s (suc w.written))))) longer)
    made_kept true t = record { says = (tt, tt, tt); keeps = finished t }
    made_kept false t = record { says = (tt, tt, tt); keeps = more-made t }

    pub step_kept : Kept (stepped_as (step w a))
    unfolding step
    step_kept = rw same_length (made_kept (is_last w) refl)

    -- other memory is refused
    pub elsewhere-kept : (b : List ℕ) → eqb (length b) (length a) ≡ false → Kept (keeps_journal a (stepped_as (step w b)))
    unfolding step
    elsewhere-kept b e =
        rw (ne_eqb (length b) s.size (λ q. eqb-false (length b) (length a) e (q ∙ now.size ∙ sym inv.journal.size)))
        (record { says = (tt, tt, tt); keeps = inv })

    -- ## the power fails
    pub left-off : (a' : List ℕ) → Journal c n a' inv.saved → Inv c n l (world off a')
    left-off a' j = record { saved = inv.saved; journal = j; finds = inv.finds; callable = below-ceiling (writing w) inv }

    new-kept : (last : Bool) → is_last w ≡ last → Kept (gives (failed last) off longer)
    new-kept true t = record { says = (tt, tt, tt); keeps = left-new t }
    new-kept false t = record { says = (tt, tt, tt); keeps = left-off longer (more-kept t) }

    cut-at-kept : (k : Cut) → Kept (cut_at w a k)
    cut-at-kept old = record { says = (tt, tt, tt); keeps = left-off a inv.journal }
    cut-at-kept new = new-kept (is_last w) refl
    cut-at-kept (torn b) =
        split (is_torn b)
        (λ t. rw t (record {
          says = (tt, tt, tt);
          keeps = left-off (write_at a (next_place w) b) (torn-journal c n inv.saved a w inv.journal (is-ready now) so_far b t);
        }))
        (λ t. rw t tt)

    pub cut-kept : (k : Cut) → Kept (cut_on w a k)
    cut-kept k = rw same_length (cut-at-kept k)
