-- Each call on the state keeps the invariant and the law: a refusal leaves everything as it was, and what an effect does to
-- settled offsets and counts is what the book notes of it. The journal is untouched. Assumes nothing.
use Prim.Native.Nat.{ℕ, ◌+◌, ◌≤◌}
use native.Mathlib.Omega.{arith}
use mathlib.Core.Path.{◌≡◌, refl, sym, ap, ◌∙◌}
use mathlib.Core.Bool.{Bool, true, cond, ◌||◌}
use mathlib.Core.List.{List}
use mathlib.Core.Option.{Option}
use lib.Dec.{ltb, leb, eqb}
use borrow.Author.Tests.{leb-true}
use Rattle.types.specs.Limits.{MAX, sat32}
use Rattle.types.specs.Refusal.{Result, done}
use Rattle.types.specs.Table.{Answer}
use Rattle.types.proofs.Cases.{split, both}
use Rattle.cursor.specs.Cursor.{Cursor}
use Rattle.delivery.specs.Policy.{disposition}
use Rattle.lease.specs.State.{Table}
use Rattle.lease.specs.Operations as lease
use Rattle.lease.specs.Operations.{next_count, after_grant}
use Rattle.consumer.specs.State.{Configuration, State, with_both}
use Rattle.consumer.specs.Calls as consumer
use Rattle.consumer.specs.Calls.{hand_out, nack_deadline, with_committed}
use Rattle.consumer.specs.Questions.{count_of}
use Rattle.consumer.specs.Valid.{Valid}
use Rattle.consumer.proofs.Valid.{claimed-valid, acked-settled, acked-valid, nacked-valid, progressed-valid, committed-settled, committed-valid}
use Rattle.consumer.proofs.Counts.{next-count}
use Rattle.consumer.proofs.Effects.{claimed-count, acked-count, nacked-count, progressed-count, committed-count, unchanged-settled, unchanged-count}
use Rattle.consumer.proofs.Open.{ClaimOpen, claim_cases, AckOpen, ack_cases, nack_cases, progress_cases, commit_cases}
use Rattle.machine.specs.Calls.{Ask, claim, ack, term, nack, progress, commit, look, fits, u64, Event, claimed, acked, termed, nacked, progressed, committed}
use Rattle.machine.specs.Transitions.{idle, asked}
use Rattle.crash_safety.specs.Effects.{only, below}
use Rattle.crash_safety.specs.Book.{with_page, with_hand_out, settle}
use Rattle.crash_safety.specs.Runs.{world}
use Rattle.crash_safety.proofs.Law.{Ledger, ledger, noted, Law, Lawful}
use Rattle.crash_safety.proofs.Runs.{Made, Answered}
use Rattle.crash_safety.proofs.Invariant.{Agrees, Stands, Inv}

module _ (c : Configuration) (n : ℕ) (l : Ledger) (s : State) (a : List ℕ) (inv : Inv c n l (world (idle s) a)) where
  -- what an answer says and leaves
  abbrev Kept : {A : Type 0} → (Result A → Event) → Answer A State → Type 0
  Kept event r =
      Made noted (Law c.settings.policy) (Inv c n) l (record { event = event r.outcome; phase = idle r.state; area = a })

  abbrev now : Stands c n inv.saved l s
  now = inv.callable

  -- cursor and table change with the ledger, which keeps its copy
  with-ledger : (l' : Ledger) (k : Cursor) (t : Table) → l'.book.copy ≡ l.book.copy → Valid (with_both s k t)
      → Agrees l'.book.page (with_both s k t) → t.redeliveries ≡ l'.redeliveries → l'.floor ≤ t.next_generation
      → Inv c n l' (world (idle (with_both s k t)) a)
  with-ledger l' k t copy v agrees r f =
      record {
        saved = inv.saved;
        journal = inv.journal;
        finds = rw copy inv.finds;
        callable = record {
          valid = v;
          size = now.size;
          settings = now.settings;
          ceiling = now.ceiling;
          next = now.next;
          agrees = agrees;
          redeliveries = r;
          floor = f;
        };
      }

  -- ## claim
  module _ (w o clock : ℕ) (m : o ≤ MAX) (p : ClaimOpen s w o clock) where
    lawful : Lawful c.settings.policy l o (hand_out s o)
    lawful =
        record {
          offset = refl;
          unsettled = sym (now.agrees.settles o) ∙ p.unsettled;
          counted = next-count s now.valid o ∙ ap (λ k. sat32 k 1) (now.agrees.counts o);
          destined = ap (λ q. disposition q.policy (next_count s.table o)) now.settings;
          under = omega (arith, p.below-threshold, now.redeliveries, ap (λ q. q.policy.flush_redeliveries) now.settings);
        }

    counts-after : (x : ℕ) → count_of (consumer.claimed s w o clock) x ≡ (with_hand_out l.book.page o).count x
    counts-after x = claimed-count s w o clock now.valid p m x ∙ rw (now.agrees.counts x)

    raised : after_grant s.table.redeliveries (next_count s.table o)
        ≡ cond (leb 2 (next_count s.table o)) (l.redeliveries + 1) l.redeliveries
    raised =
        split (leb 2 (next_count s.table o))
        (λ t. rw t (omega (arith, p.below-threshold, now.valid.fits.threshold-fits, now.redeliveries)))
        (λ t. rw t now.redeliveries)

    handed_out : Inv c n (noted l (claimed o clock (done (hand_out s o)))) (world (idle (consumer.claimed s w o clock)) a)
    handed_out =
        with-ledger (noted l (claimed o clock (done (hand_out s o)))) s.cursor (lease.grant s.table w o clock) refl
        (claimed-valid s w o clock now.valid p m)
        (record { settles = now.agrees.settles; counts = counts-after })
        raised
        (omega arith)

  claim-kept : (w o clock : ℕ) → o ≤ MAX → Kept (claimed o clock) (consumer.claim s w o clock)
  claim-kept w o clock m =
      claim_cases s w o clock (Kept (claimed o clock)) (λ r. record { says = (tt, tt, tt); keeps = inv })
      (λ p. record { says = (tt, now.floor, lawful w o clock m p); keeps = handed_out w o clock m p })

  -- the ledger with more offsets settled
  abbrev settled_more : (ℕ → Bool) → Ledger
  settled_more named = ledger (with_page l.book (settle l.book.page named)) l.redeliveries l.floor

  -- ## Ack and Term
  settles-one : (w o g : ℕ) → AckOpen s w o g → Inv c n (settled_more (only o)) (world (idle (consumer.acked s o)) a)
  settles-one w o g p =
      with-ledger (settled_more (only o)) (consumer.acked s o).cursor (consumer.acked s o).table refl
      (acked-valid s w o g now.valid p)
      (record {
        settles = λ x. acked-settled s w o g now.valid p x ∙ ap (λ t. eqb x o || t) (now.agrees.settles x);
        counts = λ x. acked-count s w o g now.valid p x ∙ ap (cond (eqb x o) 0) (now.agrees.counts x);
      })
      now.redeliveries
      now.floor

  ack-kept : (w o g : ℕ) → Kept (acked o g) (consumer.ack s w o g)
  ack-kept w o g =
      ack_cases s w o g (Kept (acked o g)) (λ r. record { says = (tt, tt, tt); keeps = inv })
      (λ p. record { says = (tt, tt, tt); keeps = settles-one w o g p })

  term-kept : (w o g : ℕ) → Kept (termed o g) (consumer.ack s w o g)
  term-kept w o g =
      ack_cases s w o g (Kept (termed o g)) (λ r. record { says = (tt, tt, tt); keeps = inv })
      (λ p. record { says = (tt, tt, tt); keeps = settles-one w o g p })

  -- ## Nack and Progress
  nack-kept : (w o g clock : ℕ) (d : Option ℕ) → Kept (nacked o g clock d) (consumer.nack s w o g clock d)
  nack-kept w o g clock d =
      nack_cases s w o g clock d (Kept (nacked o g clock d)) (λ r. record { says = (tt, tt, tt); keeps = inv })
      (λ p. let deadline : ℕ = nack_deadline s o clock d in
      record {
        says = (tt, tt, tt);
        keeps = with-ledger l s.cursor (lease.requeue s.table o deadline) refl
            (nacked-valid s w o g deadline now.valid p)
            (record {
              settles = now.agrees.settles;
              counts = λ x. nacked-count s w o g deadline now.valid p x ∙ now.agrees.counts x;
            })
            now.redeliveries
            (omega (arith, now.floor));
      })

  progress-kept : (w o g clock : ℕ) → Kept (progressed o g clock) (consumer.progress s w o g clock)
  progress-kept w o g clock =
      progress_cases s w o g clock (Kept (progressed o g clock)) (λ r. record { says = (tt, tt, tt); keeps = inv })
      (λ p. let deadline : ℕ = lease.extended s.table o clock in
      record {
        says = (tt, tt, tt);
        keeps = with-ledger l s.cursor (consumer.progressed s o deadline).table refl
            (progressed-valid s w o g clock deadline now.valid p)
            (record {
              settles = now.agrees.settles;
              counts = λ x. progressed-count s w o g clock deadline now.valid p x ∙ now.agrees.counts x;
            })
            now.redeliveries
            now.floor;
      })

  -- ## Commit
  module _ (bound : ℕ) where
    -- all below the bound is settled already, and has no count
    unchanged : bound ≤ s.cursor.committed → Inv c n (settled_more (below bound)) (world (idle s) a)
    unchanged h =
        with-ledger (settled_more (below bound)) s.cursor s.table refl now.valid
        (record {
          settles = λ x. unchanged-settled s bound h x ∙ ap (λ t. ltb x bound || t) (now.agrees.settles x);
          counts = λ x. unchanged-count s bound h now.valid x ∙ ap (cond (ltb x bound) 0) (now.agrees.counts x);
        })
        now.redeliveries
        now.floor

    moved : bound ≤ MAX → Inv c n (settled_more (below bound)) (world (idle (with_committed s bound)) a)
    moved m =
        with-ledger (settled_more (below bound)) (with_committed s bound).cursor (with_committed s bound).table refl
        (committed-valid s bound now.valid m)
        (record {
          settles = λ x. committed-settled s bound now.valid x ∙ ap (λ t. ltb x bound || t) (now.agrees.settles x);
          counts = λ x. committed-count s bound now.valid m x ∙ ap (cond (ltb x bound) 0) (now.agrees.counts x);
        })
        now.redeliveries
        now.floor

    commit-kept : (w : ℕ) → bound ≤ MAX → Kept (committed bound) (consumer.commit s w bound)
    commit-kept w m =
        commit_cases s w bound (Kept (committed bound)) (λ r. record { says = (tt, tt, tt); keeps = inv })
        (λ f h. record { says = (tt, tt, tt); keeps = unchanged h })
        (λ p. record { says = (tt, tt, tt); keeps = moved m })

  -- ## all of them; a question changes nothing
  pub ask-kept : (w : ℕ) (q : Ask) → fits q ≡ true → Answered noted (Law c.settings.policy) (Inv c n) l (asked s a w q)
  ask-kept w (claim o clock) f = claim-kept w o clock (leb-true o MAX (both (u64 o) (u64 clock) f).0)
  ask-kept w (ack o g) f = ack-kept w o g
  ask-kept w (term o g) f = term-kept w o g
  ask-kept w (nack o g clock d) f = nack-kept w o g clock d
  ask-kept w (progress o g clock) f = progress-kept w o g clock
  ask-kept w (commit bound) f = commit-kept bound w (leb-true bound MAX f)
  ask-kept w (look q) f = record { says = (tt, tt, tt); keeps = inv }
