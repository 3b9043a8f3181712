-- Not useless: a checkpoint is made where there is a number for it, after it no claim waits for another, and the waiting list is what the
-- book and the leases say. Assumes nothing.
use Prim.Native.Nat.{ℕ, ◌<◌}
use native.Mathlib.Omega.{arith}
use mathlib.Core.Path.{◌≡◌, refl, sym, ap, ap₂, ◌∙◌}
use mathlib.Core.Bool.{Bool, false, cond, not, ◌&&◌, ◌||◌, and-false}
use mathlib.Core.List.{List}
use mathlib.Core.Option.{Option, none, some}
use lib.Dec.{leb, eqb}
use borrow.Author.Tests.{eqb-false, ne_eqb, lt-leb}
use Rattle.types.specs.Limits.{MAX, WORKERS}
use Rattle.types.specs.Refusal.{Refusal, Result, refused, done, LastOffset, Settled, Closed, InFlight, Exhausted, CheckpointDue, Full, UnknownWorker, NotPermitted, numbered}
use Rattle.types.proofs.Cases.{split}
use Rattle.types.specs.Keyed.{lookup}
use Rattle.types.specs.Table.{Passed}
use Rattle.types.specs.Lists.{times}
use Rattle.types.proofs.Table.{guarded-passed, append-passed}
use Rattle.types.proofs.Keyed.{lookup-all}
use Rattle.cursor.specs.Cursor.{settled}
use Rattle.hours.specs.Hours.{isOpen, next_opening}
use Rattle.lease.specs.declared.Lease.{Lease}
use Rattle.lease.specs.State.{Counted}
use Rattle.lease.specs.Operations.{lease_of, is_none, running, times_handed_out}
use Rattle.lease.specs.Rest.{is_expired}
use Rattle.consumer.specs.State.{Configuration, State}
use Rattle.consumer.specs.Calls.{call_rows, HandOut, hand_out, is_full, claim_rows, claim_table, claim, at_ceiling, at_threshold}
use Rattle.consumer.specs.Rights.{claiming, checkpointing, bit_of, permits}
use Rattle.consumer.specs.Questions.{waiting_at, count_of}
use Rattle.consumer.specs.Valid.{Valid}
use Rattle.consumer.proofs.Counts.{count-is, lease-count, carried-count}
use Rattle.consumer.proofs.Questions.{waiting-once}
use Rattle.checkpoint.specs.Checkpoint.{flushed}
use Rattle.machine.specs.Transitions.{Phase, idle}
use Rattle.crash_safety.specs.Book.{Page}
use Rattle.crash_safety.specs.Runs.{World, world, ends, fresh_world}
use Rattle.crash_safety.specs.Workers.{May}
use Rattle.crash_safety.specs.Recovery.{HasNumber}
use Rattle.crash_safety.specs.Useful.{Checkpointed, Claimable, waits_by_book, Useful, NotUseless}
use Rattle.crash_safety.proofs.Law.{Ledger}
use Rattle.crash_safety.proofs.Invariant.{Agrees, is-ready, Inv}
use Rattle.crash_safety.proofs.Checkpoints.{checkpoint-made}
use Rattle.crash_safety.proofs.Reached.{reached}

-- ## claims after a checkpoint
module _ (c : Configuration) (s : State) (same : s.settings ≡ c.settings) (v : Valid s) where
  -- generations are left below the new ceiling, and no redelivery was counted since
  nothing-due : eqb s.table.next_generation MAX ≡ false → (at_ceiling (flushed s) || at_threshold (flushed s)) ≡ false
  nothing-due g =
      let left : s.table.next_generation < (flushed s).ceiling = omega (arith, eqb-false s.table.next_generation MAX g, v.table.generation-fits) in
      rw (lt-leb (flushed s).ceiling s.table.next_generation left)
      (lt-leb s.settings.policy.flush_redeliveries 0 v.accepted.some-threshold)

  pub claim-passes : (w o now : ℕ) → May c w claiming → Claimable s o now → Passed (claim_table (flushed s) w o now)
  claim-passes w o now may p =
      append-passed (call_rows (flushed s) w claiming) (claim_rows (flushed s) o now) (rw same may)
      (p.not_last, (p.unsettled, (ap not p.in-hours, (p.not_held, (p.generations, (nothing-due p.generations, (p.room, tt)))))))

  claims-granted : (w o now : ℕ) → May c w claiming → Claimable s o now → (claim (flushed s) w o now).outcome ≡ done (hand_out (flushed s) o)
  unfolding claim
  claims-granted w o now may p = rw (guarded-passed (claim_table (flushed s) w o now) (flushed s) _ (claim-passes w o now may p))

  -- 25 stands in front of 26, so that after a checkpoint 26 is never answered
  never-due : (w o now : ℕ) → (claim (flushed s) w o now).outcome ≡ refused CheckpointDue → ⊥
  unfolding claim
  never-due w o now e =
      split (leb WORKERS w)
      (λ t. other UnknownWorker (λ z. omega arith) (rw t at e))
      (λ u₁. split (permits s.settings.rights w (bit_of claiming))
      (λ u₂. split (eqb o MAX)
      (λ t. other LastOffset (λ z. omega arith) (rw (u₁, u₂, t) at e))
      (λ t₁. split (settled s.cursor o)
      (λ t. other Settled (λ z. omega arith) (rw (u₁, u₂, t₁, t) at e))
      (λ t₂. split (isOpen s.settings.hours now)
      (λ h. split (running (lease_of s.table o) now)
      (λ t. other InFlight (λ z. omega arith) (rw (u₁, u₂, t₁, t₂, h, t) at e))
      (λ t₃. split (eqb s.table.next_generation MAX)
      (λ t. other Exhausted (λ z. omega arith) (rw (u₁, u₂, t₁, t₂, h, t₃, t) at e))
      (λ t₄. split (is_full s.table o)
      (λ t. other Full (λ z. omega arith) (rw (u₁, u₂, t₁, t₂, h, t₃, t₄, nothing-due t₄, t) at e))
      (λ t₅. granted (rw (u₁, u₂, t₁, t₂, h, t₃, t₄, nothing-due t₄, t₅) at e)))))
      (λ t. other (Closed (next_opening s.settings.hours now)) (λ z. omega arith) (rw (u₁, u₂, t₁, t₂, t) at e)))))
      (λ t. other NotPermitted (λ z. omega arith) (rw (u₁, t) at e)))
    where
      granted : done (hand_out (flushed s) o) ≡ refused CheckpointDue → ⊥
      granted q = absurd (let z : ◌≡◌ {A = ℕ} 0 1 = cc in omega arith)

      other : (r : Refusal) → ((numbered r).number ≡ 26 → ⊥) → ◌≡◌ {A = Result HandOut} (refused r) (refused CheckpointDue) → ⊥
      other r n q = let same : r ≡ CheckpointDue = cc in n (ap (λ (x : Refusal). (numbered x).number) same)

-- ## the waiting list
module _ (s : State) (v : Valid s) (p : Page) (agrees : Agrees p s) (now o : ℕ) where
  -- what waits by the state waits by the book
  waits-right : (not (is_none (lookup o s.table.carried)) || is_expired (lease_of s.table o) now)
      ≡ (not (settled s.cursor o) && not (eqb (count_of s o) 0) && not (running (lease_of s.table o) now))
  waits-right = go (lease_of s.table o) refl (lookup o s.table.carried) refl
    where
      go : (x : Option Lease) → lease_of s.table o ≡ x → (y : Option ℕ) → lookup o s.table.carried ≡ y
          → (not (is_none y) || is_expired x now) ≡ (not (settled s.cursor o) && not (eqb (count_of s o) 0) && not (running x now))
      go none e none f =
          let zero : count_of s o ≡ 0 = count-is s v o ∙ ap₂ times_handed_out e f in
          rw (zero, and-false (not (settled s.cursor o)))
      go none e (some m) f =
          let fine = lookup-all Counted o m s.table.carried v.table.carried-counted f in
          rw (v.carried o m f, carried-count s v o m f, ne_eqb m 0 (λ z. omega (arith, fine.once)))
      go (some k) e y f =
          let own = v.leased o k e in
          let fine = lookup-all (λ x l. Counted x l.deliveries) o k s.table.leases v.table.counted e in
          let no-count : y ≡ none = sym f ∙ own.alone in
          rw (no-count, own.unsettled, lease-count s v o k e, ne_eqb k.deliveries 0 (λ z. omega (arith, fine.once)))

  waiting-right : times o (waiting_at s now) ≡ cond (waits_by_book p s now o) 1 0
  waiting-right = waiting-once s v now o ∙ rw (← agrees.settles o, ← agrees.counts o) (ap (λ (b : Bool). cond b 1 0) waits-right)

-- ## a checkpoint
module _ (c : Configuration) (n : ℕ) (l : Ledger) (s : State) (a : List ℕ) (inv : Inv c n l (world (idle s) a)) where
  pub checkpointed : (worker : ℕ) → May c worker checkpointing → HasNumber s → Checkpointed c worker (world (idle s) a) s
  checkpointed worker may numbered =
      let m = checkpoint-made c n inv.saved s (is-ready inv.callable) worker may numbered a inv.journal in
      record { wrote = m.wrote; leaves = ap (λ (u : World). u.phase) m.leaves }

  useful : (p : Page) → l.book.page ≡ p → Useful c (world (idle s) a) s p
  useful p e =
      record {
        checkpoints = checkpointed;
        claims = claims-granted c s inv.callable.settings inv.callable.valid;
        not_due = never-due c s inv.callable.settings inv.callable.valid;
        waiting = λ now o. waiting-right s inv.callable.valid p (rw (← e) inv.callable.agrees) now o;
      }

useful-after : (c : Configuration) (n : ℕ) (l : Ledger) (q : Phase) (a : List ℕ) (left : State) (p : Page) → q ≡ idle left → l.book.page ≡ p
    → Inv c n l (world q a) → Useful c (world q a) left p
useful-after c n l q a left p e f = rw e (λ inv. useful c n l left a inv p f)

pub not_useless : NotUseless
unfolding NotUseless
not_useless c n s items f e left here =
    let r = reached c n s items f e in
    let w = ends c (fresh_world s n) items in
    useful-after c n r.ledger w.phase w.journal left _ here (ap (λ b. b.page) r.books) r.inv
