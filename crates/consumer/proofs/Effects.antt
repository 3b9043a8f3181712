-- Which offsets are settled, and how often each was handed out, after each call, in terms of before; for every offset x. A refusal
-- keeps the state; what a call does that is not refused stands here. Assumes nothing.
use Prim.Native.Nat.{ℕ, ◌≤◌}
use native.Mathlib.Omega.{arith}
use mathlib.Core.Path.{◌≡◌, refl, sym, ◌∙◌}
use mathlib.Core.Bool.{true, cond, ◌||◌}
use mathlib.Core.Option.{Option, some}
use lib.Dec.{ltb, eqb}
use borrow.Author.Tests.{ltb-true, eqb-true, lt-ltb}
use Rattle.types.specs.Limits.{MAX, sat32}
use Rattle.types.specs.Keyed.{lookup, update}
use Rattle.types.proofs.Cases.{split}
use Rattle.types.proofs.Keyed.{lookup-put-same, lookup-put-other, lookup-delete-same, lookup-delete-other, lookup-update, lookup-drop-below, lookup_keep_above}
use Rattle.cursor.specs.Cursor.{settled}
use Rattle.lease.specs.declared.Lease.{Lease}
use Rattle.lease.specs.Operations.{lease_of, times_handed_out, with_deadline, requeued_as}
use Rattle.consumer.specs.State.{State}
use Rattle.consumer.specs.Calls.{claimed, acked, nacked, progressed, with_committed}
use Rattle.consumer.specs.Questions.{count_of}
use Rattle.consumer.specs.Valid.{Valid}
use Rattle.consumer.proofs.Open.{ClaimOpen, AckOpen, NackOpen, ProgressOpen}
use Rattle.consumer.proofs.Valid.{consumed-other, new_lease, claimed-valid, acked-leased, acked-valid, nacked-valid, progressed-valid, committed-valid}
use Rattle.consumer.proofs.Counts.{count-is, settled-count}

-- ## claim: the count of its offset rises by 1
pub claimed-count : (s : State) (w o now : ℕ) → Valid s → ClaimOpen s w o now → o ≤ MAX → (x : ℕ)
    → count_of (claimed s w o now) x ≡ cond (eqb x o) (sat32 (count_of s x) 1) (count_of s x)
claimed-count s w o now v p fits x =
    count-is (claimed s w o now) (claimed-valid s w o now v p fits) x
    ∙ split (eqb x o)
    (λ e. rw (e, eqb-true x o e, lookup-put-same o (new_lease s.table w o now) s.table.leases, count-is s v o))
    (λ e. rw (e, lookup-put-other x o (new_lease s.table w o now) s.table.leases e, consumed-other x o s.table.carried (lease_of s.table o) e) (sym (count-is s v x)))

-- ## Ack and Term: the offset is settled, and its count is gone
pub acked-count : (s : State) (w o g : ℕ) → Valid s → AckOpen s w o g → (x : ℕ) → count_of (acked s o) x ≡ cond (eqb x o) 0 (count_of s x)
acked-count s w o g v p x =
    count-is (acked s o) (acked-valid s w o g v p) x
    ∙ split (eqb x o)
    (λ e. rw (e, eqb-true x o e, lookup-delete-same o s.table.leases, (acked-leased s w o g v p).alone))
    (λ e. rw (e, lookup-delete-other x o s.table.leases e) (sym (count-is s v x)))

-- ## Nack and Progress: nothing of both
module _ (s : State) (o : ℕ) (l : Lease) (held : lease_of s.table o ≡ some l) (f : Lease → Lease) (same : (f l).deliveries ≡ l.deliveries) where
  updated-count : (x : ℕ) (c : Option ℕ) → times_handed_out (lookup x (update o f s.table.leases)) c ≡ times_handed_out (lease_of s.table x) c
  updated-count x c =
      rw (lookup-update x o f s.table.leases)
      (split (eqb x o)
      (λ e. rw (e, eqb-true x o e, held) same)
      (λ e. rw e))

pub nacked-count : (s : State) (w o g deadline : ℕ) → Valid s → NackOpen s w o g → (x : ℕ) → count_of (nacked s o deadline) x ≡ count_of s x
nacked-count s w o g deadline v p x =
    count-is (nacked s o deadline) (nacked-valid s w o g deadline v p) x
    ∙ updated-count s o p.token.lease p.token.held (requeued_as s.table.next_generation deadline) refl x (lookup x s.table.carried)
    ∙ sym (count-is s v x)

pub progressed-count : (s : State) (w o g now deadline : ℕ) → Valid s → ProgressOpen s w o g now → (x : ℕ)
    → count_of (progressed s o deadline) x ≡ count_of s x
progressed-count s w o g now deadline v p x =
    count-is (progressed s o deadline) (progressed-valid s w o g now deadline v p) x
    ∙ updated-count s o p.token.lease p.token.held (with_deadline deadline) refl x (lookup x s.table.carried)
    ∙ sym (count-is s v x)

-- ## Commit: what lies below the bound is settled, and its counts are gone
pub committed-count : (s : State) (bound : ℕ) → Valid s → bound ≤ MAX → (x : ℕ) → count_of (with_committed s bound) x ≡ cond (ltb x bound) 0 (count_of s x)
committed-count s bound v fits x =
    count-is (with_committed s bound) (committed-valid s bound v fits) x
    ∙ split (ltb x bound)
    (λ e. rw (e, lookup-drop-below x bound s.table.leases e, lookup-drop-below x bound s.table.carried e))
    (λ e. rw (e, lookup_keep_above x bound s.table.leases e, lookup_keep_above x bound s.table.carried e) (sym (count-is s v x)))

-- the same of an unchanged state
module _ (s : State) (bound : ℕ) (h : bound ≤ s.cursor.committed) where
  below : (x : ℕ) → ltb x bound ≡ true → settled s.cursor x ≡ true
  below x e = rw (lt-ltb x s.cursor.committed (omega (arith, ltb-true x bound e)))

  pub unchanged-settled : (x : ℕ) → settled s.cursor x ≡ (ltb x bound || settled s.cursor x)
  unchanged-settled x = split (ltb x bound) (λ e. rw e (below x e)) (λ e. rw e)

  pub unchanged-count : Valid s → (x : ℕ) → count_of s x ≡ cond (ltb x bound) 0 (count_of s x)
  unchanged-count v x = split (ltb x bound) (λ e. rw e (settled-count s v x (below x e))) (λ e. rw e)
