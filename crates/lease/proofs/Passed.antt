-- What each refusal table says where every test failed, by name; and the two ways in which each call can end.
-- Assumes nothing.
use Prim.Native.Nat.{ℕ, ◌<◌}
use native.Mathlib.Omega.{arith}
use mathlib.Core.Path.{◌≡◌, refl}
use mathlib.Core.Bool.{false, not, true≢false}
use mathlib.Core.List.{[], ◌∷◌}
use mathlib.Core.Option.{Option, none, some}
use lib.ListN.{length}
use borrow.Author.Tests.{leb-false, eqb-true, eqb-false, not-false}
use Rattle.types.specs.Limits.{MAX, LEASES, sat64}
use Rattle.types.specs.Refusal.{Refusal, refused, done}
use Rattle.types.specs.Table.{first, Passed, Answer, answer}
use Rattle.types.specs.Keyed.{update, delete}
use Rattle.types.proofs.Table.{guarded_cases}
use Rattle.lease.specs.State.{Table, with_leases}
use Rattle.lease.specs.Operations.{lease_of, running, owns, cap_from, start_of, with_deadline, Grant, grant, granted, claim_rows, claim, token_row, ack, extend_rows, extended, extend, requeue, nack_rows, nack}
use Rattle.lease.specs.declared.Lease.{Lease}

-- ## the tables
pub record ClaimPassed (t : Table) (o now : ℕ) : Type 0 where
  pub run_out : running (lease_of t o) now ≡ false
  pub generation-left : t.next_generation ≡ MAX → ⊥
  pub room : lease_of t o ≡ none → length t.leases < LEASES

pub record TokenPassed (t : Table) (o g : ℕ) : Type 0 where
  pub lease : Lease
  pub found : lease_of t o ≡ some lease
  pub owned : lease.generation.0 ≡ g

pub record ExtendPassed (t : Table) (o g now : ℕ) : Type 0 where
  pub token : TokenPassed t o g
  pub below_cap : now < cap_from t.config (start_of (lease_of t o))

pub record NackPassed (t : Table) (o g : ℕ) : Type 0 where
  pub token : TokenPassed t o g
  pub generation-left : t.next_generation ≡ MAX → ⊥

token-passed : (t : Table) (o g : ℕ) → not (owns (lease_of t o) g) ≡ false → TokenPassed t o g
token-passed t o g h = go (lease_of t o) refl h
  where
    go : (x : Option Lease) → lease_of t o ≡ x → not (owns x g) ≡ false → TokenPassed t o g
    go none e n = absurd (true≢false n)
    go (some l) e n = record { lease = l; found = e; owned = eqb-true l.generation.0 g (not-false _ n) }

pub claim-passed : (t : Table) (o now : ℕ) → Passed (claim_rows t o now) → ClaimPassed t o now
claim-passed t o now p =
    record {
      run_out = p.0;
      generation-left = eqb-false t.next_generation MAX p.1.0;
      room = λ e. omega (arith, leb-false LEASES (length t.leases) (rw e at p.1.1.0));
    }

pub ack-passed : (t : Table) (o g : ℕ) → Passed (token_row t o g ∷ []) → TokenPassed t o g
ack-passed t o g p = token-passed t o g p.0

pub extend-passed : (t : Table) (o g now : ℕ) → Passed (extend_rows t o g now) → ExtendPassed t o g now
extend-passed t o g now p = record { token = token-passed t o g p.0; below_cap = leb-false (cap_from t.config (start_of (lease_of t o))) now p.1.0 }

pub nack-passed : (t : Table) (o g : ℕ) → Passed (nack_rows t o g) → NackPassed t o g
nack-passed t o g p = record { token = token-passed t o g p.0; generation-left = eqb-false t.next_generation MAX p.1.0 }

-- ## the calls: refused with the table as it was, or the effect
module _ (t : Table) (w o now : ℕ) (P : Answer Grant Table → Type 0) where
  pub claim_cases : ((r : Refusal) → first (claim_rows t o now) ≡ some r → P (answer (refused r) t)) → (ClaimPassed t o now → P (answer (done (granted t o)) (grant t w o now))) → P (claim t w o now)
  unfolding claim
  claim_cases r p = guarded_cases (claim_rows t o now) t (answer (done (granted t o)) (grant t w o now)) P r (λ q. p (claim-passed t o now q))

module _ (t : Table) (o g : ℕ) (P : Answer (Unit {0}) Table → Type 0) where
  pub ack_cases : ((r : Refusal) → first (token_row t o g ∷ []) ≡ some r → P (answer (refused r) t)) → (TokenPassed t o g → P (answer (done tt) (with_leases t (delete o t.leases)))) → P (ack t o g)
  unfolding ack
  ack_cases r p = guarded_cases (token_row t o g ∷ []) t (answer (done tt) (with_leases t (delete o t.leases))) P r (λ q. p (ack-passed t o g q))

module _ (t : Table) (o g now : ℕ) (P : Answer ℕ Table → Type 0) where
  pub extend_cases : ((r : Refusal) → first (extend_rows t o g now) ≡ some r → P (answer (refused r) t))
      → (ExtendPassed t o g now → P (answer (done (extended t o now)) (with_leases t (update o (with_deadline (extended t o now)) t.leases)))) → P (extend t o g now)
  unfolding extend
  extend_cases r p =
      guarded_cases (extend_rows t o g now) t (answer (done (extended t o now)) (with_leases t (update o (with_deadline (extended t o now)) t.leases))) P r
      (λ q. p (extend-passed t o g now q))

  pub nack_cases : (delay : ℕ) → ((r : Refusal) → first (nack_rows t o g) ≡ some r → P (answer (refused r) t))
      → (NackPassed t o g → P (answer (done (sat64 now delay)) (requeue t o (sat64 now delay)))) → P (nack t o g now delay)
  unfolding nack
  nack_cases delay r p = guarded_cases (nack_rows t o g) t (answer (done (sat64 now delay)) (requeue t o (sat64 now delay))) P r (λ q. p (nack-passed t o g q))
