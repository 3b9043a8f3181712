-- Generations rise with each grant and each nack, every lease's lies below the next one, and a token is owned by one lease at
-- most, by none once its offset is granted or given up again.
-- Assumes nothing.
use Prim.Native.Nat.{ℕ, ◌+◌, ◌<◌}
use native.Mathlib.Omega.{arith}
use mathlib.Core.Path.{◌≡◌, refl, sym, ◌∙◌}
use mathlib.Core.Bool.{false}
use mathlib.Core.List.{List, [], ◌∷◌}
use mathlib.Core.Option.{Option, none, some, map}
use lib.ListN.{length, get_or}
use borrow.Author.Tests.{eq-eqb, ne_eqb}
use Rattle.types.specs.Refusal.{Result, done, refused}
use Rattle.types.specs.Keyed.{Entry, update, delete, All}
use Rattle.types.proofs.Keyed.{rising-once, all-put, all-delete, all-update, all-drop_below, all-map_values}
use Rattle.lease.specs.State.{Table, with_leases, Valid}
use Rattle.lease.specs.Operations.{lease, lease_of, owns, deadline_from, next_count, Grant, grant, claim, requeued_as, requeue, nack}
use Rattle.lease.specs.Rest.{release_below, shifted_by, shift_deadlines}
use Rattle.lease.specs.declared.Lease.{Lease}
use Rattle.lease.proofs.Lookups.{lease-after-grant, lease-after-requeue}
use Rattle.lease.proofs.Passed.{claim_cases, nack_cases}

-- ## they rise
-- a call that isn't refused took the next generation, and a refused one left it
abbrev pub NextAfter : {A : Type 0} → Result A → Table → Table → Type 0
NextAfter (refused r) t after = after.next_generation ≡ t.next_generation
NextAfter (done a) t after = after.next_generation ≡ t.next_generation + 1

pub claim-next : (t : Table) (w o now : ℕ) → NextAfter (claim t w o now).outcome t (claim t w o now).state
claim-next t w o now = claim_cases t w o now (λ a. NextAfter a.outcome t a.state) (λ r e. refl) (λ p. refl)

pub nack-next : (t : Table) (o g now delay : ℕ) → NextAfter (nack t o g now delay).outcome t (nack t o g now delay).state
nack-next t o g now delay = nack_cases t o g now (λ a. NextAfter a.outcome t a.state) delay (λ r e. refl) (λ p. refl)

-- a granted claim answers the generation that was next
abbrev pub Stamped : Table → Result Grant → Type 0
Stamped t (refused r) = Unit {0}
Stamped t (done a) = a.generation ≡ t.next_generation

pub claim_stamped : (t : Table) (w o now : ℕ) → Stamped t (claim t w o now).outcome
claim_stamped t w o now = claim_cases t w o now (λ a. Stamped t a.outcome) (λ r e. tt) (λ p. refl)

-- ## every lease's generation lies below the next one; only a reseal to a later one would break that
abbrev pub Fresh : Table → Type 0
Fresh t = All (λ o l. l.generation.0 < t.next_generation) t.leases

module _ (t : Table) (h : Fresh t) where
  later : All (λ o l. l.generation.0 < t.next_generation + 1) t.leases
  later = raised t.leases h
    where
      raised : (l : List (Entry Lease)) → All (λ o v. v.generation.0 < t.next_generation) l → All (λ o v. v.generation.0 < t.next_generation + 1) l
      raised [] a = tt
      raised (e ∷ l) a = (omega (arith, a.0), raised l a.1)

  pub fresh-grant : (w o now : ℕ) → Fresh (grant t w o now)
  fresh-grant w o now =
      all-put (λ k l. l.generation.0 < t.next_generation + 1) o (lease t.next_generation now (deadline_from t.config now now) (next_count t o) w) t.leases (omega arith) later

  pub fresh-requeue : (o deadline : ℕ) → Fresh (requeue t o deadline)
  fresh-requeue o deadline =
      all-update (λ k l. l.generation.0 < t.next_generation + 1) o (requeued_as t.next_generation deadline) t.leases (λ k l b. omega arith) later

  pub fresh-ack : (o : ℕ) → Fresh (with_leases t (delete o t.leases))
  fresh-ack o = all-delete (λ k l. l.generation.0 < t.next_generation) o t.leases h

  -- extend, defer, and a reseal to a generation below the next one
  pub fresh-update : (o : ℕ) (f : Lease → Lease) → ((l : Lease) → l.generation.0 < t.next_generation → (f l).generation.0 < t.next_generation) → Fresh (with_leases t (update o f t.leases))
  fresh-update o f kept = all-update (λ k l. l.generation.0 < t.next_generation) o f t.leases (λ k l b. kept l b) h

  pub fresh_release : (b : ℕ) → Fresh (release_below t b)
  fresh_release b = all-drop_below (λ k l. l.generation.0 < t.next_generation) b t.leases h

  pub fresh-shift : (delta : ℕ) → Fresh (shift_deadlines t delta)
  fresh-shift delta = all-map_values (shifted_by delta) (λ k l. l.generation.0 < t.next_generation) (λ k l. l.generation.0 < t.next_generation) t.leases (λ k l b. b) h

-- ## tokens
-- an offset's lease stands at one place, so one lease at most is a token's
pub owned-once : (t : Table) → Valid t → (i j o : ℕ) (d : Entry Lease) → i < length t.leases → j < length t.leases → (get_or t.leases i d).key ≡ o → (get_or t.leases j d).key ≡ o → i ≡ j
owned-once t v i j o d h k p q = rising-once 0 i j d t.leases v.rising h k (p ∙ sym q)

-- the token of an earlier hand-out is fenced off
pub grant_fences : (t : Table) (w o now g : ℕ) → (g ≡ t.next_generation → ⊥) → owns (lease_of (grant t w o now) o) g ≡ false
grant_fences t w o now g n = rw (lease-after-grant t o o w now, eq-eqb o o refl, ne_eqb t.next_generation g (λ e. n (sym e)))

pub requeue_fences : (t : Table) (o deadline g : ℕ) → (g ≡ t.next_generation → ⊥) → owns (lease_of (requeue t o deadline) o) g ≡ false
requeue_fences t o deadline g n = rw (lease-after-requeue t o o deadline, eq-eqb o o refl) (fenced (lease_of t o))
  where
    fenced : (x : Option Lease) → owns (map (requeued_as t.next_generation deadline) x) g ≡ false
    fenced none = refl
    fenced (some l) = ne_eqb t.next_generation g (λ e. n (sym e))
