-- The lease and the carried count of every offset after each operation, and which offsets are listed as run out.
-- Assumes nothing.
use Prim.Native.Nat.{ℕ, suc}
use native.Mathlib.Omega.{arith}
use mathlib.Core.Path.{◌≡◌, refl, ap, ◌∙◌}
use mathlib.Core.Bool.{cond}
use mathlib.Core.List.{List, [], ◌∷◌}
use mathlib.Core.Option.{Option, none, some, map}
use lib.Dec.{ltb, eqb}
use borrow.Author.Tests.{eqb-true}
use Rattle.types.specs.Limits.{sat64}
use Rattle.types.specs.Refusal.{Result, refused, done}
use Rattle.types.specs.Table.{Answer}
use Rattle.types.specs.Keyed.{Entry, lookup, update, Rising}
use Rattle.types.specs.Lists.{times}
use Rattle.types.proofs.Cases.{split}
use Rattle.types.proofs.Keyed.{lookup-under, lookup-put, lookup-delete, lookup-drop_below, lookup-update, lookup-map_values}
use Rattle.lease.specs.State.{Table, with_leases}
use Rattle.lease.specs.Operations.{lease, lease_of, owns, deadline_from, next_count, grant, claim, ack, with_deadline, extended, extend, requeued_as, requeue, nack}
use Rattle.lease.specs.Rest.{release_below, resealed_as, reseal_from_to, is_expired, defer_redelivery, shifted_by, shift_deadlines, expired_offsets}
use Rattle.lease.specs.Counts.{carry, carry_all}
use Rattle.lease.specs.declared.Lease.{Lease}
use Rattle.lease.proofs.Passed.{claim_cases, ack_cases, extend_cases, nack_cases}

-- the carried count of an offset
abbrev pub carried_count : Table → ℕ → Option ℕ
carried_count t o = lookup o t.carried

-- what stands after a call: a refusal leaves what was there
abbrev pub unless_refused : {A B : Type 0} → Result A → B → B → B
unless_refused (refused r) before after = before
unless_refused (done a) before after = after

-- the lease of offset j after a call
abbrev pub LeaseAfter : {A : Type 0} → Table → ℕ → Option Lease → Answer A Table → Type 0
LeaseAfter t j after a = lease_of a.state j ≡ unless_refused a.outcome (lease_of t j) after

module _ (t : Table) (j o : ℕ) where
  -- ## claim
  pub lease-after-grant : (w now : ℕ) → lease_of (grant t w o now) j ≡ cond (eqb j o) (some (lease t.next_generation now (deadline_from t.config now now) (next_count t o) w)) (lease_of t j)
  lease-after-grant w now = lookup-put j o (lease t.next_generation now (deadline_from t.config now now) (next_count t o) w) t.leases

  pub lease-after-claim : (w now : ℕ) → LeaseAfter t j (cond (eqb j o) (some (lease t.next_generation now (deadline_from t.config now now) (next_count t o) w)) (lease_of t j)) (claim t w o now)
  lease-after-claim w now = claim_cases t w o now (LeaseAfter t j _) (λ r e. refl) (λ p. lease-after-grant w now)

  -- a first lease takes the carried count over
  pub carried-after-first-grant : (w now : ℕ) → lease_of t o ≡ none → carried_count (grant t w o now) j ≡ cond (eqb j o) none (carried_count t j)
  carried-after-first-grant w now e = rw e (lookup-delete j o t.carried)

  pub carried-after_regrant : (w now : ℕ) (l : Lease) → lease_of t o ≡ some l → carried_count (grant t w o now) j ≡ carried_count t j
  carried-after_regrant w now l e = rw e

  -- ## ack
  pub lease-after-ack : (g : ℕ) → LeaseAfter t j (cond (eqb j o) none (lease_of t j)) (ack t o g)
  lease-after-ack g = ack_cases t o g (LeaseAfter t j _) (λ r e. refl) (λ p. lookup-delete j o t.leases)

  -- ## changes of one lease: extend, reseal, defer
  pub lease-after-update : (f : Lease → Lease) → lease_of (with_leases t (update o f t.leases)) j ≡ cond (eqb j o) (map f (lease_of t j)) (lease_of t j)
  lease-after-update f = lookup-update j o f t.leases

  pub lease-after-extend : (g now : ℕ) → LeaseAfter t j (cond (eqb j o) (map (with_deadline (extended t o now)) (lease_of t j)) (lease_of t j)) (extend t o g now)
  lease-after-extend g now = extend_cases t o g now (LeaseAfter t j _) (λ r e. refl) (λ p. lease-after-update (with_deadline (extended t o now)))

  pub lease-after_reseal : (from to : ℕ) → lease_of (reseal_from_to t o from to).state j
      ≡ cond (owns (lease_of t o) from) (cond (eqb j o) (map (resealed_as to) (lease_of t j)) (lease_of t j)) (lease_of t j)
  unfolding reseal_from_to
  lease-after_reseal from to = split (owns (lease_of t o) from) (λ q. rw q (lease-after-update (resealed_as to))) (λ q. rw q)

  pub lease-after_defer : (now delay : ℕ) → lease_of (defer_redelivery t o now delay).state j
      ≡ cond (is_expired (lease_of t o) now) (cond (eqb j o) (map (with_deadline (sat64 now delay)) (lease_of t j)) (lease_of t j)) (lease_of t j)
  unfolding defer_redelivery
  lease-after_defer now delay = split (is_expired (lease_of t o) now) (λ q. rw q (lease-after-update (with_deadline (sat64 now delay)))) (λ q. rw q)

  -- ## nack
  pub lease-after-requeue : (deadline : ℕ) → lease_of (requeue t o deadline) j ≡ cond (eqb j o) (map (requeued_as t.next_generation deadline) (lease_of t j)) (lease_of t j)
  lease-after-requeue deadline = lookup-update j o (requeued_as t.next_generation deadline) t.leases

  pub lease-after-nack : (g now delay : ℕ) → LeaseAfter t j (cond (eqb j o) (map (requeued_as t.next_generation (sat64 now delay)) (lease_of t j)) (lease_of t j)) (nack t o g now delay)
  lease-after-nack g now delay = nack_cases t o g now (LeaseAfter t j _) delay (λ r e. refl) (λ p. lease-after-requeue (sat64 now delay))

  -- ## released below o, and all clocks forward
  pub lease-after_release : lease_of (release_below t o) j ≡ cond (ltb j o) none (lease_of t j)
  lease-after_release = lookup-drop_below j o t.leases

  pub carried-after_release : carried_count (release_below t o) j ≡ cond (ltb j o) none (carried_count t j)
  carried-after_release = lookup-drop_below j o t.carried

  pub lease-after-shift : (delta : ℕ) → lease_of (shift_deadlines t delta) j ≡ map (shifted_by delta) (lease_of t j)
  lease-after-shift delta = lookup-map_values (shifted_by delta) j t.leases

-- ## the offsets whose leases have run out: each stands among them just once
pub expired-once : (x now lo : ℕ) (l : List (Entry Lease)) → Rising lo l → times x (expired_offsets now l) ≡ cond (is_expired (lookup x l) now) 1 0
expired-once x now lo [] r = refl
expired-once x now lo (e ∷ l) r =
    let rest = expired-once x now (suc e.key) l r.1 in
    split (eqb x e.key)
    (λ q.
    let gone : times x (expired_offsets now l) ≡ 0 = rest ∙ rw (lookup-under (suc e.key) x l r.1 (omega (arith, eqb-true x e.key q))) in
    split (ltb now e.value.deadline) (λ d. rw (q, d) gone) (λ d. rw (q, d, q, gone)))
    (λ q. split (ltb now e.value.deadline) (λ d. rw (q, d) rest) (λ d. rw (q, d, q) (omega (arith, rest))))

-- ## counts carried
pub count-after-carry : (j o n : ℕ) (c : List (Entry ℕ)) → lookup j (carry o n c) ≡ cond (eqb n 0) (lookup j c) (cond (eqb j o) (some n) (lookup j c))
count-after-carry j o n c = split (eqb n 0) (λ q. rw q) (λ q. rw q (lookup-put j o n c))

-- the last count of an offset in a list, those of 0 skipped, or else the one that it had
abbrev pub last_count : ℕ → List (Entry ℕ) → Option ℕ → Option ℕ
last_count j [] had = had
last_count j (p ∷ ps) had = last_count j ps (cond (eqb p.value 0) had (cond (eqb j p.key) (some p.value) had))

pub count-after-all : (j : ℕ) (ps c : List (Entry ℕ)) → lookup j (carry_all ps c) ≡ last_count j ps (lookup j c)
count-after-all j [] c = refl
count-after-all j (p ∷ ps) c = count-after-all j ps (carry p.key p.value c) ∙ ap (last_count j ps) (count-after-carry j p.key p.value c)
