-- The waiting list holds each carried offset, and each whose lease's deadline has come, just one time, and nothing else; and it is in
-- order.
-- Assumes nothing.
use Prim.Native.Nat.{ℕ, suc, ◌+◌, ◌<◌}
use native.Mathlib.Omega.{arith}
use mathlib.Core.Path.{◌≡◌, refl, sym, ap, ◌∙◌}
use mathlib.Core.Bool.{Bool, cond, not, ◌||◌}
use mathlib.Core.List.{List, [], ◌∷◌, ◌++◌}
use mathlib.Core.Option.{Option, none, some, map}
use lib.Dec.{eqb}
use lib.ListN.{length, length-append}
use borrow.Author.Tests.{eqb-true, lt-ltb}
use Rattle.types.specs.Keyed.{Entry, lookup, Rising, All}
use Rattle.types.specs.Lists.{times}
use Rattle.types.proofs.Cases.{split}
use Rattle.types.proofs.Keyed.{lookup-under, all-of-lookup}
use Rattle.types.proofs.Entries.{absent}
use Rattle.types.proofs.Lists.{times-append}
use Rattle.lease.specs.declared.Lease.{Lease}
use Rattle.lease.specs.Operations.{lease_of, is_none}
use Rattle.lease.specs.Rest.{is_expired, expired}
use Rattle.lease.proofs.Lookups.{expired-once}
use Rattle.consumer.specs.State.{State}
use Rattle.consumer.specs.Questions.{keys_of, waiting_offsets, waiting_at}
use Rattle.consumer.specs.Waiting.{expired_deadlines, longest_first, deadline_of, BeforeAll, InOrder}
use Rattle.consumer.specs.Valid.{Valid}
use Rattle.consumer.proofs.Waiting.{First, Ordered, same_members, same_length, in_order, all-ordered, all-expired}

-- an offset that stands before every other one of a sorted list stands in it no more
module _ (x : ℕ) where
  times-carried : (lo : ℕ) (l : List (Entry ℕ)) → Rising lo l → times x (keys_of l) ≡ cond (not (is_none (lookup x l))) 1 0
  times-carried lo [] r = refl
  times-carried lo (e ∷ l) r =
      let rest = times-carried (suc e.key) l r.1 in
      split (eqb x e.key)
      (λ q.
      let gone : times x (keys_of l) ≡ 0 = rest ∙ rw (lookup-under (suc e.key) x l r.1 (omega (arith, eqb-true x e.key q))) in
      rw (q, gone))
      (λ q. rw q (omega (arith, rest)))

-- what waits at a clock
abbrev pub waits : State → ℕ → ℕ → Bool
waits s now x = not (is_none (lookup x s.table.carried)) || is_expired (lease_of s.table x) now

-- in order it holds just the offsets that it holds in any, so that 20 is met just where it was
module _ (s : State) (now : ℕ) where
  pub waiting_as_before : (x : ℕ) → times x (waiting_at s now) ≡ times x (waiting_offsets s now)
  waiting_as_before x =
      times-append x (keys_of s.table.carried) _
      ∙ ap (λ (n : ℕ). times x (keys_of s.table.carried) + n) (same_members x now s.table.leases)
      ∙ sym (times-append x (keys_of s.table.carried) (expired s.table now))

  pub waiting_as_long : length (waiting_at s now) ≡ length (waiting_offsets s now)
  waiting_as_long = simp length-append (ap (λ (n : ℕ). length (keys_of s.table.carried) + n) (same_length now s.table.leases))

pub waiting-once : (s : State) → Valid s → (now x : ℕ) → times x (waiting_at s now) ≡ cond (waits s now x) 1 0
waiting-once s v now x =
    waiting_as_before s now x
    ∙ times-append x (keys_of s.table.carried) (expired s.table now)
    ∙ rw (times-carried x 0 s.table.carried v.table.carried-rising, expired-once x now 0 s.table.leases v.table.rising)
    (go (lookup x s.table.carried) (lease_of s.table x) (λ l e. (v.leased x l e).alone))
  where
    go : (c : Option ℕ) (y : Option Lease) → ((l : Lease) → y ≡ some l → c ≡ none)
        → cond (not (is_none c)) 1 0 + cond (is_expired y now) 1 0 ≡ cond (not (is_none c) || is_expired y now) 1 0
    go none y alone = omega arith
    go (some n) none alone = refl
    go (some n) (some l) alone = absent (alone l refl) refl

-- ## the order
no-deadline : (y : Option Lease) → ((l : Lease) → y ≡ some l → ⊥) → map (λ (l : Lease). l.deadline) y ≡ none
no-deadline none h = refl
no-deadline (some l) h = absurd (h l refl)

module _ (s : State) where
  abbrev Carried : List (Entry ℕ) → Type 0
  Carried = All (λ o n. deadline_of s o ≡ none)

  abbrev Leased : List (Entry ℕ) → Type 0
  Leased = All (λ o d. deadline_of s o ≡ some d)

  leased-behind : (x : Entry ℕ) (l : List (Entry ℕ)) → deadline_of s x.key ≡ some x.value → First x l → Leased l → BeforeAll s x.key (keys_of l)
  leased-behind x [] d f a = tt
  leased-behind x (y ∷ l) d f a = (rw (d, a.0) f.0, leased-behind x l d f.1 a.1)

  leased_in_order : (l : List (Entry ℕ)) → Ordered l → Leased l → InOrder s (keys_of l)
  leased_in_order [] o a = tt
  leased_in_order (x ∷ l) o a = (leased-behind x l a.0 o.0 a.1, leased_in_order l o.1 a.1)

  -- behind a carried offset stand those above it, and the leases
  all-behind : (x lo : ℕ) (c l : List (Entry ℕ)) → deadline_of s x ≡ none → x < lo → Rising lo c → Carried c → Leased l → BeforeAll s x (keys_of c ++ keys_of l)
  all-behind x lo [] [] d h r a b = tt
  all-behind x lo [] (y ∷ l) d h r a b = (rw (d, b.0), all-behind x lo [] l d h r a b.1)
  all-behind x lo (y ∷ c) l d h r a b =
      (rw (d, a.0) (lt-ltb x y.key (omega (arith, r.0))), all-behind x (suc y.key) c l d (omega (arith, r.0)) r.1 a.1 b)

  both_in_order : (lo : ℕ) (c l : List (Entry ℕ)) → Rising lo c → Carried c → Ordered l → Leased l → InOrder s (keys_of c ++ keys_of l)
  both_in_order lo [] l r a o b = leased_in_order l o b
  both_in_order lo (x ∷ c) l r a o b =
      (all-behind x.key (suc x.key) c l a.0 (omega arith) r.1 a.1 b, both_in_order (suc x.key) c l r.1 a.1 o b)

  pub waiting_in_order : Valid s → (now : ℕ) → InOrder s (waiting_at s now)
  waiting_in_order v now =
      let carried : Carried s.table.carried =
      all-of-lookup (λ o n. deadline_of s o ≡ none) 0 s.table.carried v.table.carried-rising
      (λ o n e. no-deadline (lease_of s.table o) (λ l q. absent (v.leased o l q).alone e)) in
      let leased : Leased (longest_first (expired_deadlines now s.table.leases)) =
      all-ordered (λ o d. deadline_of s o ≡ some d) (expired_deadlines now s.table.leases)
      (all-expired (λ o d. deadline_of s o ≡ some d) now s.table.leases
      (all-of-lookup (λ o l. deadline_of s o ≡ some l.deadline) 0 s.table.leases v.table.rising (λ o l e. rw e))) in
      both_in_order 0 s.table.carried (longest_first (expired_deadlines now s.table.leases)) v.table.carried-rising carried
      (in_order now 0 s.table.leases v.table.rising) leased
