-- Every operation keeps what holds of a table: sorted, within its limits, one lease and one carried count for an offset,
-- numbers of their types, no count of 0.
-- Assumes nothing.
use Prim.Native.Nat.{ℕ, ◌+◌, ◌≤◌}
use native.Mathlib.Omega.{arith}
use mathlib.Core.Path.{◌≡◌, refl}
use mathlib.Core.Bool.{false, ◌&&◌}
use mathlib.Core.List.{List}
use mathlib.Core.Option.{Option, none, some}
use lib.Dec.{leb, eqb}
use lib.ListN.{length}
use borrow.Author.Tests.{leb-false, eqb-false}
use Rattle.types.specs.Limits.{MAX, LEASES, CARRIED, sat32}
use Rattle.types.specs.Keyed.{Entry, lookup, put, update, delete, Rising, All, map_values}
use Rattle.types.proofs.Keyed.{rising-put, length-put, length-put-old, all-put, rising-delete, length-delete, all-delete, rising-update, length-update, all-update, rising-drop_below, length-drop_below, all-drop_below, rising-map_values, length-map_values, all-map_values}
use Rattle.lease.specs.State.{Table, with_leases, with_carried, starting_at, Counted, Valid}
use Rattle.lease.specs.Operations.{lease_of, is_none, times_handed_out, next_count, consumed, grant, lease, requeue, requeued_as, deadline_from}
use Rattle.lease.specs.Rest.{attempts_flushed, release_below, shifted_by, shift_deadlines}
use Rattle.lease.specs.declared.LeaseConfig.{LeaseConfig}
use Rattle.lease.specs.declared.Lease.{Lease}

pub valid-start : (c : LeaseConfig) (g : ℕ) → g ≤ MAX → Valid (starting_at c g)
valid-start c g h =
    record { rising = tt; few = omega arith; counted = tt; carried-rising = tt; carried-few = omega arith; carried-counted = tt; generation-fits = h }

abbrev Fine : List (Entry Lease) → Type 0
Fine l = All (λ o v. Counted o v.deliveries) l

-- ## one half of a table changed
pub valid-leases : (t : Table) (l : List (Entry Lease)) → Valid t → Rising 0 l → length l ≤ LEASES → Fine l → Valid (with_leases t l)
valid-leases t l v r f a =
    record { rising = r; few = f; counted = a; carried-rising = v.carried-rising; carried-few = v.carried-few; carried-counted = v.carried-counted; generation-fits = v.generation-fits }

pub valid-carried : (t : Table) (c : List (Entry ℕ)) → Valid t → Rising 0 c → length c ≤ CARRIED → All Counted c → Valid (with_carried t c)
valid-carried t c v r f a =
    record { rising = v.rising; few = v.few; counted = v.counted; carried-rising = r; carried-few = f; carried-counted = a; generation-fits = v.generation-fits }

-- a lease changed, and not how often it was handed out
pub valid-update : (t : Table) (o : ℕ) (f : Lease → Lease) → ((l : Lease) → (f l).deliveries ≡ l.deliveries) → Valid t
    → Valid (with_leases t (update o f t.leases))
valid-update t o f same v =
    valid-leases t (update o f t.leases) v
    (rising-update 0 o f t.leases v.rising)
    (rw (length-update o f t.leases) v.few)
    (all-update (λ k l. Counted k l.deliveries) o f t.leases (λ k l h. rw (same l) h) v.counted)

pub valid-ack : (t : Table) (o : ℕ) → Valid t → Valid (with_leases t (delete o t.leases))
valid-ack t o v =
    valid-leases t (delete o t.leases) v
    (rising-delete 0 o t.leases v.rising)
    (omega (arith, length-delete o t.leases, v.few))
    (all-delete (λ k l. Counted k l.deliveries) o t.leases v.counted)

next_fits : (g : ℕ) → g ≤ MAX → eqb g MAX ≡ false → g + 1 ≤ MAX
next_fits g h n = omega (arith, eqb-false g MAX n)

pub valid-requeue : (t : Table) (o deadline : ℕ) → eqb t.next_generation MAX ≡ false → Valid t → Valid (requeue t o deadline)
valid-requeue t o deadline n v =
    let u = valid-update t o (requeued_as t.next_generation deadline) (λ l. refl) v in
    record {
      rising = u.rising;
      few = u.few;
      counted = u.counted;
      carried-rising = v.carried-rising;
      carried-few = v.carried-few;
      carried-counted = v.carried-counted;
      generation-fits = next_fits t.next_generation v.generation-fits n;
    }

pub valid-flushed : (t : Table) → Valid t → Valid (attempts_flushed t)
valid-flushed t v =
    record {
      rising = v.rising;
      few = v.few;
      counted = v.counted;
      carried-rising = v.carried-rising;
      carried-few = v.carried-few;
      carried-counted = v.carried-counted;
      generation-fits = v.generation-fits;
    }

pub valid_release : (t : Table) (b : ℕ) → Valid t → Valid (release_below t b)
valid_release t b v =
    record {
      rising = rising-drop_below 0 b t.leases v.rising;
      few = omega (arith, length-drop_below b t.leases, v.few);
      counted = all-drop_below (λ k l. Counted k l.deliveries) b t.leases v.counted;
      carried-rising = rising-drop_below 0 b t.carried v.carried-rising;
      carried-few = omega (arith, length-drop_below b t.carried, v.carried-few);
      carried-counted = all-drop_below Counted b t.carried v.carried-counted;
      generation-fits = v.generation-fits;
    }

pub valid-shift : (t : Table) (delta : ℕ) → Valid t → Valid (shift_deadlines t delta)
valid-shift t delta v =
    valid-leases t (map_values (shifted_by delta) t.leases) v
    (rising-map_values (shifted_by delta) 0 t.leases v.rising)
    (rw (length-map_values (shifted_by delta) t.leases) v.few)
    (all-map_values (shifted_by delta) (λ k l. Counted k l.deliveries) (λ k l. Counted k l.deliveries) t.leases (λ k l h. h) v.counted)

-- ## grants
counted_next : (o n : ℕ) → o ≤ MAX → Counted o (sat32 n 1)
counted_next o n h = record { offset-fits = h; once = omega arith; count_fits = omega arith }

-- room for the lease of an offset: it has one, or there are fewer than 64
room : (o : ℕ) (l : Lease) (ls : List (Entry Lease)) (x : Option Lease) → lookup o ls ≡ x → Rising 0 ls → length ls ≤ LEASES
    → (is_none x && leb LEASES (length ls)) ≡ false → length (put o l ls) ≤ LEASES
room o l ls none e r f n = omega (arith, length-put o l ls, leb-false LEASES (length ls) n)
room o l ls (some w) e r f n = rw (length-put-old 0 o l w ls r e) f

record Rest (c : List (Entry ℕ)) : Type 0 where
  pub rising : Rising 0 c
  pub few : length c ≤ CARRIED
  pub counted : All Counted c

rest : (o : ℕ) (c : List (Entry ℕ)) (x : Option Lease) → Rest c → Rest (consumed x o c)
rest o c (some l) h = h
rest o c none h =
    record {
      rising = rising-delete 0 o c h.rising;
      few = omega (arith, length-delete o c, h.few);
      counted = all-delete Counted o c h.counted;
    }

pub valid-grant : (t : Table) (w o now : ℕ) → o ≤ MAX → eqb t.next_generation MAX ≡ false → (is_none (lease_of t o) && leb LEASES (length t.leases)) ≡ false
    → Valid t → Valid (grant t w o now)
valid-grant t w o now h n f v =
    let new = lease t.next_generation now (deadline_from t.config now now) (next_count t o) w in
    let c = rest o t.carried (lease_of t o) (record { rising = v.carried-rising; few = v.carried-few; counted = v.carried-counted }) in
    record {
      rising = rising-put 0 o new t.leases (omega arith) v.rising;
      few = room o new t.leases (lease_of t o) refl v.rising v.few f;
      counted = all-put (λ k l. Counted k l.deliveries) o new t.leases (counted_next o (times_handed_out (lease_of t o) (lookup o t.carried)) h) v.counted;
      carried-rising = c.rising;
      carried-few = c.few;
      carried-counted = c.counted;
      generation-fits = next_fits t.next_generation v.generation-fits n;
    }
