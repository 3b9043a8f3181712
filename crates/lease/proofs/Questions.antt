-- What the questions, and the changes that may find nothing to change, owe their contracts at each answer, over the lease
-- that was found.
-- Assumes nothing.
use Prim.Native.Nat.{ℕ, ◌≤◌, ◌<◌}
use mathlib.Core.Path.{◌≡◌, refl, sym, ap, ◌∙◌}
use mathlib.Core.Bool.{Bool, true, false, not, true≢false}
use mathlib.Core.Option.{none, some}
use lib.Dec.{ltb, leb}
use lib.ListN.{take, get_or, set}
use borrow.Author.Tests.{ltb-true, ltb-false, lt-ltb, le-ltb, le-leb, lt-leb}
use Rattle.types.specs.Limits.{sat64}
use Rattle.types.specs.Refusal.{done}
use Rattle.types.specs.Table.{Answer, answer}
use Rattle.types.specs.Keyed.{update}
use Rattle.types.proofs.Cases.{split}
use Rattle.tables.specs.Search.{Placed}
use Rattle.tables.specs.declared.Place.{Place}
use Rattle.tables.specs.declared.Place.TheVariants.{Found}
use Rattle.lease.specs.State.{Table, Sound, view, leases_of, with_leases}
use Rattle.lease.specs.Operations.{lease_of, owns, with_deadline}
use Rattle.lease.specs.Rest.{resealed_as, reseal_from_to, is_expired, defer_redelivery, is_claimable}
use Rattle.lease.specs.Answers.{Tries}
use Rattle.lease.specs.Parts.{Full, slot_in, OwnedAt, leasing, timing}
use Rattle.lease.specs.declared.Lease.{Lease}
use Rattle.lease.specs.declared.LeaseTable.{LeaseTable}
use Rattle.lease.proofs.Leases.{column-deadline, column-resealed}
use Rattle.lease.proofs.Slots.{lease-at, updated}
use Rattle.lease.proofs.Returns.{Shows, sound_as}
use Rattle.lease.proofs.Tokens.{owned}
use Rattle.lease.proofs.Valid.{valid-update}

-- ## a lease that has run out
-- it has, or it still runs
pub run-out_or_running : (d now : ℕ) → leb d now ≡ not (ltb now d)
run-out_or_running d now = split (ltb now d) (λ t. rw (t, lt-leb d now (ltb-true now d t))) (λ t. rw (t, le-leb d now (ltb-false now d t)))

module _ (s : Table) (o now : ℕ) where
  pub none_expired : lease_of s o ≡ none → is_expired (lease_of s o) now ≡ false
  none_expired e = rw e

  module _ (l : Lease) (e : lease_of s o ≡ some l) where
    pub still-running : now < l.deadline → is_expired (lease_of s o) now ≡ false
    still-running h = rw (e, lt-ltb now l.deadline h)

    pub run_out : l.deadline ≤ now → is_expired (lease_of s o) now ≡ true
    run_out h = rw (e, le-ltb now l.deadline h)

    -- ## questions
    pub claimable : leb l.deadline now ≡ is_claimable s o now
    claimable = rw e (run-out_or_running l.deadline now)

-- ## changes, over the place that the search found
module _ (t : LeaseTable) (full : Full t) (ok : Sound t) (o : ℕ) where
  -- another lease in its place
  changed : {after : LeaseTable} (f : Lease → Lease) → ((l : Lease) → (f l).deliveries ≡ l.deliveries) → Shows after (with_leases (view t) (update o f (leases_of t)))
      → {right : Answer Bool Table} → right ≡ answer (done true) (with_leases (view t) (update o f (leases_of t))) → Tries true t after right
  changed f same m e =
      record {
        is = ap (answer (done true)) m.is ∙ sym e;
        sound = sound_as m (valid-update (view t) o f same ok.valid);
        kept = λ h. absurd (true≢false h);
      }

  module _ (from to : ℕ) where
    pub not_resealed : owns (lease_of (view t) o) from ≡ false → Tries false t t (reseal_from_to (view t) o from to)
    unfolding reseal_from_to
    not_resealed h = record { is = rw h; sound = ok; kept = λ _. refl }

    pub resealed : {at : ℕ} → OwnedAt o from (take t.len t.offsets) t.slots t.generations at
        → Tries true t (leasing t.len t.offsets t.slots (set t.generations (slot_in t.slots at) to) t.attempt_starts t.deadlines t.deliveries t.workers t) (reseal_from_to (view t) o from to)
    unfolding reseal_from_to
    resealed {at} p =
        changed (resealed_as to) (λ l. refl)
        (record { len = ok.len; carried-len = ok.carried-len; slots = ok.slots; is = ap (with_leases (view t)) (updated t full ok o p.0 refl (resealed_as to) _ (column-resealed full.leases (slot_in t.slots at) to)) })
        (rw (owned t full ok o from p))

  module _ (now delay : ℕ) where
    pub not_deferred : is_expired (lease_of (view t) o) now ≡ false → Tries false t t (defer_redelivery (view t) o now delay)
    unfolding defer_redelivery
    not_deferred h = record { is = rw h; sound = ok; kept = λ _. refl }

    pub deferred : {at : ℕ} {r : Place} → Placed o (take t.len t.offsets) r → r ≡ Found at → get_or t.deadlines (slot_in t.slots at) 0 ≤ now → (d : ℕ) → d ≡ sat64 now delay
        → Tries true t (timing t.len t.offsets t.slots (set t.deadlines (slot_in t.slots at) d) t) (defer_redelivery (view t) o now delay)
    unfolding defer_redelivery
    deferred {at} p e h d is-d =
        changed (with_deadline d) (λ l. refl)
        (record { len = ok.len; carried-len = ok.carried-len; slots = ok.slots; is = ap (with_leases (view t)) (updated t full ok o p e (with_deadline d) _ (column-deadline full.leases (slot_in t.slots at) d)) })
        (rw (run_out (view t) o now _ (lease-at t full ok o p e) h, is-d))
