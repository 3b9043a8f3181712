-- Every answer of every call keeps what holds of a state. A call changes cursor and table alone, so that `changed` leaves little to be
-- shown of it. Assumes nothing.
use Prim.Native.Nat.{ℕ, ◌+◌, ◌≤◌}
use native.Mathlib.Omega.{arith}
use mathlib.Core.Path.{◌≡◌, refl, sym, ◌∙◌}
use mathlib.Core.Bool.{Bool, true, false, ◌&&◌, ◌||◌, true≢false}
use mathlib.Core.List.{List}
use mathlib.Core.Option.{Option, none, some}
use lib.Dec.{ltb, leb, eqb}
use lib.ListN.{length}
use borrow.Author.Tests.{eqb-true, ne_eqb, lt-leb}
use Rattle.types.specs.Limits.{MAX, LEASES, CARRIED, RANGES}
use Rattle.types.specs.Refusal.{done}
use Rattle.types.specs.Table.{Answer}
use Rattle.types.specs.Keyed.{Entry, lookup, put, update}
use Rattle.types.proofs.Cases.{split}
use Rattle.types.proofs.Keyed.{lookup-put-other, lookup-delete-same, lookup-delete-other, lookup-drop-below, lookup_keep_above, length-put, length-put-old, length-delete, length-delete-old, length-update, length-drop_below}
use Rattle.consumer.proofs.Updates.{lookup-update-other}
use Rattle.types.proofs.Entries.{absent}
use Rattle.cursor.specs.Cursor.{Cursor, settled, ackBounded}
use Rattle.cursor.specs.Cursor as cursor
use Rattle.cursor.proofs.Cursor as cursors
use Rattle.lease.specs.declared.Lease.{Lease}
use Rattle.lease.specs.State.{Table}
use Rattle.lease.specs.State as leases
use Rattle.lease.specs.Operations.{lease, deadline_from, lease_of, is_none, next_count, consumed, after_grant, grant, with_deadline, requeued_as, extended}
use Rattle.lease.proofs.Valid.{valid-grant, valid-ack, valid-requeue, valid-update, valid_release}
use Rattle.consumer.specs.State.{State, with_both}
use Rattle.consumer.specs.Calls.{HandOut, claimed, claim, is_shed, acked, ack, nack_deadline, nacked, nack, progressed, progress, with_committed, commit}
use Rattle.consumer.specs.Valid.{Leased, Valid}
use Rattle.consumer.proofs.Open.{ClaimOpen, claim_cases, AckOpen, ack_cases, NackOpen, nack_cases, ProgressOpen, progress_cases, commit_cases}

-- ## A state with another cursor and another table
module _ (s : State) (c : Cursor) (t : Table) where
  -- what is left to be shown of it: all else is as it was
  record Changed : Type 0 where
    cursor : cursor.Valid c
    table : leases.Valid t
    together : length t.leases + length t.carried ≤ CARRIED
    leased : (o : ℕ) (l : Lease) → lookup o t.leases ≡ some l → Leased c t.carried o
    carried : (o n : ℕ) → lookup o t.carried ≡ some n → settled c o ≡ false
    under-ceiling : t.next_generation ≤ s.ceiling
    counter : t.redeliveries ≤ s.settings.policy.flush_redeliveries

  changed : Valid s → Changed → Valid (with_both s c t)
  changed v h =
      record {
        cursor = h.cursor;
        table = h.table;
        together = h.together;
        leased = h.leased;
        carried = h.carried;
        under-ceiling = h.under-ceiling;
        ceiling-fits = v.ceiling-fits;
        counter = h.counter;
        fits = v.fits;
        accepted = v.accepted;
        area = v.area;
        within = v.within;
        numbered = v.numbered;
      }

-- ## claim
-- the carried counts once an offset is leased, x being its lease before
pub consumed-same : (o : ℕ) (c : List (Entry ℕ)) (x : Option Lease) → ((l : Lease) → x ≡ some l → lookup o c ≡ none)
    → lookup o (consumed x o c) ≡ none
consumed-same o c none alone = lookup-delete-same o c
consumed-same o c (some l) alone = alone l refl

pub consumed-other : (j o : ℕ) (c : List (Entry ℕ)) (x : Option Lease) → eqb j o ≡ false → lookup j (consumed x o c) ≡ lookup j c
consumed-other j o c none n = lookup-delete-other j o c n
consumed-other j o c (some l) n = refl

-- the lease that a claim makes
abbrev pub new_lease : Table → ℕ → ℕ → ℕ → Lease
new_lease t w o now = lease t.next_generation now (deadline_from t.config now now) (next_count t o) w

module _ (s : State) (w o now : ℕ) (v : Valid s) (p : ClaimOpen s w o now) where
  abbrev t : Table
  t = s.table

  abbrev new : Lease
  new = new_lease t w o now

  -- room for the lease, and for all counts together, by what the offset had before
  lease-fits : (x : Option Lease) → lease_of t o ≡ x → (is_none x && leb LEASES (length t.leases)) ≡ false
  lease-fits none e = lt-leb LEASES (length t.leases) (p.lease-room e)
  lease-fits (some l) e = refl

  counts-together : (x : Option Lease) (y : Option ℕ) → lease_of t o ≡ x → lookup o t.carried ≡ y
      → length (put o new t.leases) + length (consumed x o t.carried) ≤ CARRIED
  counts-together (some l) y e f = rw (length-put-old 0 o new l t.leases v.table.rising e) v.together
  counts-together none none e f =
      omega (arith, p.count_room e f, length-put o new t.leases, length-delete o t.carried)
  counts-together none (some n) e f =
      omega (arith, v.together, length-put o new t.leases, length-delete-old o n t.carried f)

  counted : after_grant t.redeliveries (next_count t o) ≤ s.settings.policy.flush_redeliveries
  counted =
      split (leb 2 (next_count t o))
      (λ q. rw q (omega (arith, p.below-threshold)))
      (λ q. rw q (omega (arith, p.below-threshold)))

  pub claimed-valid : o ≤ MAX → Valid (claimed s w o now)
  claimed-valid fits =
      changed s s.cursor (grant t w o now) v (record {
        cursor = v.cursor;
        table = valid-grant t w o now fits (ne_eqb t.next_generation MAX p.generation-left) (lease-fits (lease_of t o) refl) v.table;
        together = counts-together (lease_of t o) (lookup o t.carried) refl refl;
        leased = λ x l q.
            split (eqb x o)
            (λ e. rw (eqb-true x o e) here)
            (λ e. there x e (v.leased x l (sym (lookup-put-other x o new t.leases e) ∙ q)));
        carried = λ x n q.
            split (eqb x o)
            (λ e. rw (eqb-true x o e) p.unsettled)
            (λ e. v.carried x n (sym (consumed-other x o t.carried (lease_of t o) e) ∙ q));
        under-ceiling = omega (arith, p.below-ceiling);
        counter = counted;
      })
    where
      here : Leased s.cursor (consumed (lease_of t o) o t.carried) o
      here =
          record {
            below = omega (arith, p.not_last);
            unsettled = p.unsettled;
            alone = consumed-same o t.carried (lease_of t o) (λ l e. (v.leased o l e).alone);
          }

      there : (x : ℕ) → eqb x o ≡ false → Leased s.cursor t.carried x
          → Leased s.cursor (consumed (lease_of t o) o t.carried) x
      there x e h =
          record {
            below = h.below;
            unsettled = h.unsettled;
            alone = consumed-other x o t.carried (lease_of t o) e ∙ h.alone;
          }

pub claim-valid : (s : State) (w o now : ℕ) → o ≤ MAX → Valid s → Valid (claim s w o now).state
claim-valid s w o now fits v =
    claim_cases s w o now (λ (a : Answer HandOut State). Valid a.state) (λ r. v) (λ p. claimed-valid s w o now v p fits)

-- ## Ack and Term
module _ (s : State) (w o g : ℕ) (v : Valid s) (p : AckOpen s w o g) where
  pub acked-leased : Leased s.cursor s.table.carried o
  acked-leased = v.leased o p.token.lease p.token.held

  -- a leased offset is neither settled nor MAX, so that an ack of it which is not shed is recorded
  pub ack-recorded : (ackBounded s.cursor o RANGES).outcome ≡ done true
  ack-recorded =
      cursors.ack_cases s.cursor o RANGES (λ (a : Answer Bool Cursor). is_shed a.outcome ≡ false → a.outcome ≡ done true)
      (λ d n. absurd (true≢false (sym d ∙ rw acked-leased.unsettled (ne_eqb o MAX (λ e. omega (arith, acked-leased.below))))))
      (λ u m f n. absurd (true≢false n))
      (λ u m f n. refl)
      p.not_shed

  pub acked-settled : (x : ℕ) → settled (acked s o).cursor x ≡ (eqb x o || settled s.cursor x)
  acked-settled = cursors.settled-after-recorded s.cursor o RANGES v.cursor ack-recorded

  -- what was unsettled is, but for the offset itself
  still-unsettled : (x : ℕ) → eqb x o ≡ false → settled s.cursor x ≡ false → settled (acked s o).cursor x ≡ false
  still-unsettled x e u = acked-settled x ∙ rw e u

  pub acked-valid : Valid (acked s o)
  acked-valid =
      changed s (acked s o).cursor (acked s o).table v (record {
        cursor = cursors.ack-valid s.cursor o RANGES v.cursor (omega (arith, acked-leased.below));
        table = valid-ack s.table o v.table;
        together = omega (arith, v.together, length-delete o s.table.leases);
        leased = λ x l q.
            split (eqb x o)
            (λ e. absent (lookup-delete-same o s.table.leases) (rw (eqb-true x o e) at q))
            (λ e.
            let h = v.leased x l (sym (lookup-delete-other x o s.table.leases e) ∙ q) in
            record { below = h.below; unsettled = still-unsettled x e h.unsettled; alone = h.alone });
        carried = λ x n q.
            split (eqb x o)
            (λ e. absent acked-leased.alone (rw (eqb-true x o e) at q))
            (λ e. still-unsettled x e (v.carried x n q));
        under-ceiling = v.under-ceiling;
        counter = v.counter;
      })

pub ack-valid : (s : State) (w o g : ℕ) → Valid s → Valid (ack s w o g).state
ack-valid s w o g v =
    ack_cases s w o g (λ (a : Answer (Unit {0}) State). Valid a.state) (λ r. v) (λ p. acked-valid s w o g v p)

-- ## Nack and Progress: a lease is changed in its place
module _ (s : State) (o : ℕ) (v : Valid s) (l : Lease) (held : lease_of s.table o ≡ some l) (f : Lease → Lease) where
  updated-leased : (x : ℕ) (k : Lease) → lookup x (update o f s.table.leases) ≡ some k → Leased s.cursor s.table.carried x
  updated-leased x k q =
      split (eqb x o)
      (λ e. rw (eqb-true x o e) (v.leased o l held))
      (λ e. v.leased x k (sym (lookup-update-other x o f s.table.leases e) ∙ q))

  updated-together : length (update o f s.table.leases) + length s.table.carried ≤ CARRIED
  updated-together = rw (length-update o f s.table.leases) v.together

pub nacked-valid : (s : State) (w o g deadline : ℕ) → Valid s → NackOpen s w o g → Valid (nacked s o deadline)
nacked-valid s w o g deadline v p =
    let f = requeued_as s.table.next_generation deadline in
    changed s s.cursor (nacked s o deadline).table v (record {
      cursor = v.cursor;
      table = valid-requeue s.table o deadline (ne_eqb s.table.next_generation MAX p.generation-left) v.table;
      together = updated-together s o v p.token.lease p.token.held f;
      leased = updated-leased s o v p.token.lease p.token.held f;
      carried = v.carried;
      under-ceiling = omega (arith, p.below-ceiling);
      counter = v.counter;
    })

pub nack-valid : (s : State) (w o g now : ℕ) (d : Option ℕ) → Valid s → Valid (nack s w o g now d).state
nack-valid s w o g now d v =
    nack_cases s w o g now d (λ (a : Answer ℕ State). Valid a.state) (λ r. v)
    (λ p. nacked-valid s w o g (nack_deadline s o now d) v p)

pub progressed-valid : (s : State) (w o g now deadline : ℕ) → Valid s → ProgressOpen s w o g now → Valid (progressed s o deadline)
progressed-valid s w o g now deadline v p =
    changed s s.cursor (progressed s o deadline).table v (record {
      cursor = v.cursor;
      table = valid-update s.table o (with_deadline deadline) (λ l. refl) v.table;
      together = updated-together s o v p.token.lease p.token.held (with_deadline deadline);
      leased = updated-leased s o v p.token.lease p.token.held (with_deadline deadline);
      carried = v.carried;
      under-ceiling = v.under-ceiling;
      counter = v.counter;
    })

pub progress-valid : (s : State) (w o g now : ℕ) → Valid s → Valid (progress s w o g now).state
progress-valid s w o g now v =
    progress_cases s w o g now (λ (a : Answer ℕ State). Valid a.state) (λ r. v)
    (λ p. progressed-valid s w o g now (extended s.table o now) v p)

-- ## Commit
module _ (s : State) (bound : ℕ) (v : Valid s) where
  pub committed-settled : (x : ℕ) → settled (with_committed s bound).cursor x ≡ (ltb x bound || settled s.cursor x)
  committed-settled = cursors.settled-after-commit s.cursor bound v.cursor

  pub committed-valid : bound ≤ MAX → Valid (with_committed s bound)
  committed-valid fits =
      changed s (with_committed s bound).cursor (with_committed s bound).table v (record {
        cursor = cursors.commit-valid s.cursor bound v.cursor fits;
        table = valid_release s.table bound v.table;
        together = omega (arith, v.together, length-drop_below bound s.table.leases, length-drop_below bound s.table.carried);
        leased = λ x l q.
            split (ltb x bound)
            (λ e. absent (lookup-drop-below x bound s.table.leases e) q)
            (λ e.
            let h = v.leased x l (sym (lookup_keep_above x bound s.table.leases e) ∙ q) in
            record {
              below = h.below;
              unsettled = committed-settled x ∙ rw e h.unsettled;
              alone = lookup_keep_above x bound s.table.carried e ∙ h.alone;
            });
        carried = λ x n q.
            split (ltb x bound)
            (λ e. absent (lookup-drop-below x bound s.table.carried e) q)
            (λ e. committed-settled x ∙ rw e (v.carried x n (sym (lookup_keep_above x bound s.table.carried e) ∙ q)));
        under-ceiling = v.under-ceiling;
        counter = v.counter;
      })

pub commit-valid : (s : State) (w bound : ℕ) → bound ≤ MAX → Valid s → Valid (commit s w bound).state
commit-valid s w bound fits v =
    commit_cases s w bound (λ (a : Answer Bool State). Valid a.state) (λ r. v) (λ a h. v) (λ p. committed-valid s bound v fits)
