-- No nack outlasts the hard cap by more than the next opening asks for. Assumes nothing.
use Prim.Native.Nat.{ℕ, ◌≤◌, min}
use native.Mathlib.Omega.{arith}
use mathlib.Core.Path.{◌≡◌, ap}
use mathlib.Core.Bool.{false}
use mathlib.Core.Option.{Option}
use borrow.Author.Tests.{le-ltb}
use Rattle.types.specs.Limits.{sat64}
use Rattle.types.specs.Refusal.{Refusal, refused, done}
use Rattle.types.specs.Table.{Answer, answer}
use Rattle.types.proofs.Checked.{refused_not_done, done_inj}
use Rattle.delivery.specs.Policy.{delayed}
use Rattle.lease.specs.declared.Lease.{Lease}
use Rattle.hours.proofs.Openings.{next-later}
use Rattle.lease.specs.Operations.{lease_of, running, requeued_as}
use Rattle.consumer.specs.State.{State}
use Rattle.consumer.specs.Calls.{attempt_of, nack_deadline, nacked, nack}
use Rattle.consumer.specs.Nacks.{latest, WithinCap, NackWithinCap}
use Rattle.consumer.proofs.Updates.{lookup-update-same}
use Rattle.consumer.proofs.Open.{NackOpen, nack_cases}

sooner : (now asked cap : ℕ) → sat64 now (min asked cap) ≤ sat64 now cap
sooner now asked cap = omega arith

pub deadline-within : (s : State) (o now : ℕ) (d : Option ℕ) → nack_deadline s o now d ≤ latest s now
deadline-within s o now d =
    next-later s.settings.hours _ _ (sooner now (delayed s.settings.policy.backoff (attempt_of s o) d) s.table.config.hard_cap_nanos) (omega arith)

module _ (s : State) (w o g now : ℕ) (d : Option ℕ) where
  -- the lease that a nack leaves doesn't run from its deadline on
  freed : NackOpen s w o g → (deadline later : ℕ) → deadline ≤ later → running (lease_of (nacked s o deadline).table o) later ≡ false
  freed p deadline later h =
      let f : Lease → Lease = requeued_as s.table.next_generation deadline in
      rw (lookup-update-same o f p.token.lease s.table.leases p.token.held) (le-ltb later deadline h)

  abbrev Waits : Answer ℕ State → Type 0
  Waits x = (deadline : ℕ) (after : State) → x ≡ answer (done deadline) after → WithinCap s o now deadline after

  waits-refused : (r : Refusal) → Waits (answer (refused r) s)
  waits-refused r deadline after e = refused_not_done (ap (λ (x : Answer ℕ State). x.outcome) e)

  waits-done : NackOpen s w o g → Waits (answer (done (nack_deadline s o now d)) (nacked s o (nack_deadline s o now d)))
  waits-done p deadline after e =
      let same : nack_deadline s o now d ≡ deadline = done_inj (ap (λ (x : Answer ℕ State). x.outcome) e) in
      let left : nacked s o (nack_deadline s o now d) ≡ after = ap (λ (x : Answer ℕ State). x.state) e in
      record {
        answered = rw (← same) (deadline-within s o now d);
        free = λ later h. rw (← left) (freed p (nack_deadline s o now d) later (omega (arith, deadline-within s o now d)));
      }

pub nack-within_cap : NackWithinCap
unfolding NackWithinCap
nack-within_cap s w o g now d deadline after e =
    nack_cases s w o g now d (Waits s w o g now d) (waits-refused s w o g now d) (waits-done s w o g now d) deadline after e
