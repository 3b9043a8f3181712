-- The worker of a lease is stored and handed out, and nothing else in the module looks at it: a table answers as the one in which worker 0
-- holds every lease, and stays such a table's twin. So the answers are the original's, which has no workers.
-- SPEC.md, "Leases".
use Rattle.std.specs.Prelude.{ℕ, ◌≡◌, List}
use Rattle.types.specs.Table.{Answer}
use Rattle.types.specs.Keyed.{Entry, map_values}
use Rattle.lease.specs.State.{Table, with_leases}
use Rattle.lease.specs.Operations.{lease, claim, ack, extend, nack}
use Rattle.lease.specs.Counts.{resume_attempts, attempt_counts, all_attempt_counts}
use Rattle.lease.specs.Rest.{attempts_flushed, release_below, reseal_from_to, defer_redelivery, shift_deadlines, in_flight, is_claimable, deliveries, holds_active, pending_redelivery_attempt, expired}
use Rattle.lease.specs.declared.Lease.{Lease}

-- a lease as worker 0's, and a table with such leases alone
abbrev pub without_worker : Lease → Lease
without_worker l = lease l.generation.0 l.attempt_start l.deadline l.deliveries 0

abbrev pub without_workers : Table → Table
without_workers t = with_leases t (map_values without_worker t.leases)

-- the same answer, and the same table but for its workers
pub record Twin {A : Type 0} (r s : Answer A Table) : Type 0 where
  pub answers : s.outcome ≡ r.outcome
  pub leaves : s.state ≡ without_workers r.state

-- every call, whichever worker claims, and every question but those for the worker
pub record WorkerUnseen (t : Table) : Type 0 where
  pub claims : (w o now : ℕ) → Twin (claim t w o now) (claim (without_workers t) 0 o now)
  pub acks : (o g : ℕ) → Twin (ack t o g) (ack (without_workers t) o g)
  pub extends : (o g now : ℕ) → Twin (extend t o g now) (extend (without_workers t) o g now)
  pub nacks : (o g now delay : ℕ) → Twin (nack t o g now delay) (nack (without_workers t) o g now delay)
  pub reseals : (o from to : ℕ) → Twin (reseal_from_to t o from to) (reseal_from_to (without_workers t) o from to)
  pub defers : (o now delay : ℕ) → Twin (defer_redelivery t o now delay) (defer_redelivery (without_workers t) o now delay)
  pub resumes : (ps : List (Entry ℕ)) → Twin (resume_attempts t ps) (resume_attempts (without_workers t) ps)
  pub releases : (bound : ℕ) → release_below (without_workers t) bound ≡ without_workers (release_below t bound)
  pub shifts : (delta : ℕ) → shift_deadlines (without_workers t) delta ≡ without_workers (shift_deadlines t delta)
  pub flushes : attempts_flushed (without_workers t) ≡ without_workers (attempts_flushed t)
  pub how_many : in_flight (without_workers t) ≡ in_flight t
  pub claimable : (o now : ℕ) → is_claimable (without_workers t) o now ≡ is_claimable t o now
  pub counts : (o g : ℕ) → deliveries (without_workers t) o g ≡ deliveries t o g
  pub active : (o g now : ℕ) → holds_active (without_workers t) o g now ≡ holds_active t o g now
  pub pending : (o now : ℕ) → pending_redelivery_attempt (without_workers t) o now ≡ pending_redelivery_attempt t o now
  pub lists : (now : ℕ) → expired (without_workers t) now ≡ expired t now
  pub attempts : attempt_counts (without_workers t) ≡ attempt_counts t
  pub all-attempts : all_attempt_counts (without_workers t) ≡ all_attempt_counts t

-- every table
unfoldable pub AnswersWithoutWorkers : Type 0
AnswersWithoutWorkers = (t : Table) → WorkerUnseen t
