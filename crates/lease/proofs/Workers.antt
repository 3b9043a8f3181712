-- A table answers as the one in which worker 0 holds every lease: each change of the leases commutes with a change of all their values, and
-- each test of a lease looks at its other fields. Assumes nothing.
use Prim.Native.Nat.{ℕ}
use mathlib.Core.Path.{◌≡◌, refl, sym, ap, ◌∙◌}
use mathlib.Core.Bool.{Bool, true, false, cond}
use mathlib.Core.List.{List, [], ◌∷◌}
use mathlib.Core.Option.{Option, none, some, map}
use lib.Dec.{ltb, eqb}
use lib.ListN.{length}
use Rattle.types.specs.Limits.{CARRIED, sat64}
use Rattle.types.specs.Refusal.{Refusal, done, TooManyPairs}
use Rattle.types.specs.Table.{Row, ◌⇒◌, first, answer, unless_kept, guarded}
use Rattle.types.specs.Keyed.{Entry, entry, lookup, put, update, delete, drop_below, map_values}
use Rattle.types.proofs.Cases.{split}
use Rattle.types.proofs.Keyed.{lookup-map_values, length-map_values}
use Rattle.lease.specs.State.{Table, with_leases, with_carried}
use Rattle.lease.specs.Operations.{lease, lease_of, is_none, running, owns, start_of, times_handed_out, next_count, consumed, deadline_from, claim_rows, grant, granted, claim, ack, token_row, with_deadline, extend_rows, extended, extend, requeued_as, nack_rows, requeue, nack}
use Rattle.lease.specs.Counts.{carry_all, resume_attempts, attempt_counts, raise_all, all_attempt_counts}
use Rattle.lease.specs.Rest.{release_below, resealed_as, reseal_from_to, is_expired, defer_redelivery, shifted_by, shift_deadlines, deliveries_of, expired_offsets}
use Rattle.lease.specs.declared.Lease.{Lease}
use Rattle.lease.specs.Workers.{without_worker, without_workers, Twin, AnswersWithoutWorkers}

-- ## values changed, before or after another change
module _ {A B : Type 0} (f : A → B) where
  put-mapped : (k : ℕ) (v : A) (l : List (Entry A)) → put k (f v) (map_values f l) ≡ map_values f (put k v l)
  put-mapped k v [] = refl
  put-mapped k v (e ∷ l) =
      split (ltb k e.key)
      (λ t. rw t)
      (λ t. rw t (split (eqb k e.key) (λ u. rw u) (λ u. rw u (ap (λ m. entry e.key (f e.value) ∷ m) (put-mapped k v l)))))

  delete-mapped : (k : ℕ) (l : List (Entry A)) → delete k (map_values f l) ≡ map_values f (delete k l)
  delete-mapped k [] = refl
  delete-mapped k (e ∷ l) =
      split (eqb k e.key) (λ t. rw t (delete-mapped k l)) (λ t. rw t (ap (λ m. entry e.key (f e.value) ∷ m) (delete-mapped k l)))

  drop-mapped : (b : ℕ) (l : List (Entry A)) → drop_below b (map_values f l) ≡ map_values f (drop_below b l)
  drop-mapped b [] = refl
  drop-mapped b (e ∷ l) =
      split (ltb e.key b) (λ t. rw t (drop-mapped b l)) (λ t. rw t (ap (λ m. entry e.key (f e.value) ∷ m) (drop-mapped b l)))

  update-mapped : (k : ℕ) (g : B → B) (h : A → A) → ((v : A) → g (f v) ≡ f (h v)) → (l : List (Entry A)) → update k g (map_values f l) ≡ map_values f (update k h l)
  update-mapped k g h same [] = refl
  update-mapped k g h same (e ∷ l) =
      split (eqb k e.key)
      (λ t. rw (t, same e.value))
      (λ t. rw t (ap (λ m. entry e.key (f e.value) ∷ m) (update-mapped k g h same l)))

  twice-mapped : {C : Type 0} (g : B → C) (h : A → C) → ((v : A) → g (f v) ≡ h v) → (l : List (Entry A)) → map_values g (map_values f l) ≡ map_values h l
  twice-mapped g h same [] = refl
  twice-mapped g h same (e ∷ l) = rw (same e.value) (ap (λ m. entry e.key (h e.value) ∷ m) (twice-mapped g h same l))

-- ## tests of a lease
abbrev blind : Option Lease → Option Lease
blind = map without_worker

running-blind : (x : Option Lease) (now : ℕ) → running (blind x) now ≡ running x now
running-blind none now = refl
running-blind (some l) now = refl

owns-blind : (x : Option Lease) (g : ℕ) → owns (blind x) g ≡ owns x g
owns-blind none g = refl
owns-blind (some l) g = refl

none_blind : (x : Option Lease) → is_none (blind x) ≡ is_none x
none_blind none = refl
none_blind (some l) = refl

start-blind : (x : Option Lease) → start_of (blind x) ≡ start_of x
start-blind none = refl
start-blind (some l) = refl

count-blind : (x : Option Lease) → deliveries_of (blind x) ≡ deliveries_of x
count-blind none = refl
count-blind (some l) = refl

times-blind : (x : Option Lease) (c : Option ℕ) → times_handed_out (blind x) c ≡ times_handed_out x c
times-blind none c = refl
times-blind (some l) c = refl

consumed-blind : (x : Option Lease) (o : ℕ) (c : List (Entry ℕ)) → consumed (blind x) o c ≡ consumed x o c
consumed-blind none o c = refl
consumed-blind (some l) o c = refl

-- ## answers
-- by the same rows, or the same test
twin : {A : Type 0} (vs ws : List Row) (t : Table) (x y : A) (s v : Table) → vs ≡ ws → y ≡ x → v ≡ without_workers s
    → Twin (guarded ws t (answer (done x) s)) (guarded vs (without_workers t) (answer (done y) v))
twin vs ws t x y s v rows same is = rw rows (go (first ws))
  where
    go : (r : Option Refusal) → Twin (unless_kept r t (answer (done x) s)) (unless_kept r (without_workers t) (answer (done y) v))
    go none = record { answers = ap done same; leaves = is }
    go (some r) = record { answers = refl; leaves = refl }

either-twin : (b c : Bool) (t s v : Table) → c ≡ b → v ≡ without_workers s
    → Twin (cond b (answer (done true) s) (answer (done false) t)) (cond c (answer (done true) v) (answer (done false) (without_workers t)))
either-twin b c t s v e is =
    rw e (split b
    (λ y. rw y (record { answers = refl; leaves = is }))
    (λ y. rw y (record { answers = refl; leaves = refl })))

-- ## every table
module _ (t : Table) where
  abbrev u : Table
  u = without_workers t

  found : (o : ℕ) → lease_of u o ≡ blind (lease_of t o)
  found o = lookup-map_values without_worker o t.leases

  -- a lease that is changed, and not its worker
  changed : (o : ℕ) (f : Lease → Lease) → ((l : Lease) → f (without_worker l) ≡ without_worker (f l))
      → with_leases u (update o f u.leases) ≡ without_workers (with_leases t (update o f t.leases))
  changed o f same = ap (with_leases t) (update-mapped without_worker o f f same t.leases)

  next-blind : (o : ℕ) → next_count u o ≡ next_count t o
  next-blind o = rw (found o, times-blind (lease_of t o) (lookup o t.carried))

  grant-blind : (w o now : ℕ) → grant u 0 o now ≡ without_workers (grant t w o now)
  grant-blind w o now =
      rw (next-blind o, found o, consumed-blind (lease_of t o) o t.carried)
      (ap (with_leases (grant t w o now)) (put-mapped without_worker o (lease t.next_generation now (deadline_from t.config now now) (next_count t o) w) t.leases))

  claims : (w o now : ℕ) → Twin (claim t w o now) (claim u 0 o now)
  unfolding claim
  claims w o now =
      twin (claim_rows u o now) (claim_rows t o now) t (granted t o) (granted u o) (grant t w o now) (grant u 0 o now)
      (rw (found o, running-blind (lease_of t o) now, none_blind (lease_of t o), length-map_values without_worker t.leases))
      (rw (next-blind o)) (grant-blind w o now)

  token : (o g : ℕ) → token_row u o g ≡ token_row t o g
  token o g = rw (found o, owns-blind (lease_of t o) g)

  acks : (o g : ℕ) → Twin (ack t o g) (ack u o g)
  unfolding ack
  acks o g =
      twin (token_row u o g ∷ []) (token_row t o g ∷ []) t tt tt (with_leases t (delete o t.leases)) (with_leases u (delete o u.leases))
      (rw (token o g)) refl (ap (with_leases t) (delete-mapped without_worker o t.leases))

  extended-blind : (o now : ℕ) → extended u o now ≡ extended t o now
  extended-blind o now = rw (found o, start-blind (lease_of t o))

  extends : (o g now : ℕ) → Twin (extend t o g now) (extend u o g now)
  unfolding extend
  extends o g now =
      twin (extend_rows u o g now) (extend_rows t o g now) t (extended t o now) (extended u o now)
      (with_leases t (update o (with_deadline (extended t o now)) t.leases)) (with_leases u (update o (with_deadline (extended u o now)) u.leases))
      (rw (found o, owns-blind (lease_of t o) g, start-blind (lease_of t o))) (extended-blind o now)
      (rw (extended-blind o now) (changed o (with_deadline (extended t o now)) (λ l. refl)))

  nacks : (o g now delay : ℕ) → Twin (nack t o g now delay) (nack u o g now delay)
  unfolding nack
  nacks o g now delay =
      twin (nack_rows u o g) (nack_rows t o g) t (sat64 now delay) (sat64 now delay) (requeue t o (sat64 now delay)) (requeue u o (sat64 now delay))
      (rw (token o g)) refl
      (ap (with_leases (requeue t o (sat64 now delay)))
      (update-mapped without_worker o (requeued_as t.next_generation (sat64 now delay)) (requeued_as t.next_generation (sat64 now delay)) (λ l. refl) t.leases))

  reseals : (o from to : ℕ) → Twin (reseal_from_to t o from to) (reseal_from_to u o from to)
  unfolding reseal_from_to
  reseals o from to =
      either-twin (owns (lease_of t o) from) (owns (lease_of u o) from) t (with_leases t (update o (resealed_as to) t.leases)) (with_leases u (update o (resealed_as to) u.leases))
      (rw (found o, owns-blind (lease_of t o) from)) (changed o (resealed_as to) (λ l. refl))

  expired-blind : (o now : ℕ) → is_expired (lease_of u o) now ≡ is_expired (lease_of t o) now
  expired-blind o now = rw (found o, none_blind (lease_of t o), running-blind (lease_of t o) now)

  defers : (o now delay : ℕ) → Twin (defer_redelivery t o now delay) (defer_redelivery u o now delay)
  unfolding defer_redelivery
  defers o now delay =
      either-twin (is_expired (lease_of t o) now) (is_expired (lease_of u o) now) t (with_leases t (update o (with_deadline (sat64 now delay)) t.leases))
      (with_leases u (update o (with_deadline (sat64 now delay)) u.leases)) (expired-blind o now) (changed o (with_deadline (sat64 now delay)) (λ l. refl))

  resumes : (ps : List (Entry ℕ)) → Twin (resume_attempts t ps) (resume_attempts u ps)
  unfolding resume_attempts
  resumes ps =
      let rows : List Row = ltb CARRIED (length (carry_all ps t.carried)) ⇒ TooManyPairs ∷ [] in
      twin rows rows t tt tt (with_carried t (carry_all ps t.carried)) (with_carried u (carry_all ps t.carried)) refl refl refl

  shifts : (delta : ℕ) → shift_deadlines u delta ≡ without_workers (shift_deadlines t delta)
  shifts delta =
      ap (with_leases t)
      (twice-mapped without_worker (shifted_by delta) (λ l. without_worker (shifted_by delta l)) (λ l. refl) t.leases
      ∙ sym (twice-mapped (shifted_by delta) without_worker (λ l. without_worker (shifted_by delta l)) (λ l. refl) t.leases))

  same-attempts : attempt_counts u ≡ attempt_counts t
  same-attempts = twice-mapped without_worker (λ (l : Lease). l.deliveries) (λ (l : Lease). l.deliveries) (λ l. refl) t.leases

  all-attempts : all_attempt_counts u ≡ all_attempt_counts t
  unfolding all_attempt_counts
  all-attempts = ap (λ l. raise_all l t.carried) same-attempts

listed-blind : (now : ℕ) (l : List (Entry Lease)) → expired_offsets now (map_values without_worker l) ≡ expired_offsets now l
listed-blind now [] = refl
listed-blind now (e ∷ l) =
    split (ltb now e.value.deadline) (λ t. rw t (listed-blind now l)) (λ t. rw t (ap (λ m. e.key ∷ m) (listed-blind now l)))

pub answers-without-workers : AnswersWithoutWorkers
unfolding AnswersWithoutWorkers
answers-without-workers t =
    record {
      claims = claims t;
      acks = acks t;
      extends = extends t;
      nacks = nacks t;
      reseals = reseals t;
      defers = defers t;
      resumes = resumes t;
      releases = λ bound. ap (with_leases (release_below t bound)) (drop-mapped without_worker bound t.leases);
      shifts = shifts t;
      flushes = refl;
      how_many = length-map_values without_worker t.leases;
      claimable = λ o now. rw (found t o, running-blind (lease_of t o) now);
      counts = λ o g. rw (found t o, owns-blind (lease_of t o) g, count-blind (lease_of t o));
      active = λ o g now. rw (found t o, owns-blind (lease_of t o) g, running-blind (lease_of t o) now);
      pending = λ o now. rw (found t o, none_blind (lease_of t o), running-blind (lease_of t o) now, count-blind (lease_of t o));
      lists = λ now. listed-blind now t.leases;
      attempts = same-attempts t;
      all-attempts = all-attempts t;
    }
