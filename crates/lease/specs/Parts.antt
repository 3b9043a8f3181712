-- The parts of a table, as the calls in place are lent them: numbers and columns, and the tables that have them.
-- SPEC.md, "Leases".
use Rattle.std.specs.Prelude.{ℕ, ◌%◌, ◌<◌, ◌≡◌, List, length, take, get_or}
use Rattle.types.specs.Limits.{LEASES, CARRIED}
use Rattle.types.specs.Refusal.{Result}
use Rattle.types.specs.Table.{Answer}
use Rattle.tables.specs.Search.{Placed}
use Rattle.tables.specs.declared.Place.{Place}
use Rattle.tables.specs.declared.Place.TheVariants.{Found, Missing}
use Rattle.lease.specs.State.{Table, Sound, view}
use Rattle.lease.specs.Answers.{Answers, Becomes}
use Rattle.lease.specs.declared.LeaseConfig.{LeaseConfig}
use Rattle.lease.specs.declared.LeaseTable.{LeaseTable}

-- the table of these numbers and columns: what a function in place is lent, and what it leaves
abbrev pub gathered : LeaseConfig → ℕ → ℕ → ℕ → ℕ → List ℕ → List ℕ → List ℕ → List ℕ → List ℕ → List ℕ → List ℕ → List ℕ → List ℕ → LeaseTable
gathered c n m g r ks slots gs ss ds ns ws cks cvs =
    record {
      config = c;
      offsets = ks;
      slots = slots;
      generations = gs;
      attempt_starts = ss;
      deadlines = ds;
      deliveries = ns;
      workers = ws;
      len = n;
      carried_offsets = cks;
      carried_counts = cvs;
      carried_len = m;
      next_generation = record { 0 = g };
      redeliveries_since_flush = r;
    }

-- a table with other leases, and with other values in the parts that a call looks at: an ack, an extension, a nack
abbrev pub leasing : ℕ → List ℕ → List ℕ → List ℕ → List ℕ → List ℕ → List ℕ → List ℕ → LeaseTable → LeaseTable
leasing n ks slots gs ss ds ns ws t =
    gathered t.config n t.carried_len t.next_generation.0 t.redeliveries_since_flush ks slots gs ss ds ns ws t.carried_offsets t.carried_counts

abbrev pub removing : ℕ → List ℕ → List ℕ → LeaseTable → LeaseTable
removing n ks slots t = leasing n ks slots t.generations t.attempt_starts t.deadlines t.deliveries t.workers t

abbrev pub extending : LeaseConfig → List ℕ → List ℕ → List ℕ → LeaseTable → LeaseTable
extending c slots ss ds t =
    gathered c t.len t.carried_len t.next_generation.0 t.redeliveries_since_flush t.offsets slots t.generations ss ds t.deliveries t.workers t.carried_offsets t.carried_counts

abbrev pub requeuing : ℕ → List ℕ → List ℕ → List ℕ → LeaseTable → LeaseTable
requeuing g slots gs ds t =
    gathered t.config t.len t.carried_len g t.redeliveries_since_flush t.offsets slots gs t.attempt_starts ds t.deliveries t.workers t.carried_offsets t.carried_counts

-- those that a release below a bound looks at: both lists of offsets, the slots and the carried counts
abbrev pub releasing : ℕ → ℕ → List ℕ → List ℕ → List ℕ → List ℕ → LeaseTable → LeaseTable
releasing n m ks slots cks cvs t =
    gathered t.config n m t.next_generation.0 t.redeliveries_since_flush ks slots t.generations t.attempt_starts t.deadlines t.deliveries t.workers cks cvs

-- those that a question looks at: the count and the worker of a token, the deadlines, the leases' counts, the carried ones, both
abbrev pub counting : ℕ → List ℕ → List ℕ → List ℕ → List ℕ → List ℕ → LeaseTable → LeaseTable
counting n ks slots gs ns ws t = leasing n ks slots gs t.attempt_starts t.deadlines ns ws t

abbrev pub due : List ℕ → List ℕ → LeaseTable → LeaseTable
due slots ds t = leasing t.len t.offsets slots t.generations t.attempt_starts ds t.deliveries t.workers t

abbrev pub timing : ℕ → List ℕ → List ℕ → List ℕ → LeaseTable → LeaseTable
timing n ks slots ds t = leasing n ks slots t.generations t.attempt_starts ds t.deliveries t.workers t

abbrev pub listing : ℕ → List ℕ → List ℕ → List ℕ → LeaseTable → LeaseTable
listing n ks slots ns t = counting n ks slots t.generations ns t.workers t

abbrev pub carrying : ℕ → List ℕ → List ℕ → LeaseTable → LeaseTable
carrying m cks cvs t = releasing t.len m t.offsets t.slots cks cvs t

-- how many leases and carried counts there are, with the carried ones
abbrev pub sized : ℕ → ℕ → List ℕ → List ℕ → LeaseTable → LeaseTable
sized n m cks cvs t = releasing n m t.offsets t.slots cks cvs t

abbrev pub listing_all : ℕ → ℕ → List ℕ → List ℕ → List ℕ → List ℕ → List ℕ → LeaseTable → LeaseTable
listing_all n m ks slots ns cks cvs t = carrying m cks cvs (listing n ks slots ns t)

-- columns of one length
pub record Even (k : ℕ) (gs ss ds ns ws : List ℕ) : Type 0 where
  pub generations : length gs ≡ k
  pub starts : length ss ≡ k
  pub deadlines : length ds ≡ k
  pub counts : length ns ≡ k
  pub workers : length ws ≡ k

-- the arrays of a table have their lengths
pub record Full (t : LeaseTable) : Type 0 where
  pub offsets : length t.offsets ≡ LEASES
  pub slots : length t.slots ≡ LEASES
  pub leases : Even LEASES t.generations t.attempt_starts t.deadlines t.deliveries t.workers
  pub carried-offsets : length t.carried_offsets ≡ CARRIED
  pub carried-counts : length t.carried_counts ≡ CARRIED

-- what a function in place requires of the table that it is lent: a lent array does not show its length
pub record Whole (t : LeaseTable) : Type 0 where
  pub full : Full t
  pub sound : Sound t

-- where a lease is stored: the slot at a place, which is below 64 in every table that the functions make
abbrev pub slot_in : List ℕ → ℕ → ℕ
slot_in slots at = get_or slots at 0 % LEASES

-- a token of generation g owns the lease of offset o at a place
abbrev pub OwnedAt : ℕ → ℕ → List ℕ → List ℕ → List ℕ → ℕ → Type 0
OwnedAt o g ks slots gs at = Placed o ks (Found at) × (get_or gs (slot_in slots at) 0 ≡ g)

-- what a call answers on every table that has these parts, with a token that owns the lease at a place
abbrev pub AnswersOwned : {A : Type 0} → ℕ → Result A → (LeaseTable → LeaseTable) → (LeaseTable → LeaseTable) → (ℕ → ℕ → Table → Answer A Table) → Type 0
AnswersOwned at outcome before after right =
    (t : LeaseTable) → Whole (before t) → (o g : ℕ) → OwnedAt o g (take (before t).len (before t).offsets) (before t).slots (before t).generations at
    → Answers outcome (before t) (after t) (right o g (view (before t)))

-- a place that was found lies before n
abbrev pub PlaceWithin : ℕ → Place → Type 0
PlaceWithin n (Found at) = at < n
PlaceWithin n (Missing at) = Unit {0}

-- what a question of the lease at a place of an offset, or of none, says of them
abbrev pub HoldsAt : ℕ → Place → (LeaseTable → LeaseTable) → (Table → Type 0) → Type 0
HoldsAt o place parts fact = (t : LeaseTable) → Whole (parts t) → Placed o (take (parts t).len (parts t).offsets) place → fact (view (parts t))

-- what a call that always takes effect leaves
abbrev pub BecomesIn : (LeaseTable → LeaseTable) → (LeaseTable → LeaseTable) → (Table → Table) → Type 0
BecomesIn before after right = (t : LeaseTable) → Whole (before t) → Becomes (after t) (right (view (before t)))

-- what a question in place says of them
abbrev pub HoldsIn : (LeaseTable → LeaseTable) → (Table → Type 0) → Type 0
HoldsIn parts fact = (t : LeaseTable) → Whole (parts t) → fact (view (parts t))
