-- What the private helpers answer. No public contract cites this file.
-- SPEC.md, "Leases".
use Rattle.std.specs.Prelude.{ℕ, ◌+◌, ◌≡◌, Some, None, Ok, List, take, get_or}
use Rattle.std.specs.Prelude as std
use Rattle.std.proofs.Math.Option.{Option, none, some}
use Rattle.types.specs.Limits.{sat64}
use Rattle.types.specs.Keyed.{Entry}
use Rattle.types.specs.Refusal.{Result, refused, done, TooManyPairs}
use Rattle.types.specs.Table.{Answer, answer}
use Rattle.redeliveries.specs.Counter.{after_grant}
use Rattle.tables.specs.Search.{Placed}
use Rattle.tables.specs.Carried.{carried_in, Tidy}
use Rattle.tables.specs.declared.Place.{Place}
use Rattle.tables.specs.declared.Place.TheVariants.{Found, Missing}
use Rattle.tables.specs.declared.counts.Carried.{Carried}
use Rattle.lease.specs.State.{Table, view, carried_of, with_carried}
use Rattle.lease.specs.Answers.{Answers}
use Rattle.lease.specs.Parts.{gathered, Whole, slot_in, OwnedAt}
use Rattle.lease.specs.declared.LeaseConfig.{LeaseConfig}
use Rattle.lease.specs.declared.LeaseTable.{LeaseTable}
use Rattle.lease.specs.declared.in_place.ClaimedAt.{ClaimedAt}

-- ## a claim
-- what it answers where offset o is granted under generation g for the d-th time, beside the numbers of the table
abbrev pub granted_at : ℕ → ℕ → ℕ → ℕ → ℕ → ℕ → ClaimedAt
granted_at o g d n m r =
    record {
      outcome = Ok (record { token = record { offset = record { 0 = o }; generation = record { 0 = g } }; deliveries = d });
      len = n;
      carried_len = m;
      next_generation = g + 1;
      redeliveries = after_grant r d;
    }

-- a table with other values in the parts that a claim of an offset with a lease looks at
abbrev pub regranting : LeaseConfig → ℕ → ℕ → ℕ → ℕ → List ℕ → List ℕ → List ℕ → List ℕ → List ℕ → List ℕ → LeaseTable → LeaseTable
regranting c n m g r slots gs ss ds ns ws t = gathered c n m g r t.offsets slots gs ss ds ns ws t.carried_offsets t.carried_counts

-- what a call answers on every table that has these parts and the lease of offset o at a place
abbrev pub AnswersAt : {A : Type 0} → ℕ → ℕ → Result A → (LeaseTable → LeaseTable) → (LeaseTable → LeaseTable) → (Table → Answer A Table) → Type 0
AnswersAt o at outcome before after right =
    (t : LeaseTable) → Whole (before t) → Placed o (take (before t).len (before t).offsets) (Found at) → Answers outcome (before t) (after t) (right (view (before t)))

-- ## a token of generation g, among the generations of leases
-- it does not own what stands at a place
abbrev pub Differs : ℕ → List ℕ → List ℕ → Place → Type 0
Differs g slots gs (Found at) = get_or gs (slot_in slots at) 0 ≡ g → ⊥
Differs g slots gs (Missing at) = Unit {0}

-- it owns the lease of offset o at a place, or it owns none
pub record Unowned (o g : ℕ) (ks slots gs : List ℕ) : Type 0 where
  pub place : Place
  pub placed : Placed o ks place
  pub differs : Differs g slots gs place

abbrev pub Owned : ℕ → ℕ → List ℕ → List ℕ → List ℕ → std.Option ℕ → Type 0
Owned o g ks slots gs (Some at) = OwnedAt o g ks slots gs at
Owned o g ks slots gs None = Unowned o g ks slots gs

-- ## times
abbrev pub later_by : ℕ → ℕ → ℕ
later_by delta time = sat64 time delta

-- ## pairs carried one by one
pub record CarriesFrom (t : LeaseTable) (c : Carried) : Type 0 where
  pub is : carried_in c ≡ some (carried_of t)
  pub tidy : Tidy c

-- the table with the counts, or 19
abbrev pub resumed_with : Table → Option (List (Entry ℕ)) → Answer (Unit {0}) Table
resumed_with t none = answer (refused TooManyPairs) t
resumed_with t (some l) = answer (done tt) (with_carried t l)
