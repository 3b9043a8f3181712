-- How one offset stands at a clock, as a worker and as a supervisor sees it.
-- SPEC.md, "View".
use Rattle.std.specs.Prelude.{ℕ, ◌≡◌, Bool, cond, not, ◌&&◌, List, ◌∷◌, ◌++◌, leb}
use Rattle.std.proofs.Math.Option.{Option, none, some}
use Rattle.types.specs.Limits.{WORKERS}
use Rattle.types.specs.Refusal.{optional}
use Rattle.types.specs.Keyed.{lookup}
use Rattle.cursor.specs.Cursor.{settled}
use Rattle.lease.specs.declared.Lease.{Lease}
use Rattle.lease.specs.Operations.{lease_of, running}
use Rattle.consumer.specs.State.{State, count_or0}
use Rattle.consumer.specs.Rights.{SUPERVISOR, permits}

-- held by a lease whose deadline hasn't come; waiting is all else that is unsettled
pub data Standing : Type 0 where
  Settled : Standing
  Held : Standing
  Waiting : Standing

-- what is shown of an offset; what a reader isn't shown, or what isn't there, is absent
pub record View : Type 0 where
  pub standing : Standing
  pub attempts : Option ℕ
  pub generation : Option ℕ
  pub deadline : Option ℕ
  pub holder : Option ℕ

-- the standing and no more
abbrev pub bare : Standing → View
bare x = record { standing = x; attempts = none; generation = none; deadline = none; holder = none }

-- the standing of an unsettled offset, by its lease
abbrev pub unsettled_as : Option Lease → ℕ → Standing
unsettled_as l now = cond (running l now) Held Waiting

-- all that there is of an unsettled offset, by its lease, run out or not, and its carried count
abbrev pub in_full : Option Lease → Option ℕ → ℕ → View
in_full (some l) carried now =
    record {
      standing = unsettled_as (some l) now;
      attempts = some l.deliveries;
      generation = some l.generation.0;
      deadline = some l.deadline;
      holder = some l.worker;
    }
in_full none carried now =
    record {
      standing = unsettled_as none now;
      attempts = some (count_or0 carried);
      generation = none;
      deadline = none;
      holder = none;
    }

-- a worker is marked as a supervisor
abbrev pub supervises : List ℕ → ℕ → Bool
supervises rights w = not (leb WORKERS w) && permits rights w SUPERVISOR

-- what worker w is shown of offset o at a clock
abbrev pub view_of : State → ℕ → ℕ → ℕ → View
view_of s w o now =
    cond (settled s.cursor o) (bare Settled)
    (cond (supervises s.settings.rights w) (in_full (lease_of s.table o) (lookup o s.table.carried) now)
    (bare (unsettled_as (lease_of s.table o) now)))

-- ## in numbers
abbrev pub standing_number : Standing → ℕ
standing_number Settled = 0
standing_number Held = 1
standing_number Waiting = 2

-- the standing, and then what is not absent: nothing, the attempts, or the attempts, generation, deadline and holder of a lease
abbrev pub view_values : View → List ℕ
view_values v =
    standing_number v.standing
    ∷ (optional v.attempts ++ optional v.generation ++ optional v.deadline ++ optional v.holder)

-- ## what a worker may know
-- two consumers have equal rights, equal settled offsets, and the same offsets held at a clock
pub record Alike (now : ℕ) (s t : State) : Type 0 where
  pub rights : s.settings.rights ≡ t.settings.rights
  pub settled : (o : ℕ) → settled s.cursor o ≡ settled t.cursor o
  pub held : (o : ℕ) → running (lease_of s.table o) now ≡ running (lease_of t.table o) now
