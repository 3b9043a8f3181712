-- What the functions on a table's words promise: the records of Answers.antt, of words, and what a place or a token says of them.
-- SPEC.md, "Leases".
use Rattle.std.specs.Prelude.{ℕ, min, ◌≡◌, Option, Some, None, Bool, false, ◌&&◌, List, [], ◌∷◌, ◌++◌, map, leb, ltb, length, take, drop}
use Rattle.types.specs.Limits.{LEASES}
use Rattle.types.specs.Keyed.{Entry}
use Rattle.types.specs.Refusal.{Result, done, OutTooShort}
use Rattle.types.specs.Table.{◌⇒◌, Answer, answer, guarded, Kept}
use Rattle.tables.specs.Search.{Placed}
use Rattle.tables.specs.declared.Place.{Place}
use Rattle.lease.specs.State.{Table}
use Rattle.lease.specs.Operations.{lease_of, is_none, running}
pub use Rattle.lease.specs.Answers.{grant_in}
use Rattle.lease.specs.Rest.{hold}
use Rattle.lease.specs.Lookup.{hold_in}
use Rattle.lease.specs.Helpers.{Owned}
use Rattle.lease.specs.Layout.{table_in, view, Sound}
use Rattle.lease.specs.declared.in_place.Held.{Held}

-- ## calls
-- one that refuses or takes effect: answer and table are the definition's, and a refusal leaves the very words
pub record Answers {A : Type 0} (outcome : Result A) (before after : List ℕ) (right : Answer A Table) : Type 0 where
  pub is : answer outcome (view after) ≡ right
  pub sound : Sound after
  pub kept : Kept outcome before after

-- one that changes the table or finds nothing to change, and then leaves the very words
pub record Tries (changed : Bool) (before after : List ℕ) (right : Answer Bool Table) : Type 0 where
  pub is : answer (done changed) (view after) ≡ right
  pub sound : Sound after
  pub kept : changed ≡ false → after ≡ before

-- one that always takes effect
pub record Becomes (after : List ℕ) (right : Table) : Type 0 where
  pub is : view after ≡ right
  pub sound : Sound after

-- ## a place that was looked up
-- an offset stands there among those with a lease, or belongs there
abbrev pub PlacedIn : ℕ → List ℕ → Place → Type 0
PlacedIn o w place = let t = table_in w in Placed o (take t.len t.offsets) place

-- whether the lease of an offset of that place still runs (23), and whether there is no room for its first lease (27)
abbrev pub RunsAt : List ℕ → Place → ℕ → Bool → Type 0
RunsAt w place now r = (o : ℕ) → PlacedIn o w place → r ≡ running (lease_of (view w) o) now

abbrev pub FullAt : List ℕ → Place → Bool → Type 0
FullAt w place r = (o : ℕ) → PlacedIn o w place → r ≡ (is_none (lease_of (view w) o) && leb LEASES (length (view w).leases))

-- ## a token of offset o and generation g
-- it owns the lease at a place, or it owns none
abbrev pub OwnedIn : ℕ → ℕ → List ℕ → Option ℕ → Type 0
OwnedIn o g w held = let t = table_in w in Owned o g (take t.len t.offsets) t.slots t.generations held

abbrev pub HeldIn : ℕ → ℕ → List ℕ → Option Held → Type 0
HeldIn o g w (Some h) = OwnedIn o g w (Some h.at)
HeldIn o g w None = Unit {0}

-- how often its lease was handed out, and the worker who claimed it; and where the lease stands
pub record Holds (o g : ℕ) (w : List ℕ) (r : Option Held) : Type 0 where
  pub is : hold_in r ≡ hold (view w) o g
  pub at : HeldIn o g w r

-- what a call answers each token that owns the lease at a place
abbrev pub AnswersOwned : {A : Type 0} → ℕ → Result A → List ℕ → List ℕ → (Table → ℕ → ℕ → Answer A Table) → Type 0
AnswersOwned at outcome w after right = (o g : ℕ) → OwnedIn o g w (Some at) → Answers outcome w after (right (view w) o g)

-- ## counts into two lent columns
-- their offsets and their numbers, each from the first place on, later places as they were; 20 where a column is too short
abbrev pub listed_into : List (Entry ℕ) → List ℕ → List ℕ → Answer ℕ (List ℕ × List ℕ)
listed_into l offsets attempts =
    guarded (ltb (min (length offsets) (length attempts)) (length l) ⇒ OutTooShort ∷ []) (offsets, attempts)
    (answer (done (length l)) (map (λ e. e.key) l ++ drop (length l) offsets, map (λ e. e.value) l ++ drop (length l) attempts))
