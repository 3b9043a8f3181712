-- The order of the waiting list: the carried offsets, by offset; then the leases by deadline, those of one deadline by offset.
-- SPEC.md, "Waiting list".
use Rattle.std.specs.Prelude.{ℕ, ◌≡◌, Bool, true, false, cond, ◌&&◌, ◌||◌, List, [], ◌∷◌, ltb, eqb}
use Rattle.std.proofs.Math.Option.{Option, none, some, map}
use Rattle.types.specs.Keyed.{Entry, entry}
use Rattle.lease.specs.declared.Lease.{Lease}
use Rattle.lease.specs.Operations.{lease_of, running}
use Rattle.consumer.specs.State.{State}

-- the deadlines of expired leases, by offset
abbrev pub expired_deadlines : ℕ → List (Entry Lease) → List (Entry ℕ)
expired_deadlines now [] = []
expired_deadlines now (e ∷ l) =
    cond (running (some e.value) now) (expired_deadlines now l) (entry e.key e.value.deadline ∷ expired_deadlines now l)

-- an earlier deadline, or of equal ones the lower offset
abbrev pub waits_longer : Entry ℕ → Entry ℕ → Bool
waits_longer x y = ltb x.value y.value || (eqb x.value y.value && ltb x.key y.key)

-- x before the first that it waits longer than
abbrev pub takes_place : Entry ℕ → List (Entry ℕ) → List (Entry ℕ)
takes_place x [] = x ∷ []
takes_place x (y ∷ l) = cond (waits_longer x y) (x ∷ y ∷ l) (y ∷ takes_place x l)

-- all of them in order
abbrev pub longest_first : List (Entry ℕ) → List (Entry ℕ)
longest_first [] = []
longest_first (x ∷ l) = takes_place x (longest_first l)

-- ## the order, of any list of offsets
-- the deadline of an offset's lease; a carried offset has none
abbrev pub deadline_of : State → ℕ → Option ℕ
deadline_of s o = map (λ (l : Lease). l.deadline) (lease_of s.table o)

-- x comes before y, by what deadlines they have
abbrev pub comes_first : ℕ → ℕ → Option ℕ → Option ℕ → Bool
comes_first x y none none = ltb x y
comes_first x y none (some e) = true
comes_first x y (some d) none = false
comes_first x y (some d) (some e) = waits_longer (entry x d) (entry y e)

-- each comes before all that stand behind it
abbrev pub BeforeAll : State → ℕ → List ℕ → Type 0
BeforeAll s x [] = Unit {0}
BeforeAll s x (y ∷ l) = (comes_first x y (deadline_of s x) (deadline_of s y) ≡ true) × BeforeAll s x l

abbrev pub InOrder : State → List ℕ → Type 0
InOrder s [] = Unit {0}
InOrder s (x ∷ l) = BeforeAll s x l × InOrder s l
