-- What the programs print of a consumer's state: pieces of text, one behind the other.
-- SPEC.md, "Programs".
use Rattle.std.specs.Prelude.{ℕ, zero, suc, List, [], ◌∷◌, ◌++◌, length}
use Rattle.types.specs.Keyed.{Entry}
use Rattle.text.specs.Output.{ascii, decimal, each}
use Rattle.text.specs.Templates.{filled}
use Rattle.cursor.specs.View as cursor
use Rattle.cursor.specs.declared.AckCursor.{AckCursor}
use Rattle.cursor.specs.declared.Range.{Range}
use Rattle.lease.specs.declared.Lease.{Lease}
use Rattle.consumer.specs.State.{State, half_in_use}

-- a number behind a text
abbrev pub text_number : List ℕ → ℕ → List (List ℕ)
text_number text n = text ∷ decimal n ∷ []

-- ## lists
-- what stands in front of entry i
abbrev pub mark : ℕ → List ℕ
mark zero = ascii " "
mark (suc i) = ascii ","

-- what stands for a list of n entries that has none
abbrev pub none_where : ℕ → List (List ℕ)
none_where zero = ascii " none" ∷ []
none_where (suc n) = []

-- each entry behind its mark
abbrev pub marked : {A : Type 0} → (A → List (List ℕ)) → ℕ → A → List (List ℕ)
marked entry i x = mark i ∷ entry x

abbrev pub list_text : {A : Type 0} → List ℕ → (A → List (List ℕ)) → List A → List (List ℕ)
list_text name entry l = name ∷ (none_where (length l) ++ each (marked entry) 0 l)

abbrev pub range_text : Range → List (List ℕ)
range_text r = decimal r.start ∷ ascii "-" ∷ decimal r.end ∷ []

-- offset, generation, attempt start, deadline, deliveries
abbrev pub lease_text : Entry Lease → List (List ℕ)
lease_text e =
    filled (ascii "#:#:#:#") (e.key ∷ e.value.generation.0 ∷ e.value.attempt_start ∷ e.value.deadline ∷ [])
    ++ text_number (ascii ":") e.value.deliveries

-- offset, count
abbrev pub count_text : Entry ℕ → List (List ℕ)
count_text e = decimal e.key ∷ ascii ":" ∷ decimal e.value ∷ []

abbrev pub ranges_text : List Range → List (List ℕ)
ranges_text l = list_text (ascii " ranges") range_text l

abbrev pub leases_text : List (Entry Lease) → List (List ℕ)
leases_text l = list_text (ascii " leases") lease_text l

abbrev pub carried_text : List (Entry ℕ) → List (List ℕ)
carried_text l = list_text (ascii " carried") count_text l

-- ## the state
abbrev pub ahead_of : AckCursor → List Range
ahead_of c = (cursor.view c).ahead

-- generations, the redelivery counter, where the next group goes, and the half in use
abbrev pub numbers_text : State → List (List ℕ)
numbers_text s =
    filled (ascii " next # ceiling # counter # group #") (s.table.next_generation ∷ s.ceiling ∷ s.table.redeliveries ∷ s.next.number ∷ [])
    ++ filled (ascii " block # half #\n") (s.next.block ∷ half_in_use s.size s.next.block ∷ [])

abbrev pub state_line : State → List (List ℕ)
state_line s =
    ascii "state committed " ∷ decimal s.cursor.committed
    ∷ (ranges_text s.cursor.ahead ++ (leases_text s.table.leases ++ (carried_text s.table.carried ++ numbers_text s)))
