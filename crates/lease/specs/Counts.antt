-- Attempt counts: those carried over a restart, and the lists of them that a snapshot takes (lease.rs).
-- SPEC.md, "Leases".
use Rattle.std.specs.Prelude.{ℕ, max, List, [], ◌∷◌, ltb, length}
use Rattle.std.proofs.Math.Option.{get_or}
use Rattle.types.specs.Limits.{CARRIED}
use Rattle.types.specs.Refusal.{done, TooManyPairs}
use Rattle.types.specs.Table.{◌⇒◌, Answer, answer, guarded}
use Rattle.types.specs.Keyed.{Entry, lookup, put, map_values}
pub use Rattle.tables.specs.Carried.{carry}
use Rattle.lease.specs.State.{Table, with_carried}

-- ## counts carried over
-- the carried counts with each of a list of pairs, in its order
abbrev pub carry_all : List (Entry ℕ) → List (Entry ℕ) → List (Entry ℕ)
carry_all [] c = c
carry_all (p ∷ ps) c = carry_all ps (carry p.key p.value c)

-- 19 where they would be more than 128
unfoldable pub resume_attempts : Table → List (Entry ℕ) → Answer (Unit {0}) Table
resume_attempts t ps =
    guarded (ltb CARRIED (length (carry_all ps t.carried)) ⇒ TooManyPairs ∷ []) t
    (answer (done tt) (with_carried t (carry_all ps t.carried)))

-- ## lists of counts, by offset
-- those of the leases
abbrev pub attempt_counts : Table → List (Entry ℕ)
attempt_counts t = map_values (λ l. l.deliveries) t.leases

-- an offset's count raised to n
abbrev pub raise : ℕ → ℕ → List (Entry ℕ) → List (Entry ℕ)
raise o n c = put o (max (get_or (lookup o c) 0) n) c

-- with each of a list of counts
abbrev pub raise_all : List (Entry ℕ) → List (Entry ℕ) → List (Entry ℕ)
raise_all [] c = c
raise_all (e ∷ l) c = raise_all l (raise e.key e.value c)

-- the carried counts and the leases', the larger where an offset has both
unfoldable pub all_attempt_counts : Table → List (Entry ℕ)
all_attempt_counts t = raise_all (attempt_counts t) t.carried
