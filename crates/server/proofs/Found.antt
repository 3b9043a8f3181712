-- The calls by their numbers: a number that no entry has is no call, and one that isn't the machine's own is one on the state.
-- Assumes nothing.
use Prim.Native.Nat.{ℕ}
use mathlib.Core.Path.{◌≡◌, refl, sym}
use mathlib.Core.List.{List, [], ◌∷◌}
use mathlib.Core.Option.{none, map}
use borrow.Author.Tests.{ne_eqb}
use Rattle.types.specs.Keyed.{Entry, lookup, All}
use Rattle.types.proofs.Keyed.{lookup-map_values}
use Rattle.machine.specs.Calls.{ask}
use Rattle.server.specs.Kinds.{asks, ask_at, call_at}

pub none_found : {A : Type 0} (k : ℕ) (l : List (Entry A)) → All (λ key v. k ≡ key → ⊥) l → none ≡ lookup k l
none_found k [] h = refl
none_found k (e ∷ l) h = rw (ne_eqb k e.key h.0) (none_found k l h.1)

module _ (w a b c d room kind : ℕ) (not-begin : kind ≡ 16 → ⊥) (not_step : kind ≡ 17 → ⊥) (not-restart : kind ≡ 18 → ⊥) where
  pub on-state : map (ask w) (ask_at kind a b c d room) ≡ call_at w kind a b c d room
  on-state =
      rw (ne_eqb kind 16 not-begin, ne_eqb kind 17 not_step, ne_eqb kind 18 not-restart)
      (sym (lookup-map_values (ask w) kind (asks a b c d room)))
