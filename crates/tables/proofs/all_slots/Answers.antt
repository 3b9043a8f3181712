-- `all_slots` meets its contract: its array is the numbers up to 64.
-- Assumes nothing.
use Prim.Native.Nat.{ℕ, ◌<◌}
use borrow.Author.Rules.{rules}
use mathlib.Core.Path.{◌≡◌}
use lib.ListN.{get_or}
use Rattle.std.proofs.lemmas.List.FromFn.{fill_by_all}
use Rattle.tables.specs.Slots.{upTo}
use Rattle.tables.proofs.Slots.{permutes_up_to}
use Rattle.tables.proofs.all_slots.Goals as goal

pub returns : goal.returns
returns c =
    let each : (i : ℕ) → i < 64 → get_or c.from_fn.result i 0 ≡ i = λ i h. let one = c.from_fn.ensures.items.at i 0 h in search rules in
    let all : c.from_fn.result ≡ upTo 64 = fill_by_all (λ k. k) c.from_fn.result 64 0 c.from_fn.ensures.items.long each in
    rw all (permutes_up_to 64)
