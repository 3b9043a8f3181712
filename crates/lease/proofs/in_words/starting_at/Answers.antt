-- `starting_at` meets its contract. Assumes nothing.
use Prim.Native.Nat.{ℕ, ◌≤◌}
use native.Mathlib.Omega.{arith}
use mathlib.Core.Path.{ap, ◌∙◌}
use lib.ListN.{replicate}
use Rattle.types.specs.Limits.{MAX}
use Rattle.lease.proofs.InWords.{started}
use Rattle.lease.proofs.in_words.starting_at.Goals as goal
use Rattle.lease.proofs.in_words.starting_at.Goals.{Start}

fits : (s : Start) → s.args.generation.0 ≤ MAX
fits s = omega arith

pub returns : goal.returns
returns c =
    started c.fill.new.self (c.fill.ensures.after (λ y e. e) ∙ ap (λ (n : ℕ). replicate n 0) c.requires) c.free_slots.new.slots c.table-2-1.given.0 c.free_slots.ensures
    c.args.config c.args.generation.0 (fits (goal.at.returns c).Start)
