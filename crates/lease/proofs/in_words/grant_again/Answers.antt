-- `grant_again` meets its contract. Assumes nothing.
use Prim.Native.Nat.{◌≤◌}
use native.Mathlib.Omega.{arith}
use mathlib.Core.Path.{ap, ◌∙◌}
use Rattle.types.specs.Limits.{MAX, MAX32, sat32}
use Rattle.lease.specs.declared.Lease.{Lease}
use Rattle.lease.proofs.InWords.{again-answers}
use Rattle.lease.proofs.in_words.grant_again.Goals as goal
use Rattle.lease.proofs.in_words.grant_again.Goals.{Start}

fits : (s : Start) → s.args.offset.0 ≤ MAX
fits s = omega arith

small : (s : Start) → s.args.worker ≤ MAX32
small s = omega arith

pub returns : goal.returns
returns c =
    again-answers c.requires.0 c.args.worker c.args.offset.0 c.args.at c.args.now (fits (goal.at.returns c).Start) (small (goal.at.returns c).Start) c.requires.2 c.requires.1
    c.saturating_add-count.result (c.saturating_add-count.ensures ∙ ap (λ (h : Lease). sat32 h.deliveries 1) c.lease_at-lease.ensures)
    c.grant.new.table (c.table-1.given ∙ c.requires.0.long) c.grant.ensures.0 c.grant.result c.grant.ensures.1
