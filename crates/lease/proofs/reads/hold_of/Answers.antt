-- `hold_of` meets its contract. Assumes nothing.
use mathlib.Core.Path.{ap, ◌∙◌}
use mathlib.Core.Option.{some}
use Rattle.lease.specs.declared.Lease.{Lease}
use Rattle.lease.proofs.InWords.{none_held, held-is}
use Rattle.lease.proofs.reads.hold_of.Goals as goal

pub returns-in_err-at : goal.returns-in_err-at
returns-in_err-at c = rw c.from_residual.ensures (record { is = none_held c.requires c.args.token.offset.0 c.args.token.generation.0 c.in_err-at.ensures; at = tt })

pub returns : goal.returns
returns c =
    record {
      is = ap (λ (h : Lease). some (h.deliveries, h.worker)) c.lease_at-lease.ensures ∙ held-is c.requires c.args.token.offset.0 c.args.token.generation.0 c.in_ok-at.ensures;
      at = c.in_ok-at.ensures;
    }
