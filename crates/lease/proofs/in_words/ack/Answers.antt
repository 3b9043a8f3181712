-- `ack` meets its contract. Assumes nothing.
use Rattle.std.proofs.Common.{◌≡◌, subst, arith}
use Rattle.std.proofs.lemmas.Result.{err_from_is_err_and}
use Rattle.types.specs.declared.refusals.Refusal.TheVariants as refusal
use Rattle.lease.specs.InWords.{OwnedIn}
use Rattle.lease.proofs.InWords.{ack-refused}
use Rattle.lease.proofs.in_words.ack.Goals as goal

pub returns-in_err-at : goal.returns-in_err-at
returns-in_err-at c =
    let p = err_from_is_err_and c.from_residual.result c.from_residual.ensures.1 in
    let fenced : c.in_err-at.field-0.0 ≡ refusal.Fenced = grind arith in
    rw (p.1, p.2, fenced) (ack-refused c.requires c.args.token.offset.0 c.args.token.generation.0 (subst (OwnedIn c.args.token.offset.0 c.args.token.generation.0 c.args.table.now) c.in_err-at.ensures.ok_part c.owned.ensures))

pub returns : goal.returns
returns c = c.ack_at.ensures c.args.token.offset.0 c.args.token.generation.0 (subst (OwnedIn c.args.token.offset.0 c.args.token.generation.0 c.args.table.now) c.in_ok-at.ensures.ok_part c.owned.ensures)
