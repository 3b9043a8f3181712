-- `look` meets its contract: who may not look is refused, and else the question is answered. Assumes nothing.
use borrow.Author.Rules.{rules}
use Rattle.std.proofs.lemmas.Result.{err_from_is_err_and}
use Rattle.machine.proofs.Replies.{lent, look_refused, look-answered}
use Rattle.machine.proofs.in_place.look.Goals as goal

pub returns : goal.returns
returns c x w =
    look-answered (lent w) c.args.worker _ c.args.out.now _ c.permission_of.ensures _ c.in_ok-permission_of.was c.reply.result _ (c.reply.ensures (lent w) w)

pub returns-in_err-permission_of : goal.returns-in_err-permission_of
returns-in_err-permission_of c x w =
    let p = err_from_is_err_and c.from_residual.result c.from_residual.ensures.1 in
    rw (p.1, p.2)
    (look_refused (lent w) c.args.worker _ c.args.out.now _ c.permission_of.ensures _ c.in_err-permission_of.was)
