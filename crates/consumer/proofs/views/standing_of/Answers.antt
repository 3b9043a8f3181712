-- `standing_of` meets its contract: held before the deadline, and not at it. Assumes nothing.
use borrow.Author.Rules.{rules}
use Rattle.consumer.proofs.Standing.{before-deadline, from-deadline}
use Rattle.consumer.proofs.views.standing_of.Goals as goal

pub returns-then-now-lease : goal.returns-then-now-lease
returns-then-now-lease c =
    before-deadline c.args.lease _ c.args.now c.in-Some.is c.if-now-lease.true

pub returns : goal.returns
returns c =
    from-deadline c.args.lease _ c.args.now c.in-Some.is c.if-now-lease.false
