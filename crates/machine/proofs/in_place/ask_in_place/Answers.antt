-- `ask_in_place` meets its contract: each kind of call goes to its own function. Assumes nothing.
use lib.ListN.{length}
use borrow.Author.Rules.{rules}
use Rattle.machine.proofs.Replies.{lent, acked-asked, termed-asked, looked-asked, asked_as}
use Rattle.machine.proofs.in_place.ask_in_place.Goals as goal

pub returns-in-Claim : goal.returns-in-Claim
returns-in-Claim c x w =
    asked_as (length c.args.out.now) c.in-Claim.is (c.ask_claim.ensures (lent w) c.args.out.now w)

pub returns-in-Ack : goal.returns-in-Ack
returns-in-Ack c x w =
    asked_as (length c.args.out.now) c.in-Ack.is (acked-asked (c.settle-settled.ensures (lent w) w))

pub returns-in-Term : goal.returns-in-Term
returns-in-Term c x w =
    asked_as (length c.args.out.now) c.in-Term.is (termed-asked (c.settle-settled-in-Term.ensures (lent w) w))

pub returns-in-Nack : goal.returns-in-Nack
returns-in-Nack c x w =
    asked_as (length c.args.out.now) c.in-Nack.is (c.ask_nack.ensures (lent w) c.args.out.now w)

pub returns-in-Progress : goal.returns-in-Progress
returns-in-Progress c x w =
    asked_as (length c.args.out.now) c.in-Progress.is (c.ask_progress.ensures (lent w) c.args.out.now w)

pub returns-in-Commit : goal.returns-in-Commit
returns-in-Commit c x w =
    asked_as (length c.args.out.now) c.in-Commit.is (c.ask_commit.ensures (lent w) c.args.out.now w)

pub returns-in-Look : goal.returns-in-Look
returns-in-Look c x w =
    asked_as (length c.args.out.now) c.in-Look.is (looked-asked w.sound (c.look.ensures (lent w) w))
