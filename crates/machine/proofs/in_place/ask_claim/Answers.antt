-- `ask_claim` meets its contract: what a claim answers, on every consumer that has the parts that it is lent. Assumes nothing.
use mathlib.Core.Path.{refl, ap}
use borrow.Author.Rules.{rules}
use Rattle.machine.specs.Calls.{claimed}
use Rattle.machine.specs.Transitions.{answered_as}
use Rattle.machine.proofs.Replies.{lent}
use Rattle.machine.proofs.in_place.ask_claim.Goals as goal

pub returns : goal.returns
returns c x out w =
    let h = c.claim_in_place-done.ensures (lent w) w in
    let g = c.args in
    record {
      is = λ a. ap (answered_as a (claimed g.offset.0 g.now)) h.is;
      sound = h.sound;
      kept = h.kept;
      lists = λ a. refl;
    }
