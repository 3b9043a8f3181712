-- `ask_nack` meets its contract: what a Nack answers, on every consumer that has the parts that it is lent. Assumes nothing.
use mathlib.Core.Path.{refl, ap}
use borrow.Author.Rules.{rules}
use Rattle.delivery.specs.Config.{delay_of}
use Rattle.machine.specs.Calls.{nacked}
use Rattle.machine.specs.Transitions.{answered_as}
use Rattle.machine.proofs.Replies.{lent}
use Rattle.machine.proofs.in_place.ask_nack.Goals as goal

pub returns : goal.returns
returns c x out w =
    let h = c.nack_in_place-done.ensures (lent w) w in
    let g = c.args in
    record {
      is = λ a. ap (answered_as a (nacked g.token.offset.0 g.token.generation.0 g.now (delay_of g.delay))) h.is;
      sound = h.sound;
      kept = h.kept;
      lists = λ a. refl;
    }
