-- `ask_progress` meets its contract: what a Progress answers, on every consumer that has the parts that it is lent. Assumes nothing.
use mathlib.Core.Path.{refl, ap}
use borrow.Author.Rules.{rules}
use Rattle.machine.specs.Calls.{progressed}
use Rattle.machine.specs.Transitions.{answered_as}
use Rattle.machine.proofs.Replies.{lent}
use Rattle.machine.proofs.in_place.ask_progress.Goals as goal

pub returns : goal.returns
returns c x out w =
    let h = c.progress_in_place-answer.ensures (lent w) w in
    let g = c.args in
    record {
      is = λ a. ap (answered_as a (progressed g.token.offset.0 g.token.generation.0 g.now)) h.is;
      sound = h.sound;
      kept = h.kept;
      lists = λ a. refl;
    }
