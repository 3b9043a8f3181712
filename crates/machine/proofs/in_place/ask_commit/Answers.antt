-- `ask_commit` meets its contract: what a Commit answers, on every consumer that has the parts that it is lent. Assumes nothing.
use mathlib.Core.Path.{refl, ap}
use borrow.Author.Rules.{rules}
use Rattle.machine.specs.Calls.{committed}
use Rattle.machine.specs.Transitions.{answered_as}
use Rattle.machine.proofs.Replies.{lent}
use Rattle.machine.proofs.in_place.ask_commit.Goals as goal

pub returns : goal.returns
returns c x out w =
    let h = c.commit_in_place-done.ensures (lent w) w in
    let g = c.args in
    record {
      is = λ a. ap (answered_as a (committed g.bound.0)) h.is;
      sound = h.sound;
      kept = h.kept;
      lists = λ a. refl;
    }
