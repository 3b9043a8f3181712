-- `of_list` meets its contract. Assumes nothing.
use mathlib.Core.Path.{sym}
use borrow.Author.Rules.{rules}
use Rattle.answers.proofs.Places.{first-length, same_numbers}
use Rattle.answers.proofs.of_list.Goals as goal

pub returns : goal.returns
returns c =
    same_numbers (sym (first-length c.args.n c.args.out.now)) c.place.ensures
    c.place-2.ensures c.place-3.ensures c.place-4.ensures c.place-5.ensures
