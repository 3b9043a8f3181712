-- `Consumer::answer_all` meets its contract. The loop's invariant: what is left to do, with what is done, is the whole. Assumes nothing.
use Rattle.types.specs.Lists.{numbers_of}
use Rattle.cursor.proofs.Plan.{Answering}
use Rattle.consumer.specs.View.{view}
use Rattle.consumer.proofs.Consumer.answer_all.Given as goal

abbrev pub invariant-loop-i : goal.invariant-loop-i
invariant-loop-i l =
    let c = (view l.self).cursor in Answering c.committed c.ahead (numbers_of l.offsets) l.out l.at l.looks l.i
