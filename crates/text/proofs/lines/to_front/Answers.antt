-- `to_front` meets its contract, whichever way the bytes go. Assumes nothing.
use Rattle.text.proofs.Taking.{before-others, copied-there}
use Rattle.text.proofs.lines.to_front.Goals as goal

pub returns-then-count-from : goal.returns-then-count-from
returns-then-count-from c =
    let a = c.args in
    rw (c.copy_from_slice.ensures.after, c.split_at_mut-front.ensures.back) (before-others a.buf.now a.from a.to c.requires.0 c.requires.1 _ _)

pub returns-then-from-gt0 : goal.returns-then-from-gt0
returns-then-from-gt0 c =
    let a = c.args in
    rw c.copy_within.ensures.after (copied-there a.buf.now a.from a.to c.requires.0 c.requires.1)
