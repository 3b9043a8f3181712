-- `check_range` meets its contract: each return is the row of its test. Assumes nothing.
use native.Mathlib.Omega.{arith}
use borrow.Author.Tests.{le-leb, lt-leb}
use Rattle.cursor.proofs.check_range.Goals as goal

pub returns-then-end-start-clause-fault : goal.returns-then-end-start-clause-fault
returns-then-end-start-clause-fault c = let a = c.args in rw (le-leb a.end a.start (omega arith))

pub returns-then-start-prev_end-clause-fault : goal.returns-then-start-prev_end-clause-fault
returns-then-start-prev_end-clause-fault c =
    let a = c.args in
    rw (lt-leb a.end a.start (omega arith), le-leb a.start a.prev_end (omega arith))

pub returns-clause-fault : goal.returns-clause-fault
returns-clause-fault c =
    let a = c.args in
    rw (lt-leb a.end a.start (omega arith), lt-leb a.start a.prev_end (omega arith))
