-- `commit_below` meets its contract: the cursor moves nothing, or the cursor and then the table are changed. Assumes nothing.
use native.Mathlib.Omega.{arith}
use Rattle.consumer_words.proofs.State.{lent-cursor, table-sound, unchanged_so, committed_so}
use Rattle.consumer_words.proofs.in_words.commit_below.Goals as goal

pub commit_up_to-moved-requires : goal.commit_up_to-moved-requires
commit_up_to-moved-requires c = lent-cursor c.requires

pub release_below-requires : goal.release_below-requires
release_below-requires c =
    table-sound c.requires c.commit_up_to-moved.new.cursor c.commit_up_to-moved.auto.cursor

pub returns-then-moved : goal.returns-then-moved
returns-then-moved c worker may =
    let k = c.commit_up_to-moved in
    rw c.if-moved.true
    (committed_so c.requires worker c.args.bound.0 may k.result k.new.cursor k.auto.cursor k.ensures c.if-moved.true (omega arith)
    c.release_below.new.table c.release_below.auto.table c.release_below.ensures)

pub returns-else-moved : goal.returns-else-moved
returns-else-moved c worker may =
    let k = c.commit_up_to-moved in
    rw c.if-moved.false (unchanged_so c.requires worker c.args.bound.0 may k.result k.new.cursor k.auto.cursor k.ensures c.if-moved.false)
