-- `write_body` meets its contract. Assumes nothing.
use native.Mathlib.Omega.{arith}
use mathlib.Core.Path.{◌≡◌, ◌∙◌}
use lib.ListN.{length, length-set}
use Rattle.cursor.specs.View.{ack_cursor, view}
use Rattle.cursor.proofs.View.{count}
use Rattle.cursor.proofs.Writing.{body-put}
use Rattle.cursor.proofs.codec.write_body.Goals as goal
use Rattle.cursor.proofs.codec.write_body.Goals.{After-write_u64}

-- the output keeps its length
kept : (w : After-write_u64) → let a = w.args in length w.write_u64.new.buf ≡ length a.out.now
kept w = w.write_u64.auto.buf ∙ simp length-set

pub write_ranges-requires : goal.write_ranges-requires
write_ranges-requires c =
    (c.requires.0, c.requires.1, omega (arith, kept (goal.at.write_ranges-requires c).After-write_u64, c.requires.2))

pub shape_of-out : goal.shape_of-out
shape_of-out c =
    c.write_ranges.auto.out ∙ kept (goal.at.shape_of-out c).After-write_u64

pub returns : goal.returns
returns c =
    let a = c.args in
    body-put (view (ack_cursor a.committed a.starts.now a.ends.now a.n)) a.n a.at a.out.now c.write_u64.new.buf c.write_ranges.new.out
    (count a.n a.starts.now a.ends.now c.requires.0 c.requires.1) c.requires.2 c.write_u64.ensures c.write_ranges.ensures
