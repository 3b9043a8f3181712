-- `read_offsets` meets its contract. The loop's invariant: the first i places are filled, the others as they were.
-- Assumes nothing.
use Rattle.types.proofs.Loops.{Filling}
use Rattle.attempt.specs.Snapshot.{pairs_of}
use Rattle.attempt.specs.Codec.{offsets_of}
use Rattle.attempt.proofs.read_offsets.Given as goal

abbrev pub invariant-loop-i : goal.invariant-loop-i
invariant-loop-i l = Filling (offsets_of (pairs_of l.n l.input)) l.initial.offsets l.offsets l.n l.i
