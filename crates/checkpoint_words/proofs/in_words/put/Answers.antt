-- `put` meets its contract. Assumes nothing.
use native.Mathlib.Omega.{arith}
use lib.ListN.{length-set}
use Rattle.checkpoint_words.proofs.in_words.put.Goals as goal

pub bounds-words-970 : goal.bounds-words-970
bounds-words-970 c = simp length-set (omega (arith, c.requires))

pub returns : goal.returns
returns c = rw c.from.ensures
