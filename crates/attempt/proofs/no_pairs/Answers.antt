-- `no_pairs` meets its contract. Assumes nothing.
use mathlib.Core.Path.{refl}
use Rattle.attempt.specs.Codec.{blank}
use Rattle.attempt.proofs.no_pairs.Goals as goal

pub returns : goal.returns
unfolding blank
returns c = refl
