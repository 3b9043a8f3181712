-- Two consumers that differ in counts and generations and are alike to a worker: the premise of `same_view` is met by such. Assumes
-- nothing.
use mathlib.Core.Path.{refl}
use lib.Dec.{eqb}
use Rattle.types.proofs.Cases.{split}
use Rattle.cases.specs.Views.{AlikeAt109}

pub alike-at_109 : AlikeAt109
alike-at_109 = record { rights = refl; settled = λ o. refl; held = λ o. split (eqb o 5) (λ t. rw t) (λ t. rw t) }
