-- `state` meets its contract. Assumes nothing.
use Rattle.text.proofs.Putting.{says_then}
use Rattle.shown.proofs.state.Goals as goal

pub returns : goal.returns
returns c =
    says_then c.with.ensures
    (says_then c.ranges-2.ensures
    (says_then c.leases.ensures (says_then c.carried.ensures c.numbers.ensures)))
