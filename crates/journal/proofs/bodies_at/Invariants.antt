-- `journal::bodies_at` meets its contract. The invariant: the bodies before j are sound, so the first unsound one of
-- all is the first of those that are left. Assumes nothing.
use Rattle.journal.proofs.Walker.{Scanned}
use Rattle.journal.proofs.bodies_at.Given as goal

abbrev pub invariant-loop-j : goal.invariant-loop-j
invariant-loop-j l = Scanned l.area l.number l.at l.bodies l.total l.j
