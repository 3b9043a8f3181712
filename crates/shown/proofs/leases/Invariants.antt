-- `leases` meets its contract. The loop's invariant: the entries from i on are left to put. Assumes nothing.
use Rattle.lease.specs.State.{leases_of}
use Rattle.text.proofs.Putting.{Left}
use Rattle.shown.specs.Shown.{lease_text, marked}
use Rattle.shown.proofs.leases.Given as goal

abbrev pub invariant-loop-i : goal.invariant-loop-i
invariant-loop-i l = Left (marked lease_text) (leases_of l.table) l.initial.out l.i l.out
