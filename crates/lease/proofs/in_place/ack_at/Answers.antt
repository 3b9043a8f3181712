-- `ack_at` meets its contract: that of `LeaseTable::ack`, on every table that has the parts that it is lent, and with every token that
-- owns the lease at the place.
-- Assumes nothing.
use Prim.Native.Nat.{◌+◌, ◌-◌}
use Prim.Native.Nat.{ℕ}
use mathlib.Core.Path.{ap}
use mathlib.Core.List.{List}
use lib.ListN.{get_or, set}
use Rattle.tables.proofs.Columns.{taken-out-front}
use Rattle.lease.specs.Parts.{removing}
use Rattle.lease.proofs.Bounds.{up_one, up_to, within}
use Rattle.lease.proofs.Tokens.{acked}
use Rattle.lease.proofs.in_place.ack_at.Goals as goal

pub returns : goal.returns
returns c t w o g p =
    let at = c.args.at in
    acked (removing c.args.len c.args.offsets.now c.args.slots.now t) w.full w.sound o g p c.remove.new.column _
    (taken-out-front c.args.len at (at + 1) c.args.offsets.now (up_one at) (up_to c.requires.0) (within w.full.offsets c.requires.1) c.remove.ensures)
    (ap (λ (l : List ℕ). set l (c.args.len - 1) (get_or c.args.slots.now at 0)) c.remove-2.ensures)
