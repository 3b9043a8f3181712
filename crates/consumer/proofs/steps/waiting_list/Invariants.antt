-- `waiting_list` meets its contract. The loop's invariant: the expired leases before place i stand in order behind the carried offsets.
-- Assumes nothing.
use Rattle.consumer.proofs.Asked.{Waits}
use Rattle.consumer.proofs.steps.waiting_list.Given as goal

abbrev pub invariant-loop-i : goal.invariant-loop-i
invariant-loop-i l =
    Waits l.len l.carried_len l.now l.offsets l.slots l.deadlines l.carried_offsets l.listed l.by_deadline l.n l.i
