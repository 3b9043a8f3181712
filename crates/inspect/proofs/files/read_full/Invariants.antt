-- `read_full` is safe and ends. Assumes nothing.
use Rattle.std.specs.Prelude.{◌-◌, ◌≤◌, ◌≡◌, length}
use Rattle.inspect.proofs.files.read_full.Given as goal

abbrev pub invariant-loop-len : goal.invariant-loop-len
invariant-loop-len l = (length l.buf ≡ length l.initial.buf) × (l.len ≤ length l.buf)

abbrev pub decreases-loop-len : goal.decreases-loop-len
decreases-loop-len l = length l.buf - l.len
