-- `read` is safe and ends. Assumes nothing.
use mathlib.Core.Path.{◌≡◌}
use lib.ListN.{length}
use Rattle.modules.specs.Reading.{Going}
use Rattle.modules.proofs.read.Given as goal

abbrev pub invariant-loop : goal.invariant-loop
invariant-loop l = (length l.buf ≡ length l.initial.buf) × (length l.ops ≡ length l.initial.ops) × Going (length l.initial.buf) (length l.initial.ops) l.reading
