-- `say` meets its contract. The loop's invariant: at a mark, the parts behind it are those left to put. Assumes nothing.
use Prim.Native.Nat.{◌-◌, ◌≤◌}
use mathlib.Core.Path.{◌≡◌}
use lib.ListN.{length, drop}
use Rattle.text.specs.Words.{length_to, later_parts}
use Rattle.text.specs.Templates.{MARK, numbered}
use Rattle.text.proofs.Putting.{Left}
use Rattle.text.proofs.output.Output.say.Given as goal

abbrev pub invariant-loop-end : goal.invariant-loop-end
invariant-loop-end l =
    (l.i ≤ l.end) × (length_to MARK (drop l.end l.template) ≡ 0)
    × (drop l.i (later_parts MARK l.template) ≡ later_parts MARK (drop l.end l.template))
    × Left (numbered l.numbers) (later_parts MARK l.template) l.initial.self l.i l.self

abbrev pub decreases-loop-end : goal.decreases-loop-end
decreases-loop-end l = length l.template - l.end
