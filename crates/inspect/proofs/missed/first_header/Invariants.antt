-- `first_header` meets its contract. The invariant: the first header of all is the first of those that are left. Assumes nothing.
use Prim.Native.Nat.{◌-◌, ◌/◌, ◌≤◌}
use native.Mathlib.Omega.{arith}
use mathlib.Core.Path.{◌≡◌, refl, sym, ap, ◌∙◌}
use lib.ListN.{length}
use borrow.Author.Rules.{rules}
use Rattle.journal.specs.Sound.{has_header_kind}
use Rattle.inspect.specs.Missed.{first_header}
use Rattle.inspect.proofs.Sequence.{part-is-block}
use Rattle.inspect.proofs.Named.{header-here, header-later, header_none}
use Rattle.inspect.proofs.missed.first_header.Given as goal

abbrev pub invariant-loop-i : goal.invariant-loop-i
invariant-loop-i l =
    first_header l.area (l.end - l.i) l.i ≡ first_header l.area (l.end - l.from) l.from
