-- `headers_behind` meets its contract. The invariant: what is counted up to block i, and what is left from there, are together all.
-- Assumes nothing.
use Prim.Native.Nat.{◌-◌, ◌/◌, ◌≤◌, max}
use native.Mathlib.Omega.{arith}
use mathlib.Core.Path.{◌≡◌, sym, ap, ◌∙◌}
use mathlib.Core.Logic.{⊎_elim}
use lib.ListN.{length}
use borrow.Author.Rules.{rules}
use Rattle.journal.specs.Blocks.{group_of}
use Rattle.journal.specs.Sound.{has_header_kind}
use Rattle.inspect.specs.Missed.{named}
use Rattle.inspect.proofs.Sequence.{part-is-block}
use Rattle.inspect.proofs.Named.{Tally, tally_none, tally_header, tally_other, tally_end}
use Rattle.inspect.proofs.missed.headers_behind.Given as goal

abbrev pub invariant-loop-i : goal.invariant-loop-i
invariant-loop-i l =
    Tally l.area l.end (named l.area (l.end - l.from) l.from) l.i l.count l.number
