-- `counts_fit` meets its contract. Assumes nothing.
use Prim.Native.Nat.{min}
use mathlib.Core.Path.{◌≡◌, sym}
use lib.ListN.{length}
use borrow.Author.Rules.{rules}
use Rattle.types.specs.Lists.{counts_in}
use Rattle.types.proofs.Listing.{length_pairs}
use Rattle.types.proofs.lent.counts_fit.Goals as goal
use Rattle.types.proofs.lent.counts_fit.Goals.{Start}

size : (s : Start) → min s.args.counts.len 192 ≡ length (counts_in s.args.counts)
size s = sym (length_pairs s.args.counts.len s.args.counts.offsets s.args.counts.attempts 192 (search rules) (search rules))

pub returns : goal.returns
returns c = rw (size (goal.at.returns c).Start) at c.room_for.ensures
