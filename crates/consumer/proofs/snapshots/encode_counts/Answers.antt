-- `encode_counts` meets its contract: the first places of both arrays, lent to the encoder. Assumes nothing.
use native.Mathlib.Omega.{arith}
use mathlib.Core.Path.{◌≡◌, sym}
use lib.ListN.{length}
use lib.Seq.{length-take-le}
use borrow.Author.Rules.{rules}
use Rattle.consumer.proofs.snapshots.encode_counts.Goals as goal
use Rattle.consumer.proofs.snapshots.encode_counts.Goals.{Start}

full : (s : Start) → (length s.args.counts.offsets ≡ 192) × (length s.args.counts.attempts ≡ 192)
full s = (search rules, search rules)

pub slice_bounds-offsets-end : goal.slice_bounds-offsets-end
slice_bounds-offsets-end c = omega (arith, c.requires, (full (goal.at.slice_bounds-offsets-end c).Start).0)

pub slice_bounds-encode_columns-end : goal.slice_bounds-encode_columns-end
slice_bounds-encode_columns-end c = sym (length-take-le _ c.args.counts.offsets (omega (arith, c.requires, (full (goal.at.slice_bounds-encode_columns-end c).Start).0)))

pub slice_bounds-attempts-end : goal.slice_bounds-attempts-end
slice_bounds-attempts-end c = omega (arith, c.requires, (full (goal.at.slice_bounds-attempts-end c).Start).1)

pub slice_bounds-encode_columns-end-2 : goal.slice_bounds-encode_columns-end-2
slice_bounds-encode_columns-end-2 c = sym (length-take-le _ c.args.counts.attempts (omega (arith, c.requires, (full (goal.at.slice_bounds-encode_columns-end-2 c).Start).1)))

pub returns : goal.returns
returns c = c.encode_columns.ensures
