-- `pair_at` meets its contract. Assumes nothing.
use Prim.Native.Nat.{◌<◌}
use native.Mathlib.Omega.{arith}
use mathlib.Core.Path.{◌≡◌, sym}
use lib.ListN.{length}
use borrow.Author.Rules.{rules}
use Rattle.types.proofs.Listing.{length_pairs, pair-at}
use Rattle.types.proofs.lent.pair_at.Goals as goal
use Rattle.types.proofs.lent.pair_at.Goals.{Start}

full : (s : Start) → (length s.args.counts.offsets ≡ 192) × (length s.args.counts.attempts ≡ 192)
full s = (search rules, search rules)

within : (s : Start) → (s.args.at < s.args.counts.len) × (s.args.at < 192)
within s =
    let few = length_pairs s.args.counts.len s.args.counts.offsets s.args.counts.attempts 192 (full s).0 (full s).1 in
    (omega (arith, s.requires, few), omega (arith, s.requires, few))

pub offset_bounds-counts-at : goal.offset_bounds-counts-at
offset_bounds-counts-at c = omega (arith, (within c).1)

pub bounds-counts-at : goal.bounds-counts-at
bounds-counts-at c = (within c).1

pub offset_bounds-counts-at-2 : goal.offset_bounds-counts-at-2
offset_bounds-counts-at-2 c = omega (arith, (within (goal.at.offset_bounds-counts-at-2 c).Start).1)

pub bounds-counts-at-2 : goal.bounds-counts-at-2
bounds-counts-at-2 c = (within (goal.at.bounds-counts-at-2 c).Start).1

pub returns : goal.returns
returns c =
    let s = c.before.before in
    let a = s.args in
    sym (pair-at a.counts.len a.counts.offsets a.counts.attempts a.at (within (goal.at.returns c).Start).0 (omega (arith, (within (goal.at.returns c).Start).1, (full (goal.at.returns c).Start).0)) (omega (arith, (within (goal.at.returns c).Start).1, (full (goal.at.returns c).Start).1)))
