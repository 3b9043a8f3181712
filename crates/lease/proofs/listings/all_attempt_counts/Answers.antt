-- `all_attempt_counts` meets its contract. Assumes nothing.
-- the arrays of the counts have their lengths
use Prim.Native.Nat.{ℕ, ◌+◌}
use native.Mathlib.Omega.{arith}
use mathlib.Core.Path.{◌≡◌, ap, ◌∙◌}
use mathlib.Core.List.{◌++◌}
use lib.ListN.{length, take, drop}
use Rattle.lease.specs.Counts.{all_attempt_counts}
use Rattle.lease.specs.Layout.{view}
use Rattle.lease.proofs.InLists.{into-short, into-both}
use borrow.Author.Rules.{rules}
use Rattle.lease.proofs.listings.all_attempt_counts.Goals as goal
use Rattle.lease.proofs.listings.all_attempt_counts.Goals.{After-all_counts-counts}

long : (c : After-all_counts-counts) → (length c.all_counts-counts.result.offsets ≡ 192) × (length c.all_counts-counts.result.attempts ≡ 192)
long c = let ok = c.all_counts-counts.type_inv in (search (rules, ok), search (rules, ok))

pub returns-then-min-n : goal.returns-then-min-n
returns-then-min-n c =
    let r = c.all_counts-counts.result in
    let a = (long (goal.at.returns-then-min-n c).After-all_counts-counts).0 in
    let b = (long (goal.at.returns-then-min-n c).After-all_counts-counts).1 in
    let few = c.all_counts-counts.ensures.few in
    into-short r (all_attempt_counts (view c.args.table.now)) c.all_counts-counts.ensures.is (omega (arith, few, a)) (omega (arith, few, b)) c.args.offsets.now c.args.attempts.now
    (omega (arith, c.min.ensures, c.if-min-n.true))

pub returns : goal.returns
returns c =
    let r = c.all_counts-counts.result in
    let a = (long (goal.at.returns c).After-all_counts-counts).0 in
    let b = (long (goal.at.returns c).After-all_counts-counts).1 in
    let few = c.all_counts-counts.ensures.few in
    let n = r.len in
    let z : 0 + n ≡ n = omega arith in
    into-both r (all_attempt_counts (view c.args.table.now)) c.all_counts-counts.ensures.is (omega (arith, few, a)) (omega (arith, few, b)) c.args.offsets.now c.args.attempts.now
    (omega (arith, c.min.ensures, c.if-min-n.false)) c.copy.new.column c.put_counts.new.column
    (c.copy.ensures ∙ ap (λ (k : ℕ). take n r.offsets ++ drop k c.args.offsets.now) z) c.put_counts.ensures
