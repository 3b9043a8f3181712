-- `carry_pair` meets its contract. Assumes nothing.
use Prim.Native.Nat.{◌+◌, ◌<◌, ◌≤◌, ◌^◌}
use native.Mathlib.Omega.{arith}
use mathlib.Core.Path.{◌≡◌}
use lib.ListN.{length}
use borrow.Author.Rules.{rules}
use Rattle.types.specs.Limits.{MAX, MAX32, CARRIED}
use Rattle.tables.proofs.Columns.{put_in_front}
use Rattle.types.proofs.Columns.{length-used}
use Rattle.tables.proofs.Search.{found-used, missing_inside}
use Rattle.tables.specs.Carried.{held_in}
use Rattle.tables.proofs.Carried.{pair-kept, pair-nothing, pair-carried, pair-refused, counted_anew, one_too_many, counted-more}
use Rattle.tables.proofs.counts.carry_pair.Goals as goal
use Rattle.tables.proofs.counts.carry_pair.Goals.{Start}

full : (c : Start) → length c.args.carried.offsets ≡ CARRIED
full c = search rules

full-counts : (c : Start) → length c.args.carried.counts ≡ CARRIED
full-counts c = search rules

offset-fits : (c : Start) → c.args.pair.offset ≤ MAX
offset-fits c = let h : c.args.pair.offset < 2 ^ 64 = search rules in omega (arith, h)

attempt-fits : (c : Start) → c.args.pair.attempt ≤ MAX32
attempt-fits c = let h : c.args.pair.attempt < 2 ^ 32 = search rules in omega (arith, h)

-- how many are held
held : (c : Start) → length (held_in c.args.carried) ≡ c.args.carried.len
held c = length-used 0 c.args.carried.len c.args.carried.offsets c.args.carried.counts (omega (arith, full c, c.requires.few)) (omega (arith, full-counts c, c.requires.few))

pub returns-then-carried : goal.returns-then-carried
returns-then-carried c = pair-kept c.args.pair c.args.carried c.requires c.if-carried.true

pub returns-then-pair-eq0 : goal.returns-then-pair-eq0
returns-then-pair-eq0 c = pair-nothing c.args.pair c.args.carried c.requires c.if-carried.false (rw (held (goal.at.returns-then-pair-eq0 c).Start) c.requires.few) c.if-pair-eq0.true

pub offset_bounds-carried-at : goal.offset_bounds-carried-at
offset_bounds-carried-at c =
    omega (arith, full (goal.at.offset_bounds-carried-at c).Start, found-used c.args.pair.offset c.args.carried.len c.args.carried.offsets c.find-place.ensures c.in-Found.is)

pub bounds-carried-at : goal.bounds-carried-at
bounds-carried-at c =
    omega (arith, full (goal.at.bounds-carried-at c).Start, found-used c.args.pair.offset c.args.carried.len c.args.carried.offsets c.find-place.ensures c.in-Found.is)

pub returns-in-Found : goal.returns-in-Found
returns-in-Found c =
    let k = (goal.at.returns-in-Found c).Start in
    pair-carried c.args.pair c.args.carried c.requires c.if-carried.false (offset-fits k) (attempt-fits k) c.args.carried.len c.args.carried.offsets _ c.requires.few
    (counted_anew c.args.carried.len c.args.carried.offsets c.args.carried.counts (full k) (full-counts k) c.requires.few c.requires.rising c.args.pair.offset c.args.pair.attempt c.if-pair-eq0.false c.find-place.ensures c.in-Found.is)

pub returns-then-len-eq-CARRIED : goal.returns-then-len-eq-CARRIED
returns-then-len-eq-CARRIED c =
    let k = (goal.at.returns-then-len-eq-CARRIED c).Start in
    pair-refused c.args.pair c.args.carried c.requires c.if-carried.false
    (one_too_many c.args.carried.len c.args.carried.offsets c.args.carried.counts (full k) (full-counts k) c.requires.few c.requires.rising c.args.pair.offset c.args.pair.attempt c.if-pair-eq0.false c.find-place.ensures c.in-Missing.is c.if-len-eq-CARRIED.true)

pub returns : goal.returns
returns c =
    let k = (goal.at.returns c).Start in
    let few = c.requires.few in
    let inside = missing_inside c.args.pair.offset c.args.carried.len c.args.carried.offsets c.find-place.ensures c.in-Missing.is in
    pair-carried c.args.pair c.args.carried c.requires c.if-carried.false (offset-fits k) (attempt-fits k) (c.args.carried.len + 1) _ _
    (omega (arith, few, c.if-len-eq-CARRIED.false))
    (counted-more c.args.carried.len c.args.carried.offsets c.args.carried.counts (full k) (full-counts k) c.requires.few c.requires.rising c.args.pair.offset c.args.pair.attempt c.if-pair-eq0.false c.find-place.ensures c.in-Missing.is c.if-len-eq-CARRIED.false _ _
    (put_in_front c.args.carried.len c.in-Missing.at c.args.pair.offset c.args.carried.offsets (omega (arith, inside)) (omega (arith, full k, c.if-len-eq-CARRIED.false)) c.insert.ensures)
    (put_in_front c.args.carried.len c.in-Missing.at c.args.pair.attempt c.args.carried.counts (omega (arith, inside)) (omega (arith, full-counts k, c.if-len-eq-CARRIED.false)) c.insert-2.ensures))
