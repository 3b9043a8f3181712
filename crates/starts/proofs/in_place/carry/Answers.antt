-- `carry` meets its contract. The loop's invariant: the entries in the columns, and the counts among the pairs to come that are
-- carried, are together those of all pairs. Assumes nothing.
use Prim.Native.Nat.{ℕ, ◌≤◌}
use native.Mathlib.Omega.{arith}
use mathlib.Core.Path.{◌≡◌, refl, sym, ap, ◌∙◌}
use mathlib.Core.List.{List, ◌++◌}
use lib.ListN.{length, take, length-set}
use borrow.Author.Rules.{rules}
use Rattle.types.specs.Keyed.{Entry, entries}
use Rattle.cursor.specs.View as cursors
use Rattle.types.proofs.Scan.{length-mapped}
use Rattle.cursor.specs.View.{ack_cursor}
use Rattle.starts.proofs.Carrying.{carried-more, dropped_more, carried-end}
use Rattle.starts.proofs.in_place.carry.Goals as goal
use Rattle.starts.proofs.in_place.carry.Goals.{then-is_carried, else-is_carried}

pub loop-i-init : goal.loop-i-init
loop-i-init c = (omega arith, omega arith, c.requires.2, c.requires.3, refl)

pub is_carried-requires : goal.is_carried-requires
is_carried-requires c = c.requires.0

pub loop-i-preserved : goal.loop-i-preserved
loop-i-preserved c =
    -- the array of pairs has its length
    let full : length c.args.pairs ≡ 128 = search (rules, length-mapped) in
    let l = c.loop-i in
    let t = c.loop-i-test.true in
    let k = cursors.view (ack_cursor c.args.committed c.args.starts.now c.args.ends.now c.args.runs) in
    let fits : c.args.count ≤ length c.args.pairs = omega (arith, full, c.requires.1) in
    let is = c.is_carried.ensures in
    elim c.if-is_carried.branch [
      | then-is_carried w ↦
          let more = carried-more k c.args.pairs c.args.count l.i fits t l.offsets l.counts l.len (omega arith) (omega arith) (sym is ∙ w.if-is_carried.true) in
          rw (w.offsets-is, w.counts-is, w.len-is) (omega arith, omega arith, simp length-set l.invariant.2, simp length-set l.invariant.3, more ∙ l.invariant.4)
      | else-is_carried w ↦
          let more = dropped_more k c.args.pairs c.args.count l.i fits t (sym is ∙ w.if-is_carried.false) in
          rw (w.offsets-is, w.counts-is, w.len-is) (omega arith, omega arith, l.invariant.2, l.invariant.3, ap (λ (r : List (Entry ℕ)). entries (take l.len l.offsets) (take l.len l.counts) ++ r) more ∙ l.invariant.4)
    ]

pub returns : goal.returns
returns c =
    -- the array of pairs has its length
    let full : length c.args.pairs ≡ 128 = search (rules, length-mapped) in
    let l = c.loop-i in
    let k = cursors.view (ack_cursor c.args.committed c.args.starts.now c.args.ends.now c.args.runs) in (
      omega (arith, c.requires.1),
      sym (carried-end k c.args.pairs c.args.count l.i (omega (arith, full, c.requires.1)) c.loop-i-test.false (entries (take l.len l.offsets) (take l.len l.counts))) ∙ l.invariant.4,
    )
