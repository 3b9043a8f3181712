-- `ack_bounded` meets its contract. Assumes nothing.
use Prim.Native.Nat.{ℕ}
use native.Mathlib.Omega.{arith}
use mathlib.Core.Path.{sym, ◌∙◌}
use mathlib.Core.List.{List}
use lib.ListN.{length-set}
use borrow.Rule.Slice.PartMut.{put_mid}
use Rattle.types.specs.Limits.{RANGES}
use Rattle.cursor.specs.Layout.{COMMITTED, STARTS, ENDS}
use Rattle.cursor.proofs.Words.{parts_whole, both_long, stored-long, ack-answers}
use Rattle.cursor.proofs.in_words.ack_bounded.Goals as goal

-- both columns back in their places
abbrev both : List ℕ → List ℕ → List ℕ → List ℕ
both words starts ends = put_mid ENDS RANGES (put_mid STARTS RANGES words starts) ends

pub plan_ack-plan-requires : goal.plan_ack-plan-requires
plan_ack-plan-requires c = parts_whole c.requires

pub bounds-cursor-1-2 : goal.bounds-cursor-1-2
bounds-cursor-1-2 c =
    let n = c.plan_ack-plan.result.noted in
    omega (arith, length-set (both c.args.cursor.now c.apply.new.column c.apply-2.new.column) COMMITTED n.committed, both_long c.args.cursor.now c.requires.long c.apply.new.column c.apply.auto.column c.apply-2.new.column c.apply-2.auto.column)

pub shape_of-cursor : goal.shape_of-cursor
shape_of-cursor c =
    let n = c.plan_ack-plan.result.noted in
    let ok = c.requires in
    stored-long c.args.cursor.now ok.long c.apply.new.column c.apply.auto.column c.apply-2.new.column c.apply-2.auto.column n.committed n.runs ∙ sym ok.long

pub returns : goal.returns
returns c =
    ack-answers c.args.cursor.now c.requires.long c.apply.new.column c.apply.auto.column c.apply-2.new.column c.apply-2.auto.column
    c.args.offset.0 c.args.max_runs c.plan_ack-plan.result c.plan_ack-plan.ensures c.apply.ensures c.apply-2.ensures
