-- `cut_torn` meets its contract: bytes that no failure leaves are refused, others stand where the step wrote. Assumes nothing.
use native.Mathlib.Omega.{arith}
use mathlib.Core.Path.{◌≡◌, sym, ◌∙◌}
use lib.ListN.{length}
use borrow.Author.Rules.{rules}
use Rattle.power_cut.proofs.Cuts.{not_512, right-check, other-bytes, not_refused, place-small, cut-torn}
use Rattle.power_cut.proofs.cut_torn.Goals as goal

pub returns-then-bytes-ne512 : goal.returns-then-bytes-ne512
returns-then-bytes-ne512 c =
    other-bytes c.args.machine c.args.area.now c.requires c.args.bytes.now (not_512 c.args.bytes.now (search rules))

pub returns-then-is_sealed : goal.returns-then-is_sealed
returns-then-is_sealed c =
    other-bytes c.args.machine c.args.area.now c.requires c.args.bytes.now
    (right-check c.args.bytes.now (sym c.is_sealed.ensures ∙ c.if-is_sealed.true))

pub unwrap-wrote-requires : goal.unwrap-wrote-requires
unwrap-wrote-requires c = not_refused c.args.machine c.args.area.now c.requires c.step.result c.step.new.area c.step.ensures

pub overflow_mul-wrote : goal.overflow_mul-wrote
overflow_mul-wrote c =
    omega (arith, place-small c.args.machine c.args.area.now c.requires c.step.result c.step.new.area c.step.ensures c.unwrap-wrote.result c.unwrap-wrote.ensures)

pub returns : goal.returns
returns c =
    let whole : length c.args.bytes.now ≡ 512 = search rules in
    cut-torn c.args.machine c.args.area.now c.requires c.step.result c.step.new.area c.step.ensures c.unwrap-wrote.result c.unwrap-wrote.ensures c.args.bytes.now
    whole (sym c.is_sealed.ensures ∙ c.if-is_sealed.false) _ _ c.write_bytes.ensures c.switched_off.result c.switched_off.ensures
