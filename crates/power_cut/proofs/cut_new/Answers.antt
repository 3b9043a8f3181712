-- `cut_new` meets its contract: what the step wrote stays. Assumes nothing.
use Rattle.power_cut.proofs.Cuts.{not_refused, cut-new}
use Rattle.power_cut.proofs.cut_new.Goals as goal

pub unwrap-wrote-requires : goal.unwrap-wrote-requires
unwrap-wrote-requires c = not_refused c.args.machine c.args.area.now c.requires c.step.result c.step.new.area c.step.ensures

pub returns : goal.returns
returns c =
    cut-new c.args.machine c.args.area.now c.requires c.step.result c.step.new.area c.step.ensures c.unwrap-wrote.result c.unwrap-wrote.ensures c.switched_off.result
    c.switched_off.ensures
