-- `put_number` meets its contract. Assumes nothing.
use Rattle.text.proofs.Digits.{decimal-is}
use Rattle.text.proofs.output.Output.put_number.Goals as goal

pub returns : goal.returns
returns c =
    let d = c.decimal-k in
    rw (← decimal-is d.result c.args.n d.ensures.len, ← d.ensures.digits) c.put.ensures
