-- `put_hex` meets its contract. Assumes nothing.
use native.Mathlib.Omega.{arith}
use Rattle.text.proofs.Digits.{hexadecimal-is}
use Rattle.text.proofs.output.Output.put_hex.Goals as goal

pub returns : goal.returns
returns c =
    let a = c.args in
    let d = c.hex-k in
    let p = c.put in
    rw (← hexadecimal-is d.result a.byte d.ensures.len (omega arith), ← d.ensures.digits) p.ensures
