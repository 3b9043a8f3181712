-- `crc::short::after_short` meets its contract: what makes no whole four and the fours are all. Assumes nothing.
use native.Mathlib.Omega.{arith}
use mathlib.Core.Path.{◌∙◌}
use Rattle.crc.proofs.short.after_short.Goals as goal

pub after_halves-requires : goal.after_halves-requires
after_halves-requires c = (omega arith, omega arith)

pub returns : goal.returns
returns c = c.after_halves.ensures ∙ c.after_few-register.ensures
