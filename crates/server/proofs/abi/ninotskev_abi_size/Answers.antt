-- `ninotskev_abi_size` meets its contract: each number is that of its struct. Assumes nothing.
use native.Mathlib.Omega.{arith}
use mathlib.Core.Path.{sym, ap}
use Rattle.server.specs.Abi.{sizes, size_at, or_zero}
use Rattle.server.proofs.Found.{none_found}
use Rattle.server.proofs.abi.ninotskev_abi_size.Goals as goal

pub returns-in-0 : goal.returns-in-0
returns-in-0 c = ap size_at (sym c.in-0.is)

pub returns-in-1 : goal.returns-in-1
returns-in-1 c = ap size_at (sym c.in-1.is)

pub returns-in-2 : goal.returns-in-2
returns-in-2 c = ap size_at (sym c.in-2.is)

pub returns-in_default : goal.returns-in_default
returns-in_default c = ap or_zero (none_found c.args.part sizes ((λ e. omega arith), ((λ e. omega arith), ((λ e. omega arith), tt))))
