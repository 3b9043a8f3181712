-- `count_of` meets its contract.
-- Assumes nothing.
use native.Mathlib.Omega.{arith}
use mathlib.Core.Path.{refl, subst}
use Rattle.tables.specs.Search.{Placed}
use Rattle.tables.specs.declared.Place.TheVariants.{Found, Missing}
use Rattle.tables.proofs.Search.{found-used}
use Rattle.tables.proofs.counts.count_of.Goals as goal

pub overflow_add-result : goal.overflow_add-result
overflow_add-result c = omega (arith, found-used c.args.x c.args.len c.args.keys.now c.find.ensures c.in-Found.is)

pub returns-in-Found : goal.returns-in-Found
returns-in-Found c = record { place = Found c.in-Found.at; placed = subst (Placed _ _) c.in-Found.is c.find.ensures; is = rw c.count_at.ensures }

pub returns-in-Missing : goal.returns-in-Missing
returns-in-Missing c = record { place = Missing c.in-Missing.at; placed = subst (Placed _ _) c.in-Missing.is c.find.ensures; is = refl }
