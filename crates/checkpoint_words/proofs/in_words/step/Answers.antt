-- `step` meets its contract: it is refused and leaves the words, or stores its numbers. Assumes nothing.
use Prim.Native.Nat.{ℕ}
use native.Mathlib.Omega.{arith}
use mathlib.Core.Path.{sym, subst}
use mathlib.Core.List.{List}
use Rattle.cursor.proofs.Refusals.{err_is}
use Rattle.std.specs.Prelude.{Ok}
use Rattle.checkpoint_words.specs.InWords.{Steps}
use Rattle.checkpoint_words.proofs.Steps.{steppable, counter_narrow, stepped_words, step-refused_words}
use Rattle.checkpoint_words.proofs.in_words.step.Goals as goal

pub overflow_cast-numbers : goal.overflow_cast-numbers
overflow_cast-numbers c = omega (arith, counter_narrow c.requires)

pub step_in_place-requires : goal.step_in_place-requires
step_in_place-requires c = steppable c.requires

pub returns-in_err-stepped : goal.returns-in_err-stepped
returns-in_err-stepped c =
    let h = c.in_err-stepped in
    rw (err_is c.from_residual.result h.field-0.0 c.from_residual.ensures.1)
    (step-refused_words c.requires c.args.area.now c.step_in_place.new.area h.field-0.0 h.ensures)

pub returns : goal.returns
returns c =
    let h = c.in_ok-stepped in
    subst (λ (x : List ℕ). Steps (Ok h.stepped.wrote) c.args.payload.now c.args.words.now c.args.area.now x c.step_in_place.new.area) (sym c.put.ensures)
    (stepped_words c.requires c.args.area.now c.step_in_place.new.area h.stepped (omega arith) h.ensures)
