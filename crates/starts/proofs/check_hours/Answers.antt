-- `check_hours` meets its contract: the hours' own tests, then the area's. Assumes nothing.
use mathlib.Core.Path.{sym, ◌∙◌}
use Rattle.std.proofs.lemmas.Result.{err_from_is_err_and}
use Rattle.hours.specs.View.{view}
use Rattle.starts.proofs.Starting.{hours-refused, area-refused, accepted}
use Rattle.starts.proofs.check_hours.Goals as goal

pub returns-in_err-test : goal.returns-in_err-test
returns-in_err-test c =
    let p = err_from_is_err_and c.from_residual.result c.from_residual.ensures.1 in
    rw (p.1, p.2) (hours-refused (view c.args.hours) c.args.area_len _ c.in_err-test.ensures)

pub returns-then-bad_area : goal.returns-then-bad_area
returns-then-bad_area c =
    area-refused (view c.args.hours) c.args.area_len c.in_ok-test.ensures (sym c.bad_area.ensures ∙ c.if-bad_area.true)

pub returns : goal.returns
returns c =
    accepted (view c.args.hours) c.args.area_len c.in_ok-test.ensures (sym c.bad_area.ensures ∙ c.if-bad_area.false)
