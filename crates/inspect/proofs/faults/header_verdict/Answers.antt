-- `header_verdict` meets its contract: the first tests, and the others where these find nothing. Assumes nothing.
use mathlib.Core.Path.{sym, ◌∙◌}
use Rattle.std.proofs.lemmas.Result.{err_from_is_err_and}
use Rattle.inspect.proofs.Verdicts.{opened}
use Rattle.inspect.proofs.Rows.{header_open, header-shut}
use Rattle.inspect.proofs.faults.header_verdict.Goals as goal

pub returns-in_err-opening_verdict : goal.returns-in_err-opening_verdict
returns-in_err-opening_verdict c =
    let p = err_from_is_err_and c.from_residual.result c.from_residual.ensures.1 in
    rw (p.1, p.2) (header-shut _ _ _ _ _ (sym c.in_err-opening_verdict.ensures))

pub header_rest-requires : goal.header_rest-requires
header_rest-requires c = opened _ _ _ (sym c.in_ok-opening_verdict.ensures)

pub returns : goal.returns
returns c = c.header_rest.ensures ∙ header_open _ _ _ _ (sym c.in_ok-opening_verdict.ensures)
