-- `Consumer::waiting` meets its contract: the worker's rows, and then the list in an array is listed. Assumes nothing.
use Prim.Native.Nat.{ℕ}
use mathlib.Core.Path.{sym, ap, ◌∙◌}
use mathlib.Core.List.{List}
use borrow.Author.Rules.{rules}
use Rattle.std.proofs.lemmas.Result.{err_from_is_err_and}
use Rattle.types.specs.Lists.{listed, numbers_of}
use Rattle.consumer.proofs.Arrays.{table-full}
use Rattle.consumer.proofs.Consumer.waiting.Goals as goal

pub returns-in_err-permission_of : goal.returns-in_err-permission_of
returns-in_err-permission_of c =
    let p = err_from_is_err_and c.from_residual.result c.from_residual.ensures.1 in
    rw (p.1, p.2, sym c.in_err-permission_of.ensures)

pub returns : goal.returns
returns c =
    rw (sym c.in_ok-permission_of.ensures)
    (c.list_offsets.ensures
    ∙ ap (λ (y : List ℕ). listed y (numbers_of c.args.out.now))
    (c.waiting_list-list.ensures c.args.self (record { full = table-full c.args.self.table _ c.well_formed.0.1.1.1.0; sound = c.requires })))
