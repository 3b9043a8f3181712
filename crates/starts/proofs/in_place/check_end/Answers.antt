-- `check_end` meets its contract: each test is a row of the table. Assumes nothing.
use Prim.Native.Nat.{ℕ}
use mathlib.Core.Path.{◌≡◌, sym, ◌∙◌}
use borrow.Author.Rules.{rules}
use Rattle.starts.proofs.in_place.check_end.Goals as goal

pub returns-then-unfit_at : goal.returns-then-unfit_at
returns-then-unfit_at c = rw (sym c.unfit_at.ensures ∙ c.if-unfit_at.true)

pub returns-then-header_behind : goal.returns-then-header_behind
returns-then-header_behind c =
    let behind = rw c.requires at c.header_behind.ensures in
    rw (sym c.unfit_at.ensures ∙ c.if-unfit_at.false, sym behind ∙ c.if-header_behind.true)

pub returns : goal.returns
returns c =
    let behind = rw c.requires at c.header_behind.ensures in
    rw (sym c.unfit_at.ensures ∙ c.if-unfit_at.false, sym behind ∙ c.if-header_behind.false)
