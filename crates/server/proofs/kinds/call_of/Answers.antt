-- `call_of` meets its contract: a number that isn't the machine's own is that of a call on the state. Assumes nothing.
use Prim.Native.Nat.{ℕ}
use native.Mathlib.Omega.{arith}
use mathlib.Core.Path.{sym, ap, ◌∙◌}
use mathlib.Core.Option.{Option, map}
use Rattle.machine.specs.Calls.{Call, ask}
use Rattle.server.specs.Kinds.{call_at}
use Rattle.server.proofs.Found.{on-state}
use borrow.Author.Rules.{rules}
use Rattle.server.proofs.kinds.call_of.Goals as goal

abbrev as_numbers : ℕ → ℕ → ℕ → ℕ → ℕ → ℕ → ℕ → Option Call
as_numbers w a b c d room kind = call_at w kind a b c d room

pub returns-in-16 : goal.returns-in-16
returns-in-16 c room = ap (as_numbers c.args.worker c.args.a c.args.b c.args.c c.args.d room) (sym c.in-16.is)

pub returns-in-17 : goal.returns-in-17
returns-in-17 c room = ap (as_numbers c.args.worker c.args.a c.args.b c.args.c c.args.d room) (sym c.in-17.is)

pub returns-in-18 : goal.returns-in-18
returns-in-18 c room = ap (as_numbers c.args.worker c.args.a c.args.b c.args.c c.args.d room) (sym c.in-18.is)

pub returns-in_ok-ask-in_default : goal.returns-in_ok-ask-in_default
returns-in_ok-ask-in_default c room =
    let x = c.args in
    ap (map (ask x.worker)) (c.in_ok-ask-in_default.ensures room) ∙ on-state x.worker x.a x.b x.c x.d room x.kind (λ e. omega arith) (λ e. omega arith) (λ e. omega arith)

pub returns-in_err-ask-in_default : goal.returns-in_err-ask-in_default
returns-in_err-ask-in_default c room =
    let x = c.args in
    rw c.from_residual.ensures
    (ap (map (ask x.worker)) (c.in_err-ask-in_default.ensures room) ∙ on-state x.worker x.a x.b x.c x.d room x.kind (λ e. omega arith) (λ e. omega arith) (λ e. omega arith))
