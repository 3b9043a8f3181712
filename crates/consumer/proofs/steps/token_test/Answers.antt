-- `token_test` meets its contract: the worker's rows, then 24 and 40, and the count of the lease. Assumes nothing.
use mathlib.Core.Path.{◌≡◌, sym, ap, ◌∙◌, subst}
use mathlib.Core.Option.{Option}
use lib.ListN.{take}
use Rattle.std.proofs.lemmas.Result.{err_from_is_err_and}
use Rattle.types.specs.Refusal.{Refusal}
use Rattle.types.specs.Refused.{refusal_of}
use Rattle.types.specs.Table.{first}
use Rattle.lease.specs.Lookup.{hold_in, HeldAt}
use Rattle.consumer.specs.Rights.{Operation, bit_of, worker_rows}
use Rattle.consumer.specs.Calls.{call_rows}
use Rattle.consumer.specs.Parts.{owning}
use Rattle.consumer.specs.View.{view}
use Rattle.consumer.specs.declared.Consumer.{Consumer}
use Rattle.consumer.proofs.CallsReturns.{table-whole}
use Rattle.consumer.proofs.CallsToken.{is_unpermitted, is-fenced, is-foreign, is_held}
use Rattle.consumer.proofs.steps.token_test.Goals as goal
use Rattle.consumer.proofs.steps.token_test.Goals.{Start}

-- a consumer with the parts that the arguments are
abbrev made : Start → Consumer → Consumer
made s = owning s.args.rights.now s.args.len s.args.offsets.now s.args.slots.now s.args.generations.now s.args.deliveries.now s.args.workers.now

-- what the worker's rows say, by the bit of the operation
rows : (s : Start) (x : Consumer) (op : Operation) → bit_of op ≡ s.args.bit → {r : Option Refusal} → r ≡ first (worker_rows s.args.rights.now s.args.worker s.args.bit)
    → r ≡ first (call_rows (view (made s x)) s.args.worker op)
rows s x op e q = rw e q

pub returns-in_err-permission_of : goal.returns-in_err-permission_of
returns-in_err-permission_of c =
    let p = err_from_is_err_and c.from_residual.result c.from_residual.ensures.1 in
    let s = (goal.at.returns-in_err-permission_of c).Start in
    rw (p.1, p.2) (
      λ x w op e.
          is_unpermitted (view (made s x)) c.args.worker op c.args.offset c.args.generation (refusal_of c.in_err-permission_of.field-0.0)
          (rows s x op e c.in_err-permission_of.ensures),
      tt,
    )

pub returns-in_default : goal.returns-in_default
returns-in_default c = (
  λ x w op e.
      let s = (goal.at.returns-in_default c).Start in
      is-fenced (view (made s x)) c.args.worker op c.args.offset c.args.generation (rows s x op e c.in_ok-permission_of.ensures)
      (sym (ap hold_in c.in_default.is) ∙ c.hold_in_place-hold.ensures.0 (made s x).table (table-whole w)),
  tt,
)

pub returns-then-held-worker : goal.returns-then-held-worker
returns-then-held-worker c = (
  λ x w op e.
      let s = (goal.at.returns-then-held-worker c).Start in
      is-foreign (view (made s x)) c.args.worker op c.args.offset c.args.generation (rows s x op e c.in_ok-permission_of.ensures) _ _
      (sym (ap hold_in c.in-Some.is) ∙ c.hold_in_place-hold.ensures.0 (made s x).table (table-whole w)) c.if-held-worker.true,
  tt,
)

pub returns : goal.returns
returns c = (
  λ x w op e.
      let s = (goal.at.returns c).Start in
      is_held (view (made s x)) c.args.worker op c.args.offset c.args.generation (rows s x op e c.in_ok-permission_of.ensures) _ _
      (sym (ap hold_in c.in-Some.is) ∙ c.hold_in_place-hold.ensures.0 (made s x).table (table-whole w)) c.if-held-worker.false,
  subst (HeldAt c.args.offset c.args.generation (take c.args.len c.args.offsets.now) c.args.slots.now c.args.generations.now) c.in-Some.is c.hold_in_place-hold.ensures.1,
)
