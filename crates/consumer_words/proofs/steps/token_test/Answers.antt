-- `token_test` meets its contract: the worker's rows, then the token's. Assumes nothing.
use Prim.Native.Nat.{ℕ}
use mathlib.Core.Path.{◌≡◌, sym, ap, subst, ◌∙◌}
use mathlib.Core.List.{List}
use mathlib.Core.Option.{Option}
use Rattle.cursor.proofs.Refusals.{err_is}
use Rattle.std.specs.Prelude.{Some}
use Rattle.types.specs.Limits.{WORKERS}
use Rattle.types.specs.Refusal.{Refusal}
use Rattle.types.specs.Refused.{refusal_of}
use Rattle.types.specs.Table.{first}
use Rattle.words.specs.Columns.{column}
use Rattle.lease.specs.Rest.{hold}
use Rattle.lease.specs.Lookup.{hold_in}
use Rattle.lease.specs.Layout as lease
use Rattle.lease.specs.InWords.{OwnedIn}
use Rattle.consumer.specs.Rights.{Operation, bit_of, worker_rows}
use Rattle.consumer.specs.Calls.{call_rows}
use Rattle.consumer.proofs.CallsToken.{is_unpermitted, is-fenced, is-foreign, is_held}
use Rattle.consumer_words.specs.Layout.{RIGHTS, view}
use Rattle.consumer_words.proofs.State.{table_part, table-part, lent-table}
use Rattle.consumer_words.proofs.steps.token_test.Goals as goal

-- what the worker's rows say, by the bit of the operation
rows : (w : List ℕ) (worker bit : ℕ) (op : Operation) → bit_of op ≡ bit → {r : Option Refusal} → r ≡ first (worker_rows (column RIGHTS WORKERS w) worker bit)
    → r ≡ first (call_rows (view w) worker op)
rows w worker bit op e q = rw e q

-- what the table's words say of the token, among all words
held : (w : List ℕ) (o g : ℕ) {r : Option (ℕ × ℕ)} → r ≡ hold (lease.view (table_part w)) o g → r ≡ hold (view w).table o g
held w o g e = e ∙ ap (λ (t : List ℕ). hold (lease.view t) o g) (table-part w)

pub returns-in_err-permission_of : goal.returns-in_err-permission_of
returns-in_err-permission_of c =
    let a = c.args in
    let h = c.in_err-permission_of in
    rw (err_is c.from_residual.result h.field-0.0 c.from_residual.ensures.1)
    (record { is = λ op e. is_unpermitted (view a.words.now) a.worker op a.token.offset.0 a.token.generation.0 (refusal_of h.field-0.0) (rows a.words.now a.worker a.bit op e h.ensures); at = tt })

pub hold_of-requires : goal.hold_of-requires
hold_of-requires c = lent-table c.requires

pub returns-in_default : goal.returns-in_default
returns-in_default c =
    let a = c.args in
    record {
      is = λ op e. is-fenced (view a.words.now) a.worker op a.token.offset.0 a.token.generation.0 (rows a.words.now a.worker a.bit op e c.in_ok-permission_of.ensures)
          (held a.words.now a.token.offset.0 a.token.generation.0 (sym (ap hold_in c.in_default.is) ∙ c.hold_of.ensures.is));
      at = tt;
    }

pub returns-then-held-worker : goal.returns-then-held-worker
returns-then-held-worker c =
    let a = c.args in
    record {
      is = λ op e. is-foreign (view a.words.now) a.worker op a.token.offset.0 a.token.generation.0 (rows a.words.now a.worker a.bit op e c.in_ok-permission_of.ensures) _ _
          (held a.words.now a.token.offset.0 a.token.generation.0 c.in-Some.ensures.is) c.if-held-worker.true;
      at = tt;
    }

pub returns : goal.returns
returns c =
    let a = c.args in
    record {
      is = λ op e. is_held (view a.words.now) a.worker op a.token.offset.0 a.token.generation.0 (rows a.words.now a.worker a.bit op e c.in_ok-permission_of.ensures) _ _
          (held a.words.now a.token.offset.0 a.token.generation.0 c.in-Some.ensures.is) c.if-held-worker.false;
      at = subst (λ (t : List ℕ). OwnedIn a.token.offset.0 a.token.generation.0 t (Some c.in-Some.held.at)) (table-part a.words.now) c.in-Some.ensures.at;
    }
