-- `claim` meets its contract: the test refuses, or the grant after it takes effect. Assumes nothing.
use Prim.Native.Nat.{ℕ}
use native.Mathlib.Omega.{arith}
use mathlib.Core.Path.{sym, subst}
use mathlib.Core.List.{List}
use Rattle.cursor.proofs.Refusals.{err_is}
use Rattle.types.specs.Refused.{refusal_of}
use Rattle.lease.specs.InWords.{grant_in, PlacedIn}
use Rattle.consumer.specs.Calls.{claim_table}
use Rattle.consumer.specs.View.{claim_of}
use Rattle.consumer.proofs.CallsClaim.{open_passed}
use Rattle.consumer_words.specs.Layout.{view}
use Rattle.consumer_words.proofs.State.{table-part, lent-table, known-worker, refused_so, lent-passed, granted_so}
use Rattle.consumer_words.proofs.in_words.claim.Goals as goal

pub returns-in_err-place : goal.returns-in_err-place
returns-in_err-place c =
    let h = c.in_err-place in
    rw (err_is c.from_residual.result h.field-0.0 c.from_residual.ensures.1)
    (refused_so c.requires c.args.worker c.args.offset.0 c.args.now (refusal_of h.field-0.0) h.ensures.is)

pub overflow_cast-worker : goal.overflow_cast-worker
overflow_cast-worker c =
    omega (arith, known-worker (view c.args.words.now) c.args.worker c.args.offset.0 c.args.now (open_passed (claim_table (view c.args.words.now) c.args.worker c.args.offset.0 c.args.now) c.in_ok-place.ensures.is))

pub grant_at-grant-requires : goal.grant_at-grant-requires
grant_at-grant-requires c = (
  lent-table c.requires,
  subst (λ (x : List ℕ). PlacedIn c.args.offset.0 x c.in_ok-place.place) (sym (table-part c.args.words.now)) c.in_ok-place.ensures.place,
  lent-passed c.requires c.args.worker c.args.offset.0 c.args.now (omega arith) (open_passed (claim_table (view c.args.words.now) c.args.worker c.args.offset.0 c.args.now) c.in_ok-place.ensures.is),
)

pub returns : goal.returns
returns c =
    granted_so c.requires c.args.worker c.args.offset.0 c.args.now (omega arith) (open_passed (claim_table (view c.args.words.now) c.args.worker c.args.offset.0 c.args.now) c.in_ok-place.ensures.is)
    (grant_in c.grant_at-grant.result) c.grant_at-grant.new.table c.grant_at-grant.auto.table c.grant_at-grant.ensures (claim_of c.handed_out.result) c.handed_out.ensures
