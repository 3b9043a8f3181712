-- `progress` meets its contract: after the token's test the table's answer is the consumer's. Assumes nothing.
use Prim.Native.Nat.{ℕ, ◌<◌}
use mathlib.Core.Path.{refl, sym, subst}
use mathlib.Core.List.{List}
use Rattle.cursor.proofs.Refusals.{err_is}
use Rattle.types.specs.Refused.{refusal_of}
use Rattle.lease.specs.Answers.{extend_of}
use Rattle.lease.specs.Layout.{table_in}
use Rattle.lease.proofs.InWords.{owned-low}
use Rattle.consumer.specs.Rights.{extending}
use Rattle.consumer.specs.Calls.{token_rows, attempt_of}
use Rattle.consumer.proofs.CallsToken.{first-refused, test-passed}
use Rattle.consumer_words.specs.Layout.{view}
use Rattle.consumer_words.proofs.State.{table-part, leases-sound, lent-table, progress-refused_so, progress_so}
use Rattle.consumer_words.proofs.in_words.progress.Goals as goal

pub returns-in_err-held : goal.returns-in_err-held
returns-in_err-held c =
    let h = c.in_err-held in
    rw (err_is c.from_residual.result h.field-0.0 c.from_residual.ensures.1)
    (progress-refused_so c.requires c.args.worker c.args.token.offset.0 c.args.token.generation.0 c.args.now (refusal_of h.field-0.0)
    (first-refused (token_rows (view c.args.words.now) c.args.worker extending c.args.token.offset.0 c.args.token.generation.0) (attempt_of (view c.args.words.now) c.args.token.offset.0) (refusal_of h.field-0.0) (h.ensures.is extending refl)))

pub extend_at-requires : goal.extend_at-requires
extend_at-requires c = (
  lent-table c.requires,
  subst (λ (x : List ℕ). c.in_ok-held.held.at < (table_in x).len) (sym (table-part c.args.words.now)) (owned-low (leases-sound c.requires) c.args.token.offset.0 c.args.token.generation.0 c.in_ok-held.ensures.at refl),
)

pub returns : goal.returns
returns c =
    progress_so c.requires c.args.worker c.args.token.offset.0 c.args.token.generation.0 c.args.now (test-passed (token_rows (view c.args.words.now) c.args.worker extending c.args.token.offset.0 c.args.token.generation.0) _ (attempt_of (view c.args.words.now) c.args.token.offset.0) (c.in_ok-held.ensures.is extending refl)).0 c.in_ok-held.ensures.at
    (extend_of c.extend_at.result) c.extend_at.new.table c.extend_at.auto.table c.extend_at.ensures
