-- `nack` meets its contract: the token's test, 25 and 26 in their order, then the effect. Assumes nothing.
use Prim.Native.Nat.{ℕ, ◌<◌}
use mathlib.Core.Path.{◌≡◌, refl, sym, subst, ◌∙◌}
use mathlib.Core.Bool.{false}
use mathlib.Core.List.{List}
use lib.Dec.{eqb}
use borrow.Author.Tests.{eqb-true, eqb-false, leb-true, leb-false}
use Rattle.cursor.proofs.Refusals.{err_is}
use Rattle.types.specs.Limits.{MAX}
use Rattle.types.specs.Refused.{refusal_of}
use Rattle.delivery.specs.Config.{delay_of}
use Rattle.lease.specs.Layout.{table_in}
use Rattle.lease.specs.Layout as lease
use Rattle.lease.proofs.InWords.{owned-low}
use Rattle.consumer.specs.Rights.{nacking}
use Rattle.consumer.specs.Calls.{token_rows, attempt_of}
use Rattle.consumer.proofs.CallsToken.{first-refused, test-passed}
use Rattle.consumer_words.specs.Layout.{view}
use Rattle.consumer_words.proofs.State.{table-part, leases-sound, lent-table, nack-refused_so, exhausted_so, due_so, requeued_so}
use Rattle.consumer_words.proofs.in_words.nack.Goals as goal

pub returns-in_err-held : goal.returns-in_err-held
returns-in_err-held c =
    let h = c.in_err-held in
    rw (err_is c.from_residual.result h.field-0.0 c.from_residual.ensures.1)
    (nack-refused_so c.requires c.args.worker c.args.token.offset.0 c.args.token.generation.0 c.args.now (delay_of c.args.delay) (refusal_of h.field-0.0)
    (first-refused (token_rows (view c.args.words.now) c.args.worker nacking c.args.token.offset.0 c.args.token.generation.0) (attempt_of (view c.args.words.now) c.args.token.offset.0) (refusal_of h.field-0.0) (h.ensures.is nacking refl)))

pub returns-then-is_exhausted : goal.returns-then-is_exhausted
returns-then-is_exhausted c =
    exhausted_so c.requires c.args.worker c.args.token.offset.0 c.args.token.generation.0 c.args.now (delay_of c.args.delay) (test-passed (token_rows (view c.args.words.now) c.args.worker nacking c.args.token.offset.0 c.args.token.generation.0) _ (attempt_of (view c.args.words.now) c.args.token.offset.0) (c.in_ok-held.ensures.is nacking refl)).0
    (eqb-true _ MAX (sym c.is_exhausted.ensures ∙ c.if-is_exhausted.true))

pub returns-then-is_at_ceiling : goal.returns-then-is_at_ceiling
returns-then-is_at_ceiling c =
    due_so c.requires c.args.worker c.args.token.offset.0 c.args.token.generation.0 c.args.now (delay_of c.args.delay) (test-passed (token_rows (view c.args.words.now) c.args.worker nacking c.args.token.offset.0 c.args.token.generation.0) _ (attempt_of (view c.args.words.now) c.args.token.offset.0) (c.in_ok-held.ensures.is nacking refl)).0
    (eqb-false _ MAX (sym c.is_exhausted.ensures ∙ c.if-is_exhausted.false)) (leb-true _ _ (sym c.is_at_ceiling.ensures ∙ c.if-is_at_ceiling.true))

pub requeue_at-deadline-requires : goal.requeue_at-deadline-requires
requeue_at-deadline-requires c = (
  lent-table c.requires,
  subst (λ (x : List ℕ). c.in_ok-held.held.at < (table_in x).len) (sym (table-part c.args.words.now)) (owned-low (leases-sound c.requires) c.args.token.offset.0 c.args.token.generation.0 c.in_ok-held.ensures.at refl),
  subst (λ (x : List ℕ). eqb (lease.view x).next_generation MAX ≡ false) (sym (table-part c.args.words.now)) (sym c.is_exhausted.ensures ∙ c.if-is_exhausted.false),
)

pub returns : goal.returns
returns c =
    let t = (test-passed (token_rows (view c.args.words.now) c.args.worker nacking c.args.token.offset.0 c.args.token.generation.0) _ (attempt_of (view c.args.words.now) c.args.token.offset.0) (c.in_ok-held.ensures.is nacking refl)) in
    requeued_so c.requires c.args.worker c.args.token.offset.0 c.args.token.generation.0 c.args.now (delay_of c.args.delay) t.0
    (eqb-false _ MAX (sym c.is_exhausted.ensures ∙ c.if-is_exhausted.false)) (leb-false _ _ (sym c.is_at_ceiling.ensures ∙ c.if-is_at_ceiling.false)) c.in_ok-held.ensures.at
    c.nack_delay-wait.result (c.nack_delay-wait.ensures c.args.token.offset.0 t.1) c.requeue_at-deadline.result c.requeue_at-deadline.new.table c.requeue_at-deadline.auto.table c.requeue_at-deadline.ensures
