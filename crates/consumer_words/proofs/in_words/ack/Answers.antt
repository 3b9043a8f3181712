-- `ack` meets its contract: after the token's test, the cursor has no room, or the cursor and then the table are changed. Assumes nothing.
use Prim.Native.Nat.{ℕ, ◌<◌}
use mathlib.Core.Path.{refl, sym, subst, ◌∙◌}
use mathlib.Core.List.{List}
use Rattle.cursor.proofs.Refusals.{err_is}
use Rattle.types.specs.Refused.{refusal_of}
use Rattle.cursor.specs.Answers.{ack_of}
use Rattle.lease.specs.Layout.{table_in}
use Rattle.lease.proofs.InWords.{owned-low}
use Rattle.consumer.specs.Rights.{settling}
use Rattle.consumer.specs.Calls.{token_rows, attempt_of}
use Rattle.consumer.proofs.CallsToken.{first-refused, test-passed}
use Rattle.consumer_words.specs.Layout.{view}
use Rattle.consumer_words.proofs.State.{lent-cursor, leases-sound, token-refused_so, shed_so, table_kept, table-sound, settled_so}
use Rattle.consumer_words.proofs.in_words.ack.Goals as goal

pub returns-in_err-held : goal.returns-in_err-held
returns-in_err-held c =
    let h = c.in_err-held in
    rw (err_is c.from_residual.result h.field-0.0 c.from_residual.ensures.1)
    (token-refused_so c.requires c.args.worker c.args.token.offset.0 c.args.token.generation.0 (refusal_of h.field-0.0)
    (first-refused (token_rows (view c.args.words.now) c.args.worker settling c.args.token.offset.0 c.args.token.generation.0) (attempt_of (view c.args.words.now) c.args.token.offset.0) (refusal_of h.field-0.0) (h.ensures.is settling refl)))

pub ack_bounded-outcome-requires : goal.ack_bounded-outcome-requires
ack_bounded-outcome-requires c = lent-cursor c.requires

pub returns-then-is_shed : goal.returns-then-is_shed
returns-then-is_shed c =
    shed_so c.requires c.args.worker c.args.token.offset.0 c.args.token.generation.0 (test-passed (token_rows (view c.args.words.now) c.args.worker settling c.args.token.offset.0 c.args.token.generation.0) _ (attempt_of (view c.args.words.now) c.args.token.offset.0) (c.in_ok-held.ensures.is settling refl)).0 (ack_of c.ack_bounded-outcome.result)
    c.ack_bounded-outcome.new.cursor c.ack_bounded-outcome.auto.cursor c.ack_bounded-outcome.ensures (sym c.is_shed.ensures ∙ c.if-is_shed.true)

pub ack_at-requires : goal.ack_at-requires
ack_at-requires c =
    let k = c.ack_bounded-outcome in (
      table-sound c.requires k.new.cursor k.auto.cursor,
      subst (λ (x : List ℕ). c.in_ok-held.held.at < (table_in x).len) (sym (table_kept c.requires k.new.cursor k.auto.cursor))
          (owned-low (leases-sound c.requires) c.args.token.offset.0 c.args.token.generation.0 c.in_ok-held.ensures.at refl),
    )

pub returns : goal.returns
returns c =
    settled_so c.requires c.args.worker c.args.token.offset.0 c.args.token.generation.0 (test-passed (token_rows (view c.args.words.now) c.args.worker settling c.args.token.offset.0 c.args.token.generation.0) _ (attempt_of (view c.args.words.now) c.args.token.offset.0) (c.in_ok-held.ensures.is settling refl)).0 (ack_of c.ack_bounded-outcome.result)
    c.ack_bounded-outcome.new.cursor c.ack_bounded-outcome.auto.cursor c.ack_bounded-outcome.ensures (sym c.is_shed.ensures ∙ c.if-is_shed.false) c.in_ok-held.ensures.at
    c.ack_at.new.table c.ack_at.auto.table c.ack_at.ensures
