-- `nack_delay` meets its contract. Assumes nothing.
use Prim.Native.Nat.{ℕ, ◌+◌, ◌-◌, ◌≤◌}
use Rattle.std.proofs.Math.Nat.{add-sub_cancel_left}
use Rattle.std.proofs.lemmas.List.{take-take}
use mathlib.Core.Path.{◌≡◌, sym, ap, ◌∙◌}
use mathlib.Core.List.{List}
use lib.ListN.{take, drop}
use Rattle.types.specs.Limits.{STEPS, sat64}
use Rattle.words.specs.Columns.{word, column}
use Rattle.words.proofs.Columns.{column-is}
use Rattle.delivery.specs.Config.{delay_of}
use Rattle.delivery.specs.Policy.{capped_delay}
use Rattle.hours.specs.Hours.{next_opening}
use Rattle.hours.specs.View as hours
use Rattle.hours.specs.declared.Hours.{Hours}
use Rattle.lease.specs.Layout as lease
use Rattle.lease.specs.declared.LeaseConfig.{LeaseConfig}
use Rattle.consumer.specs.Calls.{nack_delay}
use Rattle.consumer_words.specs.Layout.{BACKOFF-LEN, BACKOFFS, view}
use Rattle.consumer_words.proofs.State.{table-part, lent-table}
use Rattle.consumer_words.proofs.steps.nack_delay.Goals as goal

-- the backoffs that are lent are those in use
lent : (w : List ℕ) → word BACKOFF-LEN w ≤ STEPS → take (BACKOFFS + word BACKOFF-LEN w - BACKOFFS) (drop BACKOFFS w) ≡ take (word BACKOFF-LEN w) (column BACKOFFS STEPS w)
lent w h =
    rw (add-sub_cancel_left BACKOFFS (word BACKOFF-LEN w), ← column-is BACKOFFS STEPS w) (sym (take-take (word BACKOFF-LEN w) STEPS (drop BACKOFFS w) h))

pub config-config-requires : goal.config-config-requires
config-config-requires c = lent-table c.requires

pub returns : goal.returns
returns c o e =
    let w = c.args.words.now in
    let a = c.args.attempt in
    let x = delay_of c.args.delay in
    -- the delay before the hours
    let capped : c.nack_delay-capped_nanos.result ≡ nack_delay (view w) o x =
    c.nack_delay-capped_nanos.ensures
    ∙ ap (λ (l : List ℕ). capped_delay l a x c.config-config.result.hard_cap_nanos) (lent w c.requires.state.settings.delivery.few)
    ∙ ap (λ (k : LeaseConfig). capped_delay (view w).settings.policy.backoff a x k.hard_cap_nanos) (c.config-config.ensures ∙ ap (λ (t : List ℕ). (lease.view t).config) (table-part w))
    ∙ ap (λ (i : ℕ). capped_delay (view w).settings.policy.backoff i x (view w).table.config.hard_cap_nanos) e in
    c.delay_in_hours.ensures
    ∙ ap (λ (y : Hours). next_opening (hours.view y) (sat64 c.args.now c.nack_delay-capped_nanos.result)) c.hours_of.ensures
    ∙ ap (λ (m : ℕ). next_opening (view w).settings.hours (sat64 c.args.now m)) capped
