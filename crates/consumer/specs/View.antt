-- What the code's consumer and its answers stand for, the invariant of the struct, and the parts of the contracts.
-- SPEC.md, "State".
use Rattle.std.specs.Prelude.{ℕ, ◌≡◌, Bool, true, false, Ok, Err, List, ◌∷◌, ◌++◌, take}
use Rattle.std.specs.Prelude as std
use Rattle.std.proofs.Math.Option.{Option, none, some}
use Rattle.types.specs.Refusal.{Refusal, Result, refused, done}
use Rattle.types.specs.Refused.{refusal_of, result_of, as_is}
use Rattle.types.specs.declared.refusals.Refusal as code_refusal
use Rattle.types.specs.Table.{Answer, answer, Kept}
use Rattle.cursor.specs.View as cursor
use Rattle.cursor.specs.declared.AckCursor.{AckCursor}
use Rattle.delivery.specs.Config as delivery
use Rattle.delivery.specs.Policy.{Destination, Deliver, DeadLetter}
use Rattle.delivery.specs.declared.Disposition.{Disposition}
use Rattle.delivery.specs.declared.Disposition.TheVariants as dispositions
use Rattle.hours.specs.View as hours
use Rattle.lease.specs.State as lease
use Rattle.lease.specs.declared.LeaseTable.{LeaseTable}
use Rattle.tables.specs.declared.Place.{Place}
use Rattle.consumer.specs.State.{State, state_of, next_group_at}
use Rattle.consumer.specs.State as state
use Rattle.consumer.specs.Calls.{HandOut}
use Rattle.consumer.specs.Standing.{Standing, View, bare}
use Rattle.consumer.specs.Standing as standing
use Rattle.consumer.specs.Export.{Snapshots}
use Rattle.consumer.specs.Valid.{Valid}
use Rattle.consumer.specs.declared.Settings.{Settings}
use Rattle.consumer.specs.declared.Consumer.{Consumer}
use Rattle.consumer.specs.declared.calls.HandOut as code_claim
use Rattle.consumer.specs.declared.snapshots.Lengths.{Lengths}
use Rattle.consumer.specs.declared.views.Standing as code-standing
use Rattle.consumer.specs.declared.views.Standing.TheVariants as standings
use Rattle.consumer.specs.declared.views.View as code_view
use Rattle.consumer.specs.declared.views.View.TheVariants as views

abbrev pub settings_of : Settings → state.Settings
settings_of s = record { policy = delivery.view s.delivery; rights = s.rights; hours = hours.view s.hours }

abbrev pub view : Consumer → State
view c =
    state_of (cursor.view c.cursor) (lease.view c.table) c.ceiling.0 (next_group_at c.next.number c.next.block)
    c.area_len (settings_of c.settings)

-- the arrays of the settings have room for what they count
pub record SoundSettings (s : Settings) : Type 0 where
  pub delivery : delivery.Sound s.delivery

pub record Sound (c : Consumer) : Type 0 where
  pub cursor : cursor.Sound c.cursor
  pub table : lease.Sound c.table
  pub settings : SoundSettings c.settings
  pub valid : Valid (view c)

-- a call: answer and state are the definition's, and a refusal gives back the very struct
pub record Answers {A : Type 0} (outcome : Result A) (before after : Consumer) (right : Answer A State) : Type 0 where
  pub is : answer outcome (view after) ≡ right
  pub sound : Sound after
  pub kept : Kept outcome before after

-- a commit: where it moves nothing, it gives back the very struct too
abbrev pub Unmoved : {T : Type 0} → Result Bool → T → T → Type 0
Unmoved (refused r) before after = after ≡ before
Unmoved (done true) before after = Unit {0}
Unmoved (done false) before after = after ≡ before

pub record Commits (outcome : Result Bool) (before after : Consumer) (right : Answer Bool State) : Type 0 where
  pub is : answer outcome (view after) ≡ right
  pub sound : Sound after
  pub kept : Unmoved outcome before after

-- the struct with another table, and with another cursor and another table
abbrev pub holding_both : Consumer → AckCursor → LeaseTable → Consumer
holding_both c cursor table =
    record {
      cursor = cursor;
      table = table;
      ceiling = c.ceiling;
      next = c.next;
      area_len = c.area_len;
      settings = c.settings;
    }

abbrev pub holding : Consumer → LeaseTable → Consumer
holding c table = holding_both c c.cursor table

-- ## the answers
-- what a result is refused with, if it is
abbrev pub refusal_in : {T : Type 0} → std.Result T code_refusal.Refusal → Option Refusal
refusal_in (Ok x) = none
refusal_in (Err r) = some (refusal_of r)

-- a permission, and the test of a claim: nothing, or what the call is refused with
abbrev pub permission_of : std.Result (Unit {0}) code_refusal.Refusal → Option Refusal
permission_of = refusal_in

abbrev pub test_of : std.Result Place code_refusal.Refusal → Option Refusal
test_of = refusal_in

abbrev pub destination_of : Disposition → Destination
destination_of dispositions.Deliver = Deliver
destination_of dispositions.DeadLetter = DeadLetter

abbrev pub hand_out_of : code_claim.HandOut → HandOut
hand_out_of h =
    record {
      offset = h.token.offset.0;
      generation = h.token.generation.0;
      deliveries = h.deliveries;
      destination = destination_of h.disposition;
    }

abbrev pub claim_of : std.Result code_claim.HandOut code_refusal.Refusal → Result HandOut
claim_of = result_of hand_out_of

abbrev pub settle_of : std.Result (Unit {0}) code_refusal.Refusal → Result (Unit {0})
settle_of = as_is

abbrev pub nack_of : std.Result ℕ code_refusal.Refusal → Result ℕ
nack_of = as_is

abbrev pub progress_of : std.Result ℕ code_refusal.Refusal → Result ℕ
progress_of = as_is

abbrev pub commit_of : std.Result Bool code_refusal.Refusal → Result Bool
commit_of = as_is

-- the waiting list: how many places were filled
abbrev pub waiting_of : std.Result ℕ code_refusal.Refusal → Result ℕ
waiting_of = as_is

-- a plan: the number of looks, and behind it what stands in the lent byte list
abbrev pub plan_of : std.Result ℕ code_refusal.Refusal → List ℕ → Result (List ℕ)
plan_of r out = result_of (λ n. n ∷ out) r

-- an export: how long both snapshots are, and the bytes of both, which stand at the front of the lent lists
abbrev pub exported_by : Snapshots → Lengths → List ℕ
exported_by out l = l.cursor_len ∷ l.attempt_len ∷ (take l.cursor_len out.cursor ++ take l.attempt_len out.attempts)

abbrev pub export_of : std.Result Lengths code_refusal.Refusal → Snapshots → Result (List ℕ)
export_of r out = result_of (exported_by out) r

-- what is shown of an offset
abbrev pub standing_in : code-standing.Standing → Standing
standing_in standings.Settled = standing.Settled
standing_in standings.Held = standing.Held
standing_in standings.Waiting = standing.Waiting

abbrev pub view_in : code_view.View → View
view_in (views.Plain x) = bare (standing_in x)
view_in (views.Unleased n) =
    record { standing = standing.Waiting; attempts = some n; generation = none; deadline = none; holder = none }
view_in (views.Leased x l) =
    record {
      standing = standing_in x;
      attempts = some l.attempts;
      generation = some l.generation.0;
      deadline = some l.deadline;
      holder = some l.holder;
    }
