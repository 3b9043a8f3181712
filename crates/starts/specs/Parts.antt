-- The parts of a consumer as a restart and an import in place are lent and leave them, and the state and the consumers that have them.
-- SPEC.md, "Restart".
use Rattle.std.specs.Prelude.{ℕ, ◌≤◌, ◌≡◌, List, length, take, Ok, Err}
use Rattle.std.specs.Prelude as std
use Rattle.types.specs.Limits.{LEASES, CARRIED}
use Rattle.types.specs.Refusal.{Result}
use Rattle.types.specs.Refused.{result_of, as_is}
use Rattle.types.specs.Table.{Kept}
use Rattle.types.specs.declared.refusals.Refusal.{Refusal}
use Rattle.types.specs.Keyed.{Entry, entries}
use Rattle.tables.specs.Slots.{Permutes}
use Rattle.cursor.specs.View.{ack_cursor}
use Rattle.cursor.specs.View as cursor
use Rattle.cursor.specs.declared.AckCursor.{AckCursor}
use Rattle.lease.specs.Parts.{gathered}
use Rattle.lease.specs.declared.LeaseConfig.{LeaseConfig}
use Rattle.lease.specs.declared.LeaseTable.{LeaseTable}
use Rattle.consumer.specs.State.{State, next_group_at}
use Rattle.consumer.specs.State as state
use Rattle.consumer.specs.View.{view, Sound}
use Rattle.consumer.specs.declared.Configuration.{Configuration}
use Rattle.consumer.specs.declared.Consumer.{Consumer}
use Rattle.starts.specs.Restart.{resumed, restart}
use Rattle.starts.specs.Import.{import}
use Rattle.starts.specs.Starting.{configuration_of}
use Rattle.starts.specs.declared.in_place.RestartedAt.{RestartedAt}

-- the numbers of a fresh consumer
abbrev pub fresh_numbers : RestartedAt
fresh_numbers = record { committed = 0; runs = 0; carried_len = 0; ceiling = 0; number = 1; block = 0 }

-- the columns that are lent: of the ranges, and of the carried counts
pub record Columns : Type 0 where
  pub starts : List ℕ
  pub ends : List ℕ
  pub offsets : List ℕ
  pub counts : List ℕ

abbrev pub columns : (starts ends offsets counts : List ℕ) → Columns
columns starts ends offsets counts = record { starts = starts; ends = ends; offsets = offsets; counts = counts }

-- they have their lengths, which a lent array does not show
pub record Long (c : Columns) : Type 0 where
  pub starts : length c.starts ≡ 128
  pub ends : length c.ends ≡ 128
  pub offsets : length c.offsets ≡ 128
  pub counts : length c.counts ≡ 128

-- the cursor, the counts and the state of these numbers and columns
abbrev pub cursor_by : RestartedAt → Columns → AckCursor
cursor_by r c = ack_cursor r.committed c.starts c.ends r.runs

abbrev pub counts_by : RestartedAt → Columns → List (Entry ℕ)
counts_by r c = entries (take r.carried_len c.offsets) (take r.carried_len c.counts)

abbrev pub state_by : state.Configuration → ℕ → RestartedAt → Columns → State
state_by k size r c =
    resumed k size (cursor.view (cursor_by r c)) (counts_by r c) r.ceiling (next_group_at r.number r.block)

-- a refusal keeps the columns
abbrev pub KeptColumns : std.Result RestartedAt Refusal → Columns → Columns → Type 0
KeptColumns r before after = Kept (as_is r) before after

-- what holds of the numbers where nothing is refused
abbrev pub OnNumbers : (RestartedAt → Type 0) → std.Result RestartedAt Refusal → Type 0
OnNumbers f (Ok n) = f n
OnNumbers f (Err r) = Unit {0}

-- the numbers and columns are within their measures
pub record Measured (c : Columns) (n : RestartedAt) : Type 0 where
  pub cursor : cursor.Sound (cursor_by n c)
  pub few : n.carried_len ≤ CARRIED

-- what was read, of an area of so many bytes, under whatever configuration
pub record ReadIs (right : state.Configuration → Result State) (size : ℕ) (r : std.Result RestartedAt Refusal) (before after : Columns) : Type 0 where
  pub is : (k : state.Configuration) → result_of (λ n. state_by k size n after) r ≡ right k
  pub measured : OnNumbers (Measured after) r
  pub kept : KeptColumns r before after

-- a table that carries these counts, whose generations begin at the ceiling: no lease is out, whatever the columns of the leases hold
abbrev pub carrying_on : LeaseConfig → (ceiling : ℕ) (offsets counts : List ℕ) (len : ℕ) → LeaseTable → LeaseTable
carrying_on c ceiling offsets counts n t =
    gathered c 0 n ceiling 0 t.offsets t.slots t.generations t.attempt_starts t.deadlines t.deliveries t.workers offsets counts

-- a consumer with these numbers and columns in their places
abbrev pub going_on : Configuration → ℕ → RestartedAt → Columns → Consumer → Consumer
going_on s size r p c =
    record {
      cursor = cursor_by r p;
      table = carrying_on s.lease r.ceiling p.offsets p.counts r.carried_len c.table;
      ceiling = record { 0 = r.ceiling };
      next = record { number = r.number; block = r.block };
      area_len = size;
      settings = s.settings;
    }

-- a consumer that goes on, or a refusal: every such consumer is the definition's, and sound where nothing is refused and its slots are slots
pub record ResumedIn (right : Result State) (s : Configuration) (size : ℕ) (r : std.Result RestartedAt Refusal) (before after : Columns) : Type 0 where
  pub is : (c : Consumer) → result_of (λ n. view (going_on s size n after c)) r ≡ right
  pub sound : (c : Consumer) → Permutes LEASES c.table.slots → OnNumbers (λ n. Sound (going_on s size n after c)) r
  pub kept : KeptColumns r before after

-- a restart, and an import
abbrev pub RestartedIn : Configuration → (area : List ℕ) → std.Result RestartedAt Refusal → (before after : Columns) → Type 0
RestartedIn s a r before after = ResumedIn (restart (configuration_of s) a) s (length a) r before after

abbrev pub ImportedIn : Configuration → (size first : ℕ) (cursor attempts : List ℕ) → std.Result RestartedAt Refusal → (before after : Columns) → Type 0
ImportedIn s size first cb ab r before after = ResumedIn (import (configuration_of s) size first cb ab) s size r before after
