-- What holds of every state that a start, a restart on any area and every answer give: the invariant that the consumer's contracts
-- require.
-- SPEC.md, "State".
use Rattle.std.specs.Prelude.{ℕ, suc, ◌+◌, ◌≤◌, ◌<◌, ◌≡◌, false, not, ◌&&◌, List, length}
use Rattle.std.proofs.Math.Option.{none, some}
use Rattle.types.specs.Limits.{MAX, MAX32, CARRIED, STEPS}
use Rattle.types.specs.Table.{Passed}
use Rattle.types.specs.Keyed.{Entry, lookup}
use Rattle.cursor.specs.Cursor.{Cursor, settled}
use Rattle.cursor.specs.Cursor as cursor
use Rattle.delivery.specs.Policy.{unlimited}
use Rattle.hours.specs.Hours.{hours_rows}
use Rattle.lease.specs.declared.Lease.{Lease}
use Rattle.lease.specs.State as lease
use Rattle.consumer.specs.State.{Settings, State, bad_area, blocks_of}

-- settings whose numbers are of their types
pub record Fits (s : Settings) : Type 0 where
  pub limit-fits : s.policy.maxDeliver ≤ MAX32
  pub threshold-fits : s.policy.flush_redeliveries ≤ MAX32

-- settings that a start accepts: 1, 2, 3, 33 and 34
pub record Accepted (s : Settings) : Type 0 where
  pub limited : (unlimited s.policy.maxDeliver && not s.policy.allowUnlimited) ≡ false
  pub few-steps : length s.policy.backoff ≤ STEPS
  pub some-threshold : 0 < s.policy.flush_redeliveries
  pub hours : Passed (hours_rows s.hours)

-- an offset with a lease, beside a cursor and carried counts: it is below MAX, unsettled, and has no carried count
pub record Leased (c : Cursor) (carried : List (Entry ℕ)) (o : ℕ) : Type 0 where
  pub below : o < MAX
  pub unsettled : settled c o ≡ false
  pub alone : lookup o carried ≡ none

pub record Valid (s : State) : Type 0 where
  pub cursor : cursor.Valid s.cursor
  pub table : lease.Valid s.table
  pub together : length s.table.leases + length s.table.carried ≤ CARRIED
  pub leased : (o : ℕ) (l : Lease) → lookup o s.table.leases ≡ some l → Leased s.cursor s.table.carried o
  -- a carried count is of an unsettled offset; a foreign journal may have one for MAX
  pub carried : (o n : ℕ) → lookup o s.table.carried ≡ some n → settled s.cursor o ≡ false
  pub under-ceiling : s.table.next_generation ≤ s.ceiling
  pub ceiling-fits : s.ceiling ≤ MAX
  pub counter : s.table.redeliveries ≤ s.settings.policy.flush_redeliveries
  pub fits : Fits s.settings
  pub accepted : Accepted s.settings
  pub area : bad_area s.size ≡ false
  pub within : s.next.block ≤ blocks_of s
  -- behind the last group number that there is
  pub numbered : s.next.number ≤ suc MAX32
