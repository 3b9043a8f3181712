-- How long the payload of a checkpoint is, and how many bodies it takes: within the measures of a header. Assumes nothing.
use Prim.Native.Nat.{◌+◌, ◌≤◌}
use native.Mathlib.Omega.{arith}
use mathlib.Core.Path.{◌≡◌}
use lib.ListN.{length, length-append}
use Rattle.cursor.proofs.Snapshot.{cursor-length}
use Rattle.attempt.proofs.Snapshot.{attempts-length}
use Rattle.lease.specs.Counts.{all_attempt_counts}
use Rattle.consumer.specs.State.{State}
use Rattle.consumer.specs.Valid.{Valid}
use Rattle.consumer.proofs.Counts.{counts-few}
use Rattle.checkpoint.specs.Checkpoint.{cursor_bytes, attempt_bytes, payload_of, bodies}

pub record PayloadFits (s : State) : Type 0 where
  pub cursor-low : 13 ≤ length (cursor_bytes s)
  pub cursor_high : length (cursor_bytes s) ≤ 2061
  pub attempt_low : 9 ≤ length (attempt_bytes s)
  pub attempt_high : length (attempt_bytes s) ≤ 1545
  pub total : length (payload_of s) ≡ length (cursor_bytes s) + length (attempt_bytes s)
  pub some-body : 1 ≤ bodies s
  pub few-bodies : bodies s ≤ 8

pub payload-fits : (s : State) → Valid s → PayloadFits s
payload-fits s v =
    let lc = cursor-length s.cursor in
    let la = attempts-length 2 (all_attempt_counts s.table) in
    let total = length-append (cursor_bytes s) (attempt_bytes s) in
    let few = counts-few s v in
    record {
      cursor-low = omega arith;
      cursor_high = omega (arith, v.cursor.few);
      attempt_low = omega arith;
      attempt_high = omega arith;
      total = total;
      some-body = omega arith;
      few-bodies = omega (arith, v.cursor.few);
    }
