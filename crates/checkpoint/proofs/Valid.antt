-- A begin keeps what holds of a state, and so does every step of what holds of a record; the last one gives a state back of which
-- the invariant holds. Assumes nothing.
use Prim.Native.Nat.{ℕ, ◌+◌, ◌≤◌}
use native.Mathlib.Omega.{arith}
use mathlib.Core.Path.{◌≡◌}
use mathlib.Core.List.{List}
use borrow.Author.Tests.{leb-false}
use Rattle.types.specs.Limits.{MAX32}
use Rattle.types.specs.Refusal.{done}
use Rattle.types.specs.Table.{Answer}
use Rattle.types.proofs.Cases.{split}
use Rattle.types.proofs.Table.{guarded_cases}
use Rattle.lease.proofs.Valid.{valid-flushed}
use Rattle.consumer.specs.State.{State}
use Rattle.consumer.specs.Valid.{Valid}
use Rattle.checkpoint.specs.Checkpoint.{bodies, zeros, flushed, Writing, begin, is_last, going, left_by, BlockWritten, Lent, lent, step_table, step}
use Rattle.checkpoint.specs.Valid.{ValidWriting, ValidLeft}
use Rattle.checkpoint.proofs.Open.{begin-says}
use Rattle.checkpoint.proofs.Places.{state-room}

-- ## A finished checkpoint
pub flushed-valid : (s : State) → s.next.number ≤ MAX32 → Valid s → Valid (flushed s)
flushed-valid s numbered v =
    record {
      cursor = v.cursor;
      table = valid-flushed s.table v.table;
      together = v.together;
      leased = v.leased;
      carried = v.carried;
      under-ceiling = omega (arith, v.table.generation-fits);
      ceiling-fits = omega arith;
      counter = omega arith;
      fits = v.fits;
      accepted = v.accepted;
      area = v.area;
      within = (state-room s v).group;
      numbered = omega (arith, numbered);
    }

-- ## The record, from begin through every step
pub begin-valid : (s : State) (w : ℕ) (r : Writing) → begin s w ≡ done r → Valid s → ValidWriting r
begin-valid s w r e v =
    let d = begin-says s w r e in
    rw (← d.1) (record { state = v; numbered = d.0.numbered; few = omega arith })

module _ (w : Writing) (v : ValidWriting w) where
  left-valid : ValidLeft (left_by w)
  left-valid =
      split (is_last w)
      (λ e. rw e (flushed-valid w.state v.numbered v.state))
      (λ e. rw e (record { state = v.state; numbered = v.numbered; few = omega (arith, leb-false (zeros w.state + bodies w.state) w.written e) }))

  pub step-valid : (a : List ℕ) → ValidLeft (step w a).state.left
  unfolding step
  step-valid a =
      guarded_cases (step_table w a) (lent (going w) a) _ (λ (r : Answer BlockWritten Lent). ValidLeft r.state.left) (λ r e. v) (λ p. left-valid)
