-- A power failure in a step: the block being written is left old, new, or with a check that doesn't match; no
-- other block changes.
-- SPEC.md, "Lists".
use Rattle.std.specs.Prelude.{ℕ, Bool, false, cond, not, ◌&&◌, List, eqb, length}
use Rattle.std.proofs.Math.Option.{Option, none}
use Rattle.crc.specs.Seal.{is_sealed}
use Rattle.journal.specs.Area.{write_at}
use Rattle.checkpoint.specs.Checkpoint.{Writing, is_last, next_place, next_block}
use Rattle.machine.specs.Calls.{failed}
use Rattle.machine.specs.Transitions.{Phase, off, on_record, After, gives}

-- what a power failure leaves of the block being written: what it was, what it was to be, or bytes whose check fails
pub data Cut : Type 0 where
  old : Cut
  new : Cut
  torn : List ℕ → Cut

-- 512 bytes whose check fails
abbrev pub is_torn : List ℕ → Bool
is_torn b = eqb (length b) 512 && not (is_sealed b)

-- the step answers nothing, and nobody can be called until a restart
abbrev pub cut_at : Writing → List ℕ → Cut → Option After
cut_at w a old = gives (failed false) off a
cut_at w a new = gives (failed (is_last w)) off (write_at a (next_place w) (next_block w))
cut_at w a (torn b) = cond (is_torn b) (gives (failed false) off (write_at a (next_place w) b)) none

-- a step that is lent an area of another length is refused, so that no block is being written
abbrev pub cut_on : Writing → List ℕ → Cut → Option After
cut_on w a k = cond (eqb (length a) w.state.size) (cut_at w a k) none

-- the power fails in a step that is lent an area; `none`: no block is being written, or no failure leaves such bytes
abbrev pub power_cut : Phase → List ℕ → Cut → Option After
power_cut p a k = on_record p (λ w. cut_on w a k)
