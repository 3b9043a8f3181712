-- `journal::bodies_at` meets its contract. The invariant: the bodies before j are sound, so the first unsound one of
-- all is the first of those that are left. Assumes nothing.
use native.Mathlib.Omega.{arith}
use Rattle.journal.proofs.Walker.{scan_more, scan_unsound}
use Rattle.journal.proofs.bodies_at.Goals as goal

pub returns-then-not-is_sound_body : goal.returns-then-not-is_sound_body
returns-then-not-is_sound_body c =
    scan_unsound _ _ _ _ _ _ c.loop-j.invariant _ _
    (omega arith)
    c.used_in-used.ensures
    c.is_sound_body.ensures
    c.if-not-is_sound_body.true

pub loop-j-preserved : goal.loop-j-preserved
loop-j-preserved c =
    scan_more _ _ _ _ _ _ c.loop-j.invariant _ _
    (omega arith)
    c.used_in-used.ensures
    c.is_sound_body.ensures
    c.if-not-is_sound_body.false
