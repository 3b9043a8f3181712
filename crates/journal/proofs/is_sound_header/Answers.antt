-- `journal::is_sound_header` meets its contract: the form, the number and the fit are what it tests. Assumes nothing.
use native.Mathlib.Omega.{arith}
use mathlib.Core.Path.{◌≡◌, sym, ◌∙◌}
use Rattle.journal.specs.Blocks.{group_of}
use Rattle.journal.specs.Sound.{sound_header}
use Rattle.journal.proofs.Sound.{WellFormed, kind-says, but_fit-says, says-header, no_header}
use Rattle.journal.proofs.is_sound_header.Goals as goal
use Rattle.journal.proofs.is_sound_header.Goals.{Else-not-is_sound_but_fit}

pub returns-then-not-is_sound_but_fit : goal.returns-then-not-is_sound_but_fit
unfolding sound_header
returns-then-not-is_sound_but_fit c = rw (sym c.is_sound_but_fit.ensures ∙ c.if-not-is_sound_but_fit.true)

-- the block has the form of a header, and the number
sound : (c : Else-not-is_sound_but_fit) → WellFormed c.args.block.now × (group_of c.args.block.now ≡ c.args.number)
sound c = but_fit-says _ _ (sym c.is_sound_but_fit.ensures ∙ c.if-not-is_sound_but_fit.false)

pub returns-then-hi-at : goal.returns-then-hi-at
returns-then-hi-at c = no_header _ _ _ _ (λ h. omega (arith, h.fits))

pub bounds-block-1 : goal.bounds-block-1
bounds-block-1 c = omega (arith, (kind-says 1 _ (sound (goal.at.bounds-block-1 c).Else-not-is_sound_but_fit).0.head).whole)

pub returns-then-hi-at-2 : goal.returns-then-hi-at-2
returns-then-hi-at-2 c = no_header _ _ _ _ (λ h. omega (arith, h.fits))

pub returns : goal.returns
returns c =
    let n = sound (goal.at.returns c).Else-not-is_sound_but_fit in
    sym (says-header _ _ _ _ (record { form = n.0; number = n.1; fits = omega arith }))
