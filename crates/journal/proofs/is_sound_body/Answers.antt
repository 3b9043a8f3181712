-- `journal::is_sound_body` meets its contract: each test is one part of a sound body. Assumes nothing.
use native.Mathlib.Omega.{arith}
use mathlib.Core.Path.{◌≡◌, sym, ◌∙◌}
use mathlib.Core.Bool.{true}
use Rattle.journal.specs.Sound.{is_kind}
use Rattle.journal.proofs.Sound.{kind-says, body-test, no_body, differ}
use Rattle.journal.proofs.is_sound_body.Goals as goal
use Rattle.journal.proofs.is_sound_body.Goals.{Else-not-is_kind}

pub returns-then-not-is_kind : goal.returns-then-not-is_kind
returns-then-not-is_kind c = no_body _ _ _ _ (λ b. differ b.kind (sym c.is_kind.ensures ∙ c.if-not-is_kind.true))

kind : (c : Else-not-is_kind) → is_kind 2 c.args.block.now ≡ true
kind c = sym c.is_kind.ensures ∙ c.if-not-is_kind.false

pub returns-then-owner-number : goal.returns-then-owner-number
returns-then-owner-number c = no_body _ _ _ _ (λ b. c.if-owner-number.true (c.read_u32-owner.ensures ∙ b.number))

pub bounds-block-1 : goal.bounds-block-1
bounds-block-1 c = omega (arith, (kind-says 2 _ (kind (goal.at.bounds-block-1 c).Else-not-is_kind)).whole)

pub returns-then-block-index : goal.returns-then-block-index
returns-then-block-index c = no_body _ _ _ _ (λ b. c.if-block-index.true b.index)

pub returns-then-bytes-used : goal.returns-then-bytes-used
returns-then-bytes-used c = no_body _ _ _ _ (λ b. c.if-bytes-used.true (c.read_u16-bytes.ensures ∙ b.bytes))

pub slice_bounds-all_zero-end : goal.slice_bounds-all_zero-end
slice_bounds-all_zero-end c =
    omega (arith, (kind-says 2 _ (kind (goal.at.slice_bounds-all_zero-end c).Else-not-is_kind)).whole)

pub returns : goal.returns
returns c =
    c.all_zero.ensures
    ∙ body-test _ _ _ _ _ c.min-from.ensures (kind (goal.at.returns c).Else-not-is_kind)
    (sym c.read_u32-owner.ensures ∙ c.if-owner-number.false)
    c.if-block-index.false
    (sym c.read_u16-bytes.ensures ∙ c.if-bytes-used.false)
