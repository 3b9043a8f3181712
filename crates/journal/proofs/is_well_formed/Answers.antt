-- `journal::is_well_formed` meets its contract: each test is one part of the form. Assumes nothing.
use native.Mathlib.Omega.{arith}
use mathlib.Core.Path.{◌≡◌, sym, ◌∙◌}
use mathlib.Core.Bool.{true}
use lib.ListN.{length}
use Rattle.journal.specs.Blocks.{bodies_for, payload_length}
use Rattle.journal.specs.Sound.{has_header_kind}
use Rattle.journal.proofs.Sound.{kind-says, says_well_formed, no-form, count-read, differ}
use Rattle.journal.proofs.is_well_formed.Goals as goal
use Rattle.journal.proofs.is_well_formed.Goals.{After-bodies_for-bodies, Else-not-is_head}

pub returns-then-not-is_head : goal.returns-then-not-is_head
returns-then-not-is_head c = no-form _ (λ f. differ f.head (sym c.is_head.ensures ∙ c.if-not-is_head.true))

head : (c : Else-not-is_head) → has_header_kind c.args.block.now ≡ true
head c = sym c.is_head.ensures ∙ c.if-not-is_head.false

whole : (c : Else-not-is_head) → length c.args.block.now ≡ 512
whole c = (kind-says 1 _ (head c)).whole

pub slice_bounds-all_zero-end : goal.slice_bounds-all_zero-end
slice_bounds-all_zero-end c = omega (arith, whole (goal.at.slice_bounds-all_zero-end c).Else-not-is_head)

pub returns-then-not-all_zero : goal.returns-then-not-all_zero
returns-then-not-all_zero c = no-form _ (λ f. differ f.zeros (sym c.all_zero.ensures ∙ c.if-not-all_zero.true))

pub slice_bounds-all_zero-end-2 : goal.slice_bounds-all_zero-end-2
slice_bounds-all_zero-end-2 c = omega (arith, whole (goal.at.slice_bounds-all_zero-end-2 c).Else-not-is_head)

pub returns-then-not-all_zero-2 : goal.returns-then-not-all_zero-2
returns-then-not-all_zero-2 c = no-form _ (λ f. differ f.rest (sym c.all_zero-2.ensures ∙ c.if-not-all_zero-2.true))

pub returns-then-cursor_len-lt13 : goal.returns-then-cursor_len-lt13
returns-then-cursor_len-lt13 c = no-form _ (λ f. omega (arith, f.lengths.cursor-low, c.read_u16-cursor_len.ensures))

pub returns-then-cursor_len-gt2061 : goal.returns-then-cursor_len-gt2061
returns-then-cursor_len-gt2061 c = no-form _ (λ f. omega (arith, f.lengths.cursor_high, c.read_u16-cursor_len.ensures))

pub returns-then-attempt_len-lt9 : goal.returns-then-attempt_len-lt9
returns-then-attempt_len-lt9 c = no-form _ (λ f. omega (arith, f.lengths.attempt_low, c.read_u16-attempt_len.ensures))

pub returns-then-attempt_len-gt1545 : goal.returns-then-attempt_len-gt1545
returns-then-attempt_len-gt1545 c = no-form _ (λ f. omega (arith, f.lengths.attempt_high, c.read_u16-attempt_len.ensures))

-- the count that was worked out
counted : (c : After-bodies_for-bodies)
    → c.bodies_for-bodies.result ≡ bodies_for (payload_length c.args.block.now)
counted c =
    count-read c.args.block.now _ _ _
    c.bodies_for-bodies.ensures
    c.read_u16-cursor_len.ensures
    c.read_u16-attempt_len.ensures

pub returns-then-block-bodies : goal.returns-then-block-bodies
returns-then-block-bodies c = no-form _ (λ f. c.if-block-bodies.true (f.count ∙ sym (counted (goal.at.returns-then-block-bodies c).After-bodies_for-bodies)))

pub returns : goal.returns
returns c =
    sym (says_well_formed _ (record {
      head = head (goal.at.returns c).Else-not-is_head;
      zeros = sym c.all_zero.ensures ∙ c.if-not-all_zero.false;
      rest = sym c.all_zero-2.ensures ∙ c.if-not-all_zero-2.false;
      lengths = record {
        cursor-low = omega (arith, c.read_u16-cursor_len.ensures);
        cursor_high = omega (arith, c.read_u16-cursor_len.ensures);
        attempt_low = omega (arith, c.read_u16-attempt_len.ensures);
        attempt_high = omega (arith, c.read_u16-attempt_len.ensures);
      };
      count = c.if-block-bodies.false ∙ counted (goal.at.returns c).After-bodies_for-bodies;
    }))
