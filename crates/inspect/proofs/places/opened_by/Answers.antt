-- `opened_by` meets its contract. Assumes nothing.
use mathlib.Core.Path.{sym, ◌∙◌}
use borrow.Author.Rules.{rules}
use Rattle.inspect.proofs.places.opened_by.Goals as goal

pub returns-then-is_sound_but_number : goal.returns-then-is_sound_but_number
returns-then-is_sound_but_number c = let s = c in rw (sym s.is_sound_but_number.ensures ∙ c.if-is_sound_but_number.true, c.read_u32-number.ensures)

pub returns : goal.returns
returns c = rw (sym c.is_sound_but_number.ensures ∙ c.if-is_sound_but_number.false)
