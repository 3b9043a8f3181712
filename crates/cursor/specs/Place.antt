-- Where an offset stands to a cursor: what each answer of the search for it says, and how the cursor is with the offset
-- recorded there.
-- SPEC.md, "Cursor".
use Rattle.std.specs.Prelude.{ℕ, zero, suc, ◌+◌, ◌≤◌, ◌<◌, ◌≡◌, Bool, true, false, ◌||◌, List, eqb, length, get_or, set}
use Rattle.types.specs.Limits.{MAX}
use Rattle.types.specs.Zipped.{inserted, removed}
use Rattle.cursor.specs.Ranges.{range, touches}
use Rattle.cursor.specs.Cursor.{Cursor, cursor, settled, recorded}
use Rattle.cursor.specs.declared.Range.{Range}
use Rattle.cursor.specs.declared.in_place.Spot.{Spot}
use Rattle.cursor.specs.declared.in_place.Spot.TheVariants.{Settled, Behind, Between, Before, Apart}

-- the range at a place
abbrev pub rangeAt : ℕ → List Range → Range
rangeAt k rs = get_or rs k (range 0 0)

-- the end before place i, which is committed at the first place, is moved
abbrev pub stretched : ℕ → ℕ → Cursor → Cursor
stretched zero end c = cursor end c.ahead
stretched (suc k) end c = cursor c.committed (set c.ahead k (range (rangeAt k c.ahead).start end))

-- the range at place i becomes part of what ends before it
abbrev pub joined_at : ℕ → Cursor → Cursor
joined_at i c = stretched i (rangeAt i c.ahead).end (cursor c.committed (removed i (i + 1) c.ahead))

-- an offset that is not settled: whether it is at committed or touches a range, and the cursor with it
pub record Open (c : Cursor) (o : ℕ) (near : Bool) (after : Cursor) : Type 0 where
  pub unsettled : (settled c o || eqb o MAX) ≡ false
  pub nearby : (eqb c.committed o || touches o c.ahead) ≡ near
  pub made : recorded c o ≡ after

abbrev pub Spotted : Cursor → ℕ → Spot → Type 0
Spotted c o Settled = (settled c o || eqb o MAX) ≡ true
Spotted c o (Behind i) = (i ≤ length c.ahead) × Open c o true (stretched i (o + 1) c)
Spotted c o (Between i) = (i < length c.ahead) × Open c o true (joined_at i c)
Spotted c o (Before i) =
    (i < length c.ahead) × Open c o true (cursor c.committed (set c.ahead i (range o (rangeAt i c.ahead).end)))
Spotted c o (Apart i) =
    (i ≤ length c.ahead) × Open c o false (cursor c.committed (inserted i (range o (o + 1)) c.ahead))
