-- `encode_in_place` meets its contract. Assumes nothing.
use native.Mathlib.Omega.{arith}
use Rattle.cursor.proofs.in_place.encode_in_place.Goals as goal

pub encode_columns-requires : goal.encode_columns-requires
encode_columns-requires c =
    (c.requires.sound.few, omega (arith, c.requires.starts, c.requires.sound.few), omega (arith, c.requires.ends, c.requires.sound.few))

pub returns : goal.returns
returns c = c.encode_columns.ensures
