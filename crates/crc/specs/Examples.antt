-- The definition computes the known values: the generator with its bits reflected, the check of the digits 1 to 9, and
-- RFC 3720's example of 32 rising bytes (B.4).
-- SPEC.md, "Check".
use Rattle.std.specs.Prelude.{◌≡◌, refl, [], ◌∷◌}
use Rattle.std.proofs.Math.Bool.{xor}
use Rattle.crc.specs.Crc32c.{bits, unbits, polynomial, crc}

pub reflected : unbits polynomial ≡ 0x82F63B78
unfolding bits unbits polynomial
reflected = refl

pub digits : crc (49 ∷ 50 ∷ 51 ∷ 52 ∷ 53 ∷ 54 ∷ 55 ∷ 56 ∷ 57 ∷ []) ≡ 0xe3069283
unfolding bits unbits polynomial crc xor
digits = refl

pub rising : crc (0 ∷ 1 ∷ 2 ∷ 3 ∷ 4 ∷ 5 ∷ 6 ∷ 7 ∷ 8 ∷ 9 ∷ 10 ∷ 11 ∷ 12 ∷ 13 ∷ 14 ∷ 15 ∷ 16 ∷ 17 ∷ 18 ∷ 19 ∷ 20 ∷ 21 ∷ 22 ∷ 23 ∷ 24 ∷ 25 ∷ 26 ∷ 27 ∷ 28 ∷ 29 ∷ 30 ∷ 31 ∷ []) ≡ 0x46dd794e
unfolding bits unbits polynomial crc xor
rising = refl
