-- The layout of a group, computed. Group 1 with ceiling 4,096 and a payload of 22 bytes, its two checks as worked out
-- apart from these definitions, and the walk over its two blocks.
-- SPEC.md, "Blocks".
use Rattle.std.specs.Prelude.{ℕ, ◌≡◌, refl, List, [], ◌∷◌, ◌++◌, take}
use Rattle.std.proofs.Math.Bool.{xor}
use Rattle.std.proofs.Math.Option.{some}
use Rattle.raw.specs.Bytes.{number_at}
use Rattle.crc.specs.Crc32c.{bits, unbits, polynomial, crc}
use Rattle.crc.specs.Seal.{is_sealed}
use Rattle.journal.specs.Area.{block_at}
use Rattle.journal.specs.Blocks.{header_block, body_block}
use Rattle.journal.specs.Sound.{is_kind, well_formed, sound_header, sound_body}
use Rattle.journal.specs.Walks.{group_at, stop, walk_over, walk_from, walk, payload}

abbrev pub bytes : List ℕ
bytes = 1 ∷ 2 ∷ 3 ∷ 4 ∷ 5 ∷ 6 ∷ 7 ∷ 8 ∷ 9 ∷ 10 ∷ 11 ∷ 12 ∷ 13 ∷ 14 ∷ 15 ∷ 16 ∷ 17 ∷ 18 ∷ 19 ∷ 20 ∷ 21 ∷ 22 ∷ []

abbrev pub area : List ℕ
area = header_block 1 4096 13 9 ++ body_block 1 1 bytes

pub header-front : take 21 (header_block 1 4096 13 9)
    ≡ 1 ∷ 1 ∷ 0 ∷ 0 ∷ 1 ∷ 0 ∷ 0 ∷ 0 ∷ 0 ∷ 16 ∷ 0 ∷ 0 ∷ 0 ∷ 0 ∷ 0 ∷ 0 ∷ 13 ∷ 0 ∷ 9 ∷ 0 ∷ 0 ∷ []
unfolding header_block
header-front = refl

pub header-check : number_at 4 508 (header_block 1 4096 13 9) ≡ 0x7e399878
unfolding header_block crc bits unbits polynomial xor
header-check = refl

pub body-front : take 10 (body_block 1 1 bytes) ≡ 2 ∷ 1 ∷ 22 ∷ 0 ∷ 1 ∷ 0 ∷ 0 ∷ 0 ∷ 1 ∷ 2 ∷ []
unfolding body_block
body-front = refl

pub body-check : number_at 4 508 (body_block 1 1 bytes) ≡ 0xc6a8386c
unfolding body_block crc bits unbits polynomial xor
body-check = refl

pub walked : walk area 2 1 0 ≡ stop (some 0) 2 2
unfolding walk_from walk_over group_at sound_header well_formed sound_body is_kind is_sealed block_at header_block body_block crc bits unbits polynomial xor
walked = refl

pub read : payload area 0 ≡ bytes
unfolding payload block_at header_block body_block
read = refl
