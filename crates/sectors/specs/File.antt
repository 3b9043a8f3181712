-- A journal's file in sectors of 4,096 bytes: sector 0 says what the file is, and each block stands at the front of a sector, so that
-- a torn sector is a torn block and no more.
-- SPEC.md, "File".
use Rattle.std.specs.Prelude.{ℕ, zero, suc, ◌+◌, ◌*◌, ◌%◌, ◌≤◌, ◌<◌, ◌≡◌, Bool, false, cond, not, ◌||◌, List, [], ◌∷◌, ◌++◌, ltb, eqb, length, take, drop, replicate, Result, Ok, Err}
use Rattle.raw.specs.Bytes.{le, unle, number_at}
use Rattle.crc.specs.Seal.{sealed, is_sealed}
use Rattle.journal.specs.Area.{block_at, write_at}
use Rattle.journal.specs.Sound.{is_kind}
use Rattle.consumer.specs.State.{bad_area}
use Rattle.sectors.specs.declared.Layout.{Layout}
use Rattle.sectors.specs.declared.FormError.{FormError}
use Rattle.sectors.specs.declared.FormError.TheVariants.{Magic, Version, SectorBytes, Blocks, Journals, Check, Length}

abbrev pub SECTOR : ℕ
SECTOR = 4096

-- ## what sector 0 says
-- NINOTSKV
abbrev pub magic : List ℕ
magic = 78 ∷ 73 ∷ 78 ∷ 79 ∷ 84 ∷ 83 ∷ 75 ∷ 86 ∷ []

-- its numbers: the version of the layout, bytes of a sector, blocks of a journal, journals
abbrev pub version_of : List ℕ → ℕ
version_of s = number_at 4 8 s

abbrev pub size_of : List ℕ → ℕ
size_of s = number_at 4 12 s

abbrev pub blocks_of : List ℕ → ℕ
blocks_of s = number_at 4 16 s

abbrev pub journals_of : List ℕ → ℕ
journals_of s = number_at 4 20 s

-- a journal has an even number of blocks, 18 to 128, and a file 1 to 65,535 journals
abbrev pub wrong_blocks : ℕ → Bool
wrong_blocks n = not (eqb (n % 2) 0) || ltb n 18 || ltb 128 n

abbrev pub wrong_journals : ℕ → Bool
wrong_journals n = eqb n 0 || ltb 65535 n

-- the bytes of a file with so many blocks to a journal, and so many journals
abbrev pub file_bytes : (blocks journals : ℕ) → ℕ
file_bytes b j = SECTOR * (1 + j * b)

-- a test, and what is wrong where it holds
pub record Row : Type 0 where
  pub test : Bool
  pub wrong : FormError

abbrev pub ◌⇒◌ : Bool → FormError → Row
◌⇒◌ t f = record { test = t; wrong = f }

infix 70 ◌⇒◌
-- the first that holds, or else the layout
abbrev pub first_or : Layout → List Row → Result Layout FormError
first_or f [] = Ok f
first_or f (w ∷ ws) = cond w.test (Err w.wrong) (first_or f ws)

abbrev pub layout : (blocks journals : ℕ) → Layout
layout b j = record { blocks = b; journals = j }

-- the tests of sector 0, of a file of n bytes, in their order
abbrev pub form_table : List ℕ → ℕ → List Row
form_table s n =
    not (eqb (number_at 8 0 s) (unle magic)) ⇒ Magic
    ∷ not (eqb (version_of s) 1) ⇒ Version (version_of s)
    ∷ not (eqb (size_of s) SECTOR) ⇒ SectorBytes (size_of s)
    ∷ wrong_blocks (blocks_of s) ⇒ Blocks (blocks_of s)
    ∷ wrong_journals (journals_of s) ⇒ Journals (journals_of s)
    ∷ not (is_sealed (take 512 s)) ⇒ Check
    ∷ not (eqb n (file_bytes (blocks_of s) (journals_of s))) ⇒ Length (file_bytes (blocks_of s) (journals_of s))
    ∷ []

unfoldable pub form_of : List ℕ → ℕ → Result Layout FormError
form_of s n = first_or (layout (blocks_of s) (journals_of s)) (form_table s n)

-- sector 0 as it is laid down
unfoldable pub sector_zero : (blocks journals : ℕ) → List ℕ
sector_zero b j = sealed (magic ++ (le 4 1 ++ (le 4 SECTOR ++ (le 4 b ++ (le 4 j ++ replicate 484 0))))) ++ replicate 3584 0

-- ## where the blocks stand
-- the sector of block i of journal j
abbrev pub sector_of : (blocks j i : ℕ) → ℕ
sector_of b j i = 1 + (j * b + i)

-- where it begins in the file
pub record PlaceIs (blocks j i r : ℕ) : Type 0 where
  pub is : r ≡ SECTOR * sector_of blocks j i
  pub small : r < 1099511627776

-- a sector of a file, and the block at the front of a sector
abbrev pub sector_at : List ℕ → ℕ → List ℕ
sector_at file k = take SECTOR (drop (SECTOR * k) file)

abbrev pub front : List ℕ → List ℕ
front sector = take 512 sector

-- the first n blocks of journal j, side by side; all of them are its area
unfoldable pub fronts_in : (blocks : ℕ) → List ℕ → (j n : ℕ) → List ℕ
fronts_in b file j zero = []
fronts_in b file j (suc n) = fronts_in b file j n ++ front (sector_at file (sector_of b j n))

abbrev pub area_of : (blocks : ℕ) → List ℕ → (j : ℕ) → List ℕ
area_of b file j = fronts_in b file j b

-- what a block is where its sector can't be read
abbrev pub unread : List ℕ
unread = replicate 512 255

-- ## what is stated
-- an area into which the fronts of journal j's first n sectors were put, one after the other
unfoldable pub gathered : (blocks : ℕ) → List ℕ → (j n : ℕ) → List ℕ → List ℕ
gathered b file j zero a = a
gathered b file j (suc n) a = write_at (gathered b file j n a) n (front (sector_at file (sector_of b j n)))

-- of a file of its length, into an area of its length: the fronts of all sectors of a journal are its area
unfoldable pub Gathers : Type 0
Gathers =
    (b journals j : ℕ) (file a : List ℕ) → length file ≡ file_bytes b journals → j < journals → length a ≡ 512 * b
    → gathered b file j b a ≡ area_of b file j

-- block i of that area is the front of its sector
unfoldable pub BlocksApart : Type 0
BlocksApart =
    (b journals j i : ℕ) (file : List ℕ) → length file ≡ file_bytes b journals → j < journals → i < b
    → block_at (area_of b file j) i ≡ front (sector_at file (sector_of b j i))

-- what is laid down is read back
unfoldable pub ReadsBack : Type 0
ReadsBack =
    (b j : ℕ) → wrong_blocks b ≡ false → wrong_journals j ≡ false → form_of (sector_zero b j) (file_bytes b j) ≡ Ok (layout b j)

-- what is right of a file that is sound: a start takes the area of each of its journals
pub record SoundIs (b j bytes : ℕ) : Type 0 where
  pub blocks : b ≤ 128
  pub journals : j ≤ 65535
  pub length : bytes ≡ file_bytes b j
  pub taken : bad_area (512 * b) ≡ false

unfoldable pub SoundSays : Type 0
SoundSays = (s : List ℕ) (n b j : ℕ) → form_of s n ≡ Ok (layout b j) → SoundIs b j n

-- a block that can't be read is neither a header nor a body, whatever is expected
unfoldable pub UnreadUnsound : Type 0
UnreadUnsound = (kind : ℕ) → kind ≤ 2 → is_kind kind unread ≡ false
