-- CRC32C as RFC 3720, 12.1, has it, bit by bit: a register of 32 bits that starts with all ones, each byte fed with its
-- lowest bit first, the end complemented. The register is the list of its bits, that of the highest power, x^31, first;
-- as a number its first bit is the lowest.
-- SPEC.md, "Check".
use Rattle.std.specs.Prelude.{ℕ, zero, suc, ◌+◌, ◌*◌, ◌/◌, ◌%◌, Bool, true, false, cond, not, List, [], ◌∷◌, ◌++◌, map, reverse, eqb, replicate}
use Rattle.std.specs.Bool.{xor}

-- the low k bits of n, the lowest first
unfoldable pub bits : ℕ → ℕ → List Bool
bits zero n = []
bits (suc k) n = eqb (n % 2) 1 ∷ bits k (n / 2)

-- the number that bits are, the lowest first
unfoldable pub unbits : List Bool → ℕ
unbits [] = 0
unbits (b ∷ bs) = cond b 1 0 + 2 * unbits bs

-- the sum without carries, of two lists of one length
abbrev pub xors : List Bool → List Bool → List Bool
xors [] bs = []
xors (a ∷ r) [] = a ∷ r
xors (a ∷ r) (b ∷ bs) = xor a b ∷ xors r bs

-- the generator 1EDC6F41, its coefficient of x^31 first; that of x^32 is 1 and is not written
unfoldable pub polynomial : List Bool
polynomial = reverse (bits 32 0x1EDC6F41)

-- one bit is fed: the register moves by a place, and where the bit that falls out differs from the one fed, the
-- polynomial is added
abbrev pub shift : List Bool → Bool → List Bool
shift [] d = []
shift (r ∷ rs) d = cond (xor r d) (xors (rs ++ false ∷ []) polynomial) (rs ++ false ∷ [])

-- bits are fed, the first of them first
abbrev pub feed_bits : List Bool → List Bool → List Bool
feed_bits r [] = r
feed_bits r (d ∷ ds) = feed_bits (shift r d) ds

-- bytes are fed, each with its lowest bit first
abbrev pub feed : List Bool → List ℕ → List Bool
feed r [] = r
feed r (b ∷ bs) = feed (feed_bits r (bits 8 b)) bs

-- the check of bytes
unfoldable pub crc : List ℕ → ℕ
crc bytes = unbits (map not (feed (replicate 32 true) bytes))

-- the check of bytes that go on behind others, whose check is `before`
unfoldable pub crc_from : ℕ → List ℕ → ℕ
crc_from before bytes = unbits (map not (feed (map not (bits 32 before)) bytes))
