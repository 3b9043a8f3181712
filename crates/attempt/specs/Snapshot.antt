-- The attempt snapshot in versions 1 and 2: the version, u32 count, pairs
-- (u64 offset, u32 attempt), CRC32C; and refusals 13 to 20. Version 1 has each attempt count behind its offset; version 2 has all
-- offsets first and then all attempts in the same order. A pair is an entry of a keyed list: the offset is its key, the attempt
-- count its value.
-- SPEC.md, "Attempt snapshot".
use Rattle.std.specs.Prelude.{ℕ, zero, suc, ◌+◌, ◌*◌, ◌-◌, ◌/◌, ◌%◌, ◌≤◌, Bool, true, false, not, ◌||◌, List, [], ◌∷◌, ◌++◌, ltb, leb, eqb, length, drop, get_or}
use Rattle.types.specs.Limits.{MAX, MAX32, PAIRS}
use Rattle.types.specs.Refusal.{Result, refused, done}
use Rattle.types.specs.Refusal as refusal
use Rattle.types.specs.Table.{Row, ◌⇒◌, checked, Answer, answer, guarded}
use Rattle.types.specs.Keyed.{Entry, entry, All}
use Rattle.raw.specs.Bytes.{le, number_at, write}
use Rattle.crc.specs.Seal.{sealed, is_sealed}

-- the numbers of each pair are a u64 and a u32
abbrev pub PairsFit : List (Entry ℕ) → Type 0
PairsFit l = All (λ offset attempt. (offset ≤ MAX) × (attempt ≤ MAX32)) l

-- whether a version has offsets and attempts apart
abbrev pub apart : ℕ → Bool
apart version = eqb version 2

-- the bytes of all offsets, and of all attempts
abbrev pub offsets_bytes : List (Entry ℕ) → List ℕ
offsets_bytes [] = []
offsets_bytes (p ∷ l) = le 8 p.key ++ offsets_bytes l

abbrev pub attempts_bytes : List (Entry ℕ) → List ℕ
attempts_bytes [] = []
attempts_bytes (p ∷ l) = le 4 p.value ++ attempts_bytes l

-- the bytes of a pair, and of pairs in their order, each by itself or with the two apart
abbrev pub pair_bytes : Entry ℕ → List ℕ
pair_bytes p = le 8 p.key ++ le 4 p.value

abbrev pub pairs_bytes : Bool → List (Entry ℕ) → List ℕ
pairs_bytes false [] = []
pairs_bytes false (p ∷ l) = pair_bytes p ++ pairs_bytes false l
pairs_bytes true l = offsets_bytes l ++ attempts_bytes l

-- a version, without its check and whole
abbrev pub body_bytes : ℕ → List (Entry ℕ) → List ℕ
body_bytes version l = version ∷ (le 4 (length l) ++ pairs_bytes (apart version) l)

unfoldable pub encode_attempts : ℕ → List (Entry ℕ) → List ℕ
encode_attempts version l = sealed (body_bytes version l)

abbrev pub encode_attempts1 : List (Entry ℕ) → List ℕ
encode_attempts1 l = encode_attempts 1 l

abbrev pub encode_attempts2 : List (Entry ℕ) → List ℕ
encode_attempts2 l = encode_attempts 2 l

-- written into lent bytes from a place on: over 128 pairs 19, then without room 20
abbrev pub encode_version : ℕ → List (Entry ℕ) → ℕ → List ℕ → Answer ℕ (List ℕ)
encode_version version l at out =
    guarded (ltb PAIRS (length l) ⇒ refusal.TooManyPairs ∷ []) out (write at (encode_attempts version l) out)

abbrev pub encode_into : List (Entry ℕ) → ℕ → List ℕ → Answer ℕ (List ℕ)
encode_into l at out = encode_version 1 l at out

abbrev pub encode_into2 : List (Entry ℕ) → ℕ → List ℕ → Answer ℕ (List ℕ)
encode_into2 l at out = encode_version 2 l at out

-- where the two numbers of pair i of n stand, from 0
abbrev pub offset_at : Bool → ℕ → ℕ
offset_at false i = 5 + 12 * i
offset_at true i = 5 + 8 * i

abbrev pub attempt_at : Bool → ℕ → ℕ → ℕ
attempt_at false n i = 13 + 12 * i
attempt_at true n i = 5 + 8 * n + 4 * i

-- pair i of n, and k pairs from there on
abbrev pub read_pair : Bool → ℕ → ℕ → List ℕ → Entry ℕ
read_pair split n i b = entry (number_at 8 (offset_at split i) b) (number_at 4 (attempt_at split n i) b)

abbrev pub read_pairs : Bool → ℕ → ℕ → ℕ → List ℕ → List (Entry ℕ)
read_pairs split n zero i b = []
read_pairs split n (suc k) i b = read_pair split n i b ∷ read_pairs split n k (i + 1) b

-- n pairs in bytes of a version, and in bytes that name their version
abbrev pub pairs_as : ℕ → ℕ → List ℕ → List (Entry ℕ)
pairs_as version n b = read_pairs (apart version) n n 0 b

abbrev pub pairs_of : ℕ → List ℕ → List (Entry ℕ)
pairs_of n b = pairs_as (get_or b 0 0) n b

-- the number of pairs by the length of the bytes, and the pairs
abbrev pub pair_count : List ℕ → ℕ
pair_count b = (length b - 9) / 12

abbrev pub pairs_in : List ℕ → List (Entry ℕ)
pairs_in b = pairs_of (pair_count b) b

-- 13 to 17, where some versions are known
abbrev pub framed_table : (ℕ → Bool) → List ℕ → List Row
framed_table known b =
    ltb (length b) 9 ⇒ refusal.AttemptTruncated
    ∷ not (known (get_or b 0 0)) ⇒ refusal.AttemptUnsupportedVersion (get_or b 0 0)
    ∷ not (eqb ((length b - 9) % 12) 0) ⇒ refusal.AttemptBadLength (length b)
    ∷ not (eqb (number_at 4 1 b) (pair_count b)) ⇒ refusal.CountMismatch (number_at 4 1 b) (pair_count b)
    ∷ not (is_sealed b) ⇒ refusal.AttemptBadCrc
    ∷ []

-- versions 1 and 2
abbrev pub known : ℕ → Bool
known version = eqb version 1 || eqb version 2

abbrev pub frame_table : List ℕ → List Row
frame_table b = framed_table known b

-- 18 for each pair behind an offset, and for each pair behind another
abbrev pub order_after : ℕ → List (Entry ℕ) → List Row
order_after prev [] = []
order_after prev (p ∷ l) = leb p.key prev ⇒ refusal.NotSorted p.key prev ∷ order_after p.key l

abbrev pub order_table : List (Entry ℕ) → List Row
order_table [] = []
order_table (p ∷ l) = order_after p.key l

-- 19
abbrev pub limit_table : List (Entry ℕ) → List Row
limit_table l = ltb PAIRS (length l) ⇒ refusal.TooManyPairs ∷ []

-- 18 for all the pairs, then 19
abbrev pub pairs_table : List (Entry ℕ) → List Row
pairs_table l = order_table l ++ limit_table l

abbrev pub decode_table : List ℕ → List Row
decode_table b = frame_table b ++ pairs_table (pairs_in b)

-- the pairs that bytes hold
unfoldable pub decode_attempts : List ℕ → Result (List (Entry ℕ))
decode_attempts b = checked (decode_table b) (done (pairs_in b))

-- a reader of the old kind, which knows version 1 alone
abbrev pub old_table : List ℕ → List Row
old_table b = framed_table (λ version. eqb version 1) b ++ pairs_table (pairs_as 1 (pair_count b) b)

unfoldable pub old_reader : List ℕ → Result (List (Entry ℕ))
old_reader b = checked (old_table b) (done (pairs_as 1 (pair_count b) b))

-- put at the front of a lent list, whose other places stay; 20 where it is too short
abbrev pub fill : Result (List (Entry ℕ)) → List (Entry ℕ) → Answer ℕ (List (Entry ℕ))
fill (refused r) lent = answer (refused r) lent
fill (done l) lent =
    guarded (ltb (length lent) (length l) ⇒ refusal.OutTooShort ∷ []) lent
    (answer (done (length l)) (l ++ drop (length l) lent))

abbrev pub decode_into : List ℕ → List (Entry ℕ) → Answer ℕ (List (Entry ℕ))
decode_into b lent = fill (decode_attempts b) lent
