-- Laws of the attempt snapshot, in either version: its length, what bytes that are accepted say, that decoding gives the pairs
-- back and doesn't depend on the version, what a reader of the old kind answers, and that encoding gives the bytes back. Where a
-- law has to look at the layout it does so by the Bool of `apart`. Assumes nothing.
use Prim.Native.Nat.{ℕ, zero, suc, ◌+◌, ◌-◌, ◌*◌, ◌%◌, ◌^◌, ◌<◌, ◌≤◌}
use native.Mathlib.Omega.{arith}
use mathlib.Core.Path.{◌≡◌, refl, sym, ap, ap₂, ◌∙◌}
use mathlib.Core.Bool.{Bool, true, false, not, or-false}
use mathlib.Core.List.{List, [], ◌∷◌, ◌++◌, append_assoc}
use lib.ListN.{length, take, drop, get_or, length-append}
use lib.Seq.{drop-drop, take-add, take_at, drop_at}
use lib.Dec.{eqb}
use borrow.Author.Tests.{ltb-false, leb-false, eqb-true, not-false, lt-ltb, le-ltb, lt-leb, eq-eqb, ne_eqb}
use Rattle.types.specs.Limits.{PAIRS}
use Rattle.types.specs.Refusal.{refused, done}
use Rattle.types.specs.Refusal as refusal
use Rattle.types.specs.Table.{Passed, checked, answer}
use Rattle.types.specs.Keyed.{Entry, entry, Rising}
use Rattle.types.proofs.Table.{checked-append, checked-done, checked-passed, passed-append, append-passed}
use Rattle.raw.specs.Bytes.{IsBytes, le, number_at}
use Rattle.raw.proofs.Bytes.{bytes-append, length-le, bytes_le, unle-le, number_lt, le-number}
use Rattle.crc.specs.Crc32c.{crc}
use Rattle.crc.specs.Seal.{sealed, is_sealed}
use Rattle.crc.proofs.Seal.{length-sealed, bytes-sealed, sealed_ok, sealed-of}
use Rattle.attempt.specs.Snapshot.{PairsFit, apart, offsets_bytes, attempts_bytes, pair_bytes, pairs_bytes, body_bytes}
use Rattle.attempt.specs.Snapshot.{encode_attempts, encode_attempts2, offset_at, attempt_at, read_pairs, pairs_as, pair_count, pairs_in, known}
use Rattle.attempt.specs.Snapshot.{framed_table, frame_table, order_after, order_table, limit_table, pairs_table, decode_table, decode_attempts, old_reader, fill}

-- ---- lengths

pub length-offsets : (l : List (Entry ℕ)) → length (offsets_bytes l) ≡ 8 * length l
length-offsets [] = refl
length-offsets (p ∷ l) = omega (arith, length-offsets l)

length-attempts : (l : List (Entry ℕ)) → length (attempts_bytes l) ≡ 4 * length l
length-attempts [] = refl
length-attempts (p ∷ l) = omega (arith, length-attempts l)

pub length_pairs : (split : Bool) (l : List (Entry ℕ)) → length (pairs_bytes split l) ≡ 12 * length l
length_pairs false [] = refl
length_pairs false (p ∷ l) = omega (arith, length_pairs false l)
length_pairs true l =
    length-append (offsets_bytes l) (attempts_bytes l) ∙ omega (arith, length-offsets l, length-attempts l)

pub length-body : (v : ℕ) (l : List (Entry ℕ)) → length (body_bytes v l) ≡ 5 + 12 * length l
length-body v l = omega (arith, length_pairs (apart v) l)

pub attempts-length : (v : ℕ) (l : List (Entry ℕ)) → length (encode_attempts v l) ≡ 9 + 12 * length l
unfolding encode_attempts
attempts-length v l = length-sealed (body_bytes v l) ∙ omega (arith, length-body v l)

pub length-read : (split : Bool) (n k i : ℕ) (b : List ℕ) → length (read_pairs split n k i b) ≡ k
length-read split n zero i b = refl
length-read split n (suc k) i b = ap suc (length-read split n k (i + 1) b)

-- ---- what bytes that are accepted say

-- no offset is refused just where they rise
pub rising-ordered : (prev : ℕ) (l : List (Entry ℕ)) → Passed (order_after prev l) → Rising (suc prev) l
rising-ordered prev [] p = tt
rising-ordered prev (e ∷ l) p = (leb-false e.key prev p.0, rising-ordered e.key l p.1)

pub ordered-rising : (prev : ℕ) (l : List (Entry ℕ)) → Rising (suc prev) l → Passed (order_after prev l)
ordered-rising prev [] r = tt
ordered-rising prev (e ∷ l) r = (lt-leb e.key prev r.0, ordered-rising e.key l r.1)

pub rising-table : (l : List (Entry ℕ)) → Passed (order_table l) → Rising 0 l
rising-table [] p = tt
rising-table (e ∷ l) p = (omega arith, rising-ordered e.key l p)

pub table-rising : (l : List (Entry ℕ)) → Rising 0 l → Passed (order_table l)
table-rising [] r = tt
table-rising (e ∷ l) r = ordered-rising e.key l r.1

pub record Accepted (b : List ℕ) : Type 0 where
  pub long : 9 ≤ length b
  pub version : known (get_or b 0 0) ≡ true
  pub whole : (length b - 9) % 12 ≡ 0
  pub counted : number_at 4 1 b ≡ pair_count b
  pub seal : is_sealed b ≡ true
  pub rising : Rising 0 (pairs_in b)
  pub few : pair_count b ≤ PAIRS

pub accepted : (b : List ℕ) → Passed (decode_table b) → Accepted b
accepted b p =
    let both = passed-append (frame_table b) (pairs_table (pairs_in b)) p in
    let frame = both.0 in
    let pairs = passed-append (order_table (pairs_in b)) (limit_table (pairs_in b)) both.1 in
    record {
      long = ltb-false (length b) 9 frame.0;
      version = not-false (known (get_or b 0 0)) frame.1.0;
      whole = eqb-true ((length b - 9) % 12) 0 (not-false _ frame.1.1.0);
      counted = eqb-true (number_at 4 1 b) (pair_count b) (not-false _ frame.1.1.1.0);
      seal = not-false (is_sealed b) frame.1.1.1.1.0;
      rising = rising-table (pairs_in b) pairs.0;
      few = rw (length-read (apart (get_or b 0 0)) (pair_count b) (pair_count b) 0 b) at (ltb-false PAIRS (length (pairs_in b)) pairs.1.0);
    }

-- what decoding accepts
pub decoded : (b : List ℕ) (l : List (Entry ℕ)) → decode_attempts b ≡ done l → Accepted b × (pairs_in b ≡ l)
unfolding decode_attempts
decoded b l e =
    let d = checked-done (decode_table b) (pairs_in b) l e in
    (accepted b d.0, d.1)

pub accepts : (b : List ℕ) → Passed (decode_table b) → decode_attempts b ≡ done (pairs_in b)
unfolding decode_attempts
accepts b p = checked-passed (decode_table b) (done (pairs_in b)) p

-- n pairs and a lent list with room for them, and one without
module _ (l lent : List (Entry ℕ)) (n : ℕ) (size : length l ≡ n) where
  pub fill-room : n ≤ length lent → fill (done l) lent ≡ answer (done n) (l ++ drop n lent)
  fill-room h = rw (size, le-ltb (length lent) n h)

  pub fill-short : length lent < n → fill (done l) lent ≡ answer (refused refusal.OutTooShort) lent
  fill-short h = rw (size, lt-ltb (length lent) n h)

-- ---- reading what was written

-- a number stands where its bytes do
number-here : (k x pos : ℕ) (b rest : List ℕ) → x < 256 ^ k → drop pos b ≡ le k x ++ rest → number_at k pos b ≡ x
number-here k x pos b rest h e = rw (e, take_at (le k x) rest k (length-le k x)) (unle-le k x h)

-- what stands m bytes further on
behind : (m pos q : ℕ) (b y : List ℕ) → q ≡ pos + m → drop pos b ≡ y → drop q b ≡ drop m y
behind m pos q b y at e = rw (at, ← drop-drop m pos b, e)

joins : {o k a v : ℕ} {x l : List (Entry ℕ)} → o ≡ k → a ≡ v → x ≡ l → entry o a ∷ x ≡ entry k v ∷ l
joins p q r = rw (p, q, r)

-- pairs each by itself, from place i on
read-together : (n i : ℕ) (l : List (Entry ℕ)) (b x : List ℕ) → PairsFit l → drop (5 + 12 * i) b ≡ pairs_bytes false l ++ x
    → read_pairs false n (length l) i b ≡ l
read-together n i [] b x f e = refl
read-together n i (p ∷ l) b x f e =
    let attempt = behind 8 (5 + 12 * i) (13 + 12 * i) b (pairs_bytes false (p ∷ l) ++ x) (omega arith) e in
    let others = behind 12 (5 + 12 * i) (5 + 12 * (i + 1)) b (pairs_bytes false (p ∷ l) ++ x) (omega arith) e in
    joins
    (number-here 8 p.key (5 + 12 * i) b (le 4 p.value ++ (pairs_bytes false l ++ x)) (omega arith) e)
    (number-here 4 p.value (13 + 12 * i) b (pairs_bytes false l ++ x) (omega arith) attempt)
    (read-together n (i + 1) l b x f.1 others)

-- offsets and attempts apart, each from its place i on
read-apart : (n i : ℕ) (l : List (Entry ℕ)) (b x y : List ℕ) → PairsFit l → drop (5 + 8 * i) b ≡ offsets_bytes l ++ x
    → drop (5 + 8 * n + 4 * i) b ≡ attempts_bytes l ++ y → read_pairs true n (length l) i b ≡ l
read-apart n i [] b x y f d e = refl
read-apart n i (p ∷ l) b x y f d e =
    let offsets = behind 8 (5 + 8 * i) (5 + 8 * (i + 1)) b (offsets_bytes (p ∷ l) ++ x) (omega arith) d in
    let attempts = behind 4 (5 + 8 * n + 4 * i) (5 + 8 * n + 4 * (i + 1)) b (attempts_bytes (p ∷ l) ++ y) (omega arith) e in
    joins
    (number-here 8 p.key (5 + 8 * i) b (offsets_bytes l ++ x) (omega arith) d)
    (number-here 4 p.value (5 + 8 * n + 4 * i) b (attempts_bytes l ++ y) (omega arith) e)
    (read-apart n (i + 1) l b x y f.1 offsets attempts)

read-written : (split : Bool) (l : List (Entry ℕ)) (b x : List ℕ) → PairsFit l → drop 5 b ≡ pairs_bytes split l ++ x
    → read_pairs split (length l) (length l) 0 b ≡ l
read-written false l b x f e = read-together (length l) 0 l b x f e
read-written true l b x f e =
    let n : ℕ = length l in
    let offsets : drop 5 b ≡ offsets_bytes l ++ (attempts_bytes l ++ x) = e ∙ append_assoc (offsets_bytes l) (attempts_bytes l) x in
    let attempts = behind (8 * n) 5 (5 + 8 * n + 4 * 0) b (offsets_bytes l ++ (attempts_bytes l ++ x)) (omega arith) offsets in
    read-apart n 0 l b (attempts_bytes l ++ x) x f offsets
    (attempts ∙ drop_at (offsets_bytes l) (attempts_bytes l ++ x) (8 * n) (length-offsets l))

-- every list of pairs whose numbers fit, sorted or not, in either version
module _ (v : ℕ) (l : List (Entry ℕ)) (fit : PairsFit l) (few : length l < 256 ^ 4) where
  written_count : pair_count (encode_attempts v l) ≡ length l
  written_count = omega (arith, attempts-length v l)

  written-declared : number_at 4 1 (encode_attempts v l) ≡ length l
  unfolding encode_attempts
  written-declared = unle-le 4 (length l) few

  written-version : get_or (encode_attempts v l) 0 0 ≡ v
  unfolding encode_attempts
  written-version = refl

  written-pairs : pairs_in (encode_attempts v l) ≡ l
  unfolding encode_attempts
  written-pairs = rw (written_count) (read-written (apart v) l (encode_attempts v l) (le 4 (crc (body_bytes v l))) fit refl)

  module _ (k : known v ≡ true) where
    written_frame : Passed (frame_table (encode_attempts v l))
    unfolding encode_attempts
    written_frame =
        let size = attempts-length v l in
        let n = length (encode_attempts v l) in
        let whole : not (eqb ((n - 9) % 12) 0) ≡ false = ap not (eq-eqb ((n - 9) % 12) 0 (omega arith)) in
        (le-ltb n 9 (omega arith), (ap not k, (whole, (declared, (ap not (sealed_ok (body_bytes v l)), tt)))))
      where
        declared : not (eqb (number_at 4 1 (encode_attempts v l)) (pair_count (encode_attempts v l))) ≡ false
        declared = ap not (eq-eqb _ _ (written-declared ∙ sym written_count))

    -- the answer to a snapshot that was written: 18 and 19 as its pairs have it, else the pairs
    pub attempts-read : decode_attempts (encode_attempts v l) ≡ checked (pairs_table l) (done l)
    unfolding decode_attempts
    attempts-read =
        let b = encode_attempts v l in
        checked-append (frame_table b) (pairs_table (pairs_in b)) (done (pairs_in b))
        ∙ checked-passed (frame_table b) (checked (pairs_table (pairs_in b)) (done (pairs_in b))) written_frame
        ∙ rw written-pairs

-- the pairs come back, from either version
pub attempts-back : (v : ℕ) → known v ≡ true → (l : List (Entry ℕ)) → Rising 0 l → PairsFit l → length l ≤ PAIRS
    → decode_attempts (encode_attempts v l) ≡ done l
attempts-back v k l r fit few =
    let limit : Passed (limit_table l) = (le-ltb PAIRS (length l) few, tt) in
    let passed : Passed (pairs_table l) = append-passed (order_table l) (limit_table l) (table-rising l r) limit in
    attempts-read v l fit (omega arith) k ∙ checked-passed (pairs_table l) (done l) passed

-- any pairs, falling or too many among them, get the same answer in both versions
pub version-same : (v w : ℕ) → known v ≡ true → known w ≡ true → (l : List (Entry ℕ)) → PairsFit l → length l < 256 ^ 4
    → decode_attempts (encode_attempts v l) ≡ decode_attempts (encode_attempts w l)
version-same v w kv kw l fit few = attempts-read v l fit few kv ∙ sym (attempts-read w l fit few kw)

-- ---- a reader of the old kind

-- it answers 14 with 2 to all bytes of version 2, but 13 where they are too few
pub old_reader_refuses : (b : List ℕ) → 9 ≤ length b → get_or b 0 0 ≡ 2 → old_reader b ≡ refused (refusal.AttemptUnsupportedVersion 2)
unfolding old_reader
old_reader_refuses b long e = rw (le-ltb (length b) 9 long, e)

pub old-refuses : (l : List (Entry ℕ)) → old_reader (encode_attempts2 l) ≡ refused (refusal.AttemptUnsupportedVersion 2)
unfolding encode_attempts
old-refuses l = old_reader_refuses (encode_attempts2 l) (omega (arith, attempts-length 2 l)) refl

-- on all other bytes the two readers answer alike
pub readers_agree : (b : List ℕ) → (get_or b 0 0 ≡ 2 → ⊥) → decode_attempts b ≡ old_reader b
unfolding decode_attempts old_reader
readers_agree b h =
    let two : eqb (get_or b 0 0) 2 ≡ false = ne_eqb (get_or b 0 0) 2 h in
    let version : known (get_or b 0 0) ≡ eqb (get_or b 0 0) 1 = rw (two, or-false) in
    let pairs : pairs_in b ≡ pairs_as 1 (pair_count b) b =
    ap (λ (split : Bool). read_pairs split (pair_count b) (pair_count b) 0 b) two in
    ap₂ (λ (k : Bool) (l : List (Entry ℕ)). checked (framed_table (λ v. k) b ++ pairs_table l) (done l)) version pairs

-- ---- writing what was read

pub pairs-fit : (split : Bool) (n k i : ℕ) (b : List ℕ) → IsBytes b → PairsFit (read_pairs split n k i b)
pairs-fit split n zero i b h = tt
pairs-fit split n (suc k) i b h =
    let o = number_lt 8 (offset_at split i) b h in
    let a = number_lt 4 (attempt_at split n i) b h in
    ((omega arith, omega arith), pairs-fit split n k (i + 1) b h)

joined : {x u y v z w : List ℕ} → x ≡ u → y ≡ v → z ≡ w → x ++ (y ++ z) ≡ u ++ (v ++ w)
joined p q r = rw (p, q, r)

-- a front of a list in three parts
three : (a c n : ℕ) (l : List ℕ) → take (a + (c + n)) l ≡ take a l ++ (take c (drop a l) ++ take n (drop (a + c) l))
three a c n l = rw (take-add a (c + n) l, take-add c n (drop a l), drop-drop c a l)

-- a number and those behind it
next-again : (m k pos q : ℕ) (b rest : List ℕ) → IsBytes b → pos + m ≤ length b → q ≡ pos + m → rest ≡ take k (drop q b)
    → le m (number_at m pos b) ++ rest ≡ take (m + k) (drop pos b)
next-again m k pos q b rest h room at e =
    rw (e, at, le-number m pos b h room, take-add m k (drop pos b), drop-drop m pos b)

together-again : (n k i : ℕ) (b : List ℕ) → IsBytes b → 5 + 12 * i + 12 * k ≤ length b
    → pairs_bytes false (read_pairs false n k i b) ≡ take (12 * k) (drop (5 + 12 * i) b)
together-again n zero i b h room = refl
together-again n (suc k) i b h room =
    let others = together-again n k (i + 1) b h (omega arith) in
    let attempt = next-again 4 (12 * k) (13 + 12 * i) (5 + 12 * (i + 1)) b _ h (omega arith) (omega arith) others in
    let size : 12 * suc k ≡ 8 + (4 + 12 * k) = omega arith in
    rw size (next-again 8 (4 + 12 * k) (5 + 12 * i) (13 + 12 * i) b _ h (omega arith) (omega arith) attempt)

offsets-again : (n k i : ℕ) (b : List ℕ) → IsBytes b → 5 + 8 * i + 8 * k ≤ length b
    → offsets_bytes (read_pairs true n k i b) ≡ take (8 * k) (drop (5 + 8 * i) b)
offsets-again n zero i b h room = refl
offsets-again n (suc k) i b h room =
    let others = offsets-again n k (i + 1) b h (omega arith) in
    let size : 8 * suc k ≡ 8 + 8 * k = omega arith in
    rw size (next-again 8 (8 * k) (5 + 8 * i) (5 + 8 * (i + 1)) b _ h (omega arith) (omega arith) others)

counts-again : (n k i : ℕ) (b : List ℕ) → IsBytes b → 5 + 8 * n + 4 * i + 4 * k ≤ length b
    → attempts_bytes (read_pairs true n k i b) ≡ take (4 * k) (drop (5 + 8 * n + 4 * i) b)
counts-again n zero i b h room = refl
counts-again n (suc k) i b h room =
    let others = counts-again n k (i + 1) b h (omega arith) in
    let size : 4 * suc k ≡ 4 + 4 * k = omega arith in
    rw size (next-again 4 (4 * k) (5 + 8 * n + 4 * i) (5 + 8 * n + 4 * (i + 1)) b _ h (omega arith) (omega arith) others)

pairs-again : (split : Bool) (n : ℕ) (b : List ℕ) → IsBytes b → 5 + 12 * n ≤ length b
    → pairs_bytes split (read_pairs split n n 0 b) ≡ take (12 * n) (drop 5 b)
pairs-again false n b h room = together-again n n 0 b h room
pairs-again true n b h room =
    let size : 12 * n ≡ 8 * n + 4 * n = omega arith in
    let at : 5 + 8 * n + 4 * 0 ≡ 5 + 8 * n = omega arith in
    let counts = rw at at (counts-again n n 0 b h (omega arith)) in
    rw (size, offsets-again n n 0 b h (omega arith), counts) (rw (take-add (8 * n) (4 * n) (drop 5 b), drop-drop (8 * n) 5 b))

first_byte : (b : List ℕ) → 0 < length b → get_or b 0 0 ∷ [] ≡ take 1 b
first_byte [] h = absurd (omega arith)
first_byte (x ∷ b) h = refl

body-again : (b : List ℕ) → IsBytes b → Accepted b → body_bytes (get_or b 0 0) (pairs_in b) ≡ take (length b - 4) b
body-again b h a =
    let n : ℕ = pair_count b in
    let split : Bool = apart (get_or b 0 0) in
    let size : length b - 4 ≡ 1 + (4 + 12 * n) = omega (arith, a.long, a.whole) in
    let declared = le-number 4 1 b h (omega (arith, a.long)) in
    let count : le 4 (length (pairs_in b)) ≡ take 4 (drop 1 b) = rw (length-read split n n 0 b, ← a.counted) declared in
    let pairs = pairs-again split n b h (omega (arith, a.long)) in
    joined {x = get_or b 0 0 ∷ []} (first_byte b (omega (arith, a.long))) count pairs ∙ rw (size, three 1 4 (12 * n) b)

-- bytes that are accepted are those that encoding their pairs gives, in the version that they name
pub attempts-again : (b : List ℕ) (l : List (Entry ℕ)) → IsBytes b → decode_attempts b ≡ done l → encode_attempts (get_or b 0 0) l ≡ b
unfolding encode_attempts
attempts-again b l h e =
    let d = decoded b l e in
    rw (← d.1) (ap sealed (body-again b h d.0) ∙ sym (sealed-of b h d.0.seal))

-- what was read is fit to be written
pub decoded-rising : (b : List ℕ) (l : List (Entry ℕ)) → decode_attempts b ≡ done l → Rising 0 l
decoded-rising b l e =
    let d = decoded b l e in
    rw (← d.1) d.0.rising

pub decoded-fit : (b : List ℕ) (l : List (Entry ℕ)) → IsBytes b → decode_attempts b ≡ done l → PairsFit l
decoded-fit b l h e = rw (← (decoded b l e).1) (pairs-fit (apart (get_or b 0 0)) (pair_count b) (pair_count b) 0 b h)

pub decoded-few : (b : List ℕ) (l : List (Entry ℕ)) → decode_attempts b ≡ done l → length l ≤ PAIRS
decoded-few b l e =
    let d = decoded b l e in
    rw (← d.1, length-read (apart (get_or b 0 0)) (pair_count b) (pair_count b) 0 b) d.0.few

bytes-offsets : (l : List (Entry ℕ)) → IsBytes (offsets_bytes l)
bytes-offsets [] = tt
bytes-offsets (p ∷ l) = bytes-append (le 8 p.key) (offsets_bytes l) (bytes_le 8 p.key) (bytes-offsets l)

bytes-counts : (l : List (Entry ℕ)) → IsBytes (attempts_bytes l)
bytes-counts [] = tt
bytes-counts (p ∷ l) = bytes-append (le 4 p.value) (attempts_bytes l) (bytes_le 4 p.value) (bytes-counts l)

bytes-pairs : (split : Bool) (l : List (Entry ℕ)) → IsBytes (pairs_bytes split l)
bytes-pairs false [] = tt
bytes-pairs false (p ∷ l) =
    let pair = bytes-append (le 8 p.key) (le 4 p.value) (bytes_le 8 p.key) (bytes_le 4 p.value) in
    bytes-append (pair_bytes p) (pairs_bytes false l) pair (bytes-pairs false l)
bytes-pairs true l = bytes-append (offsets_bytes l) (attempts_bytes l) (bytes-offsets l) (bytes-counts l)

pub bytes-attempts : (v : ℕ) (l : List (Entry ℕ)) → v < 256 → IsBytes (encode_attempts v l)
unfolding encode_attempts
bytes-attempts v l h =
    let rest = bytes-append (le 4 (length l)) (pairs_bytes (apart v) l) (bytes_le 4 (length l)) (bytes-pairs (apart v) l) in
    bytes-sealed (body_bytes v l) (h, rest)
