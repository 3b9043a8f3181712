-- What the encoder's functions write, over plain values. Assumes nothing.
use Prim.Native.Nat.{ℕ, ◌+◌, ◌*◌, ◌<◌, ◌≤◌, min}
use native.Mathlib.Omega.{arith}
use native.Mathlib.Numerals.{add-one}
use mathlib.Core.Path.{◌≡◌, refl, sym, ◌∙◌}
use mathlib.Core.Bool.{Bool, true, false}
use mathlib.Core.Logic.{inr}
use mathlib.Core.List.{List, [], ◌∷◌, ◌++◌, map-append}
use lib.ListN.{length, take, drop, get_or, set, length-take}
use lib.Seq.{take-suc, take-suc-set}
use borrow.Author.Tests.{lt-ltb, le-ltb}
use Rattle.types.specs.Limits.{PAIRS}
use Rattle.types.specs.Refusal.{Result, refused, done}
use Rattle.types.specs.Refusal as refusal
use Rattle.types.specs.Table.{answer}
use Rattle.types.specs.Keyed.{Entry, entry, entries}
use Rattle.types.proofs.Columns.{entries_snoc, drop-entry, drop-entries-past}
use Rattle.raw.specs.Bytes.{le, overwrite, write}
use Rattle.raw.proofs.Bytes.{length-overwrite, overwrite_none, overwrite-byte, overwrite-append, overwrite-apart, write-room, write-short, wrote-behind}
use Rattle.crc.specs.Crc32c.{crc}
use Rattle.crc.proofs.Seal.{sealed-put}
use Rattle.attempt.specs.Snapshot.{apart, offsets_bytes, attempts_bytes, pair_bytes, pairs_bytes, body_bytes, encode_attempts, encode_version, offset_at, attempt_at}
use Rattle.attempt.specs.Codec.{nil}
use Rattle.types.specs.declared.Pair.{Pair}
use Rattle.types.specs.Lists.{entry_of, entries_of}
use Rattle.attempt.proofs.Snapshot.{length-offsets, length-body, attempts-length}

-- what writing pairs one by one gives, of n pairs in a snapshot at a place, from pair i on
abbrev pub put_from : Bool → (n at i : ℕ) → List (Entry ℕ) → List ℕ → List ℕ
put_from split n at i [] out = out
put_from split n at i (p ∷ l) out =
    put_from split n at (i + 1) l
    (overwrite (at + attempt_at split n i) (le 4 p.value) (overwrite (at + offset_at split i) (le 8 p.key) out))

-- the loop of `put_pairs`: the pairs that are left, written from pair i on, give what all of them gave at the start
module _ (split : Bool) (n at : ℕ) (ks vs : List ℕ) (i : ℕ) where
  abbrev left : ℕ → List (Entry ℕ)
  left k = drop k (entries ks vs)

  pub put-more : (out after : List ℕ) → i < length ks → i < length vs
      → after ≡ overwrite (at + attempt_at split n i) (le 4 (get_or vs i 0)) (overwrite (at + offset_at split i) (le 8 (get_or ks i 0)) out)
      → put_from split n at (i + 1) (left (i + 1)) after ≡ put_from split n at i (left i) out
  put-more out after h g e =
      let first : left i ≡ entry (get_or ks i 0) (get_or vs i 0) ∷ left (i + 1) = drop-entry 0 i ks vs h g ∙ rw add-one in
      rw (e, first)

  pub put-end : (out : List ℕ) → min (length ks) (length vs) ≤ i → put_from split n at i (left i) out ≡ out
  put-end out h = rw (drop-entries-past i ks vs h)

-- pairs each by itself stand one behind the other
put-together : (n at i : ℕ) (l : List (Entry ℕ)) (out : List ℕ) → at + (5 + 12 * i) + 12 * length l ≤ length out
    → put_from false n at i l out ≡ overwrite (at + (5 + 12 * i)) (pairs_bytes false l) out
put-together n at i [] out room = sym (overwrite_none (at + (5 + 12 * i)) out)
put-together n at i (p ∷ l) out room =
    let pos : ℕ = at + (5 + 12 * i) in
    let attempt : at + (13 + 12 * i) ≡ pos + 8 = omega arith in
    let next : at + (5 + 12 * (i + 1)) ≡ pos + 12 = omega arith in
    let kept : length (overwrite pos (pair_bytes p) out) ≡ length out = length-overwrite pos (pair_bytes p) out (omega arith) in
    rw (attempt, overwrite-append pos (le 8 p.key) (le 4 p.value) out (omega arith))
    (put-together n at (i + 1) l (overwrite pos (pair_bytes p) out) (omega arith)
    ∙ rw (next, overwrite-append pos (pair_bytes p) (pairs_bytes false l) out (omega arith)))

-- offsets and attempts each stand one behind the other
put-apart : (n at i : ℕ) (l : List (Entry ℕ)) (out : List ℕ) → i + length l ≤ n → at + (5 + 12 * n) ≤ length out
    → put_from true n at i l out
    ≡ overwrite (at + (5 + 8 * n + 4 * i)) (attempts_bytes l) (overwrite (at + (5 + 8 * i)) (offsets_bytes l) out)
put-apart n at i [] out few room =
    sym (overwrite_none (at + (5 + 8 * n + 4 * i)) _ ∙ overwrite_none (at + (5 + 8 * i)) out)
put-apart n at i (p ∷ l) out few room =
    let o : ℕ = at + (5 + 8 * i) in
    let a : ℕ = at + (5 + 8 * n + 4 * i) in
    let offset = le 8 p.key in
    let attempt = le 4 p.value in
    let first : List ℕ = overwrite o offset out in
    let kept : length first ≡ length out = length-overwrite o offset out (omega arith) in
    let kept₂ : length (overwrite a attempt first) ≡ length out = length-overwrite a attempt first (omega arith) ∙ kept in
    let offsets : length (offsets_bytes l) ≡ 8 * length l = length-offsets l in
    let all : length (overwrite o (offset ++ offsets_bytes l) out) ≡ length out = length-overwrite o (offset ++ offsets_bytes l) out (omega arith) in
    let next-o : at + (5 + 8 * (i + 1)) ≡ o + 8 = omega arith in
    let next-a : at + (5 + 8 * n + 4 * (i + 1)) ≡ a + 4 = omega arith in
    put-apart n at (i + 1) l (overwrite a attempt first) (omega arith) (omega arith)
    ∙ rw (next-o, next-a, overwrite-apart a (o + 8) attempt (offsets_bytes l) first (omega arith) (omega arith) (inr (omega arith)))
    (rw (overwrite-append o offset (offsets_bytes l) out (omega arith))
    (overwrite-append a attempt (attempts_bytes l) (overwrite o (offset ++ offsets_bytes l) out) (omega arith)))

pub put_all : (split : Bool) (n at : ℕ) (l : List (Entry ℕ)) (out : List ℕ) → length l ≡ n → at + (5 + 12 * n) ≤ length out
    → put_from split n at 0 l out ≡ overwrite (at + 5) (pairs_bytes split l) out
put_all false n at l out size room = put-together n at 0 l out (omega arith)
put_all true n at l out size room =
    let e : at + (5 + 8 * n + 4 * 0) ≡ at + 5 + length (offsets_bytes l) = omega (arith, length-offsets l) in
    put-apart n at 0 l out (omega arith) room
    ∙ rw e (overwrite-append (at + 5) (offsets_bytes l) (attempts_bytes l) out (omega (arith, length-offsets l)))

-- the pairs of two columns are as many as the shorter one has places
pub length_both : (ks vs : List ℕ) → length (entries ks vs) ≡ min (length ks) (length vs)
length_both [] vs = omega arith
length_both (x ∷ ks) [] = omega arith
length_both (x ∷ ks) (v ∷ vs) = omega (arith, length_both ks vs)

-- `put_body`: the version, then the count, then the pairs
pub body-put : (v : ℕ) (l : List (Entry ℕ)) (n at : ℕ) (bs o₁ o₂ : List ℕ) {o : Result ℕ} → length l ≡ n
    → at + (5 + 12 * n) ≤ length bs
    → answer o o₁ ≡ write (at + 1) (le 4 n) (set bs at v)
    → o₂ ≡ overwrite (at + 5) (pairs_bytes (apart v) l) o₁
    → o₂ ≡ overwrite at (body_bytes v l) bs
body-put v l n at bs o₁ o₂ size room count pairs =
    let byte : set bs at v ≡ overwrite at (v ∷ []) bs = overwrite-byte at v bs (omega arith) in
    let head = wrote-behind (at + 1) (le 4 n) (set bs at v) count at (v ∷ []) bs refl byte (omega arith) in
    pairs ∙ rw (head, size) (overwrite-append at (v ∷ le 4 n) (pairs_bytes (apart v) l) bs (omega arith))

-- ---- what `encode_columns` answers, test by test
same : {p q : ℕ} {x : List ℕ} → p ≡ q → answer (done p) x ≡ answer (done q) x
same e = rw e

module _ (v : ℕ) (list : List (Entry ℕ)) (n at : ℕ) (bs : List ℕ) (count : length list ≡ n) where
  pub too_many : PAIRS < n → answer (refused refusal.TooManyPairs) bs ≡ encode_version v list at bs
  too_many h = rw (count, lt-ltb PAIRS n h)

  module _ (few : n ≤ PAIRS) where
    within : encode_version v list at bs ≡ write at (encode_attempts v list) bs
    within = rw (count, le-ltb PAIRS n few)

    pub too_short : length bs < at + (9 + 12 * n) → answer (refused refusal.OutTooShort) bs ≡ encode_version v list at bs
    too_short h = sym (within ∙ write-short at (encode_attempts v list) bs (omega (arith, attempts-length v list)))

    whole : at + (9 + 12 * n) ≤ length bs
        → encode_version v list at bs ≡ answer (done (at + (9 + 12 * n))) (overwrite at (encode_attempts v list) bs)
    whole room =
        let size = attempts-length v list in
        within ∙ write-room at (encode_attempts v list) bs (omega arith) ∙ same (omega arith)

    pub encoded : (o₁ o₂ : List ℕ) (check k : ℕ) {o : Result ℕ} → at + (9 + 12 * n) ≤ length bs → k ≡ 5 + 12 * n
        → o₁ ≡ overwrite at (body_bytes v list) bs
        → check ≡ crc (take k (drop at o₁))
        → answer o o₂ ≡ write (at + (5 + 12 * n)) (le 4 check) o₁
        → answer (done (at + (9 + 12 * n))) o₂ ≡ encode_version v list at bs
    unfolding encode_attempts
    encoded o₁ o₂ check k room part body sum seal =
        let size : length (body_bytes v list) ≡ 5 + 12 * n = omega (arith, length-body v list) in
        let put = sealed-put (body_bytes v list) (5 + 12 * n) at bs o₁ o₂ check size (omega arith) body (rw part at sum) seal in
        rw put (sym (whole room))

-- ---- an array of pairs, as two columns
module _ (pairs : List Pair) (ks vs : List ℕ) (i : ℕ) where
  -- one pair more at the front of the columns
  pub columns-more : (k v : ℕ) → i < length pairs → i < length ks → i < length vs → entry_of (get_or pairs i nil) ≡ entry k v
      → entries (take i ks) (take i vs) ≡ entries_of (take i pairs)
      → entries (take (i + 1) (set ks i k)) (take (i + 1) (set vs i v)) ≡ entries_of (take (i + 1) pairs)
  columns-more k v h g₁ g₂ q e =
      let even : length (take i ks) ≡ length (take i vs) = simp length-take (omega arith) in
      rw (add-one, take-suc-set ks i k g₁, take-suc-set vs i v g₂, take-suc pairs i nil h, entries_snoc k v (take i ks) (take i vs) even, e, ← q)
      (sym (map-append entry_of (take i pairs) (get_or pairs i nil ∷ [])))
