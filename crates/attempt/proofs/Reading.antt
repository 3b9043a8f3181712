-- What the decoder's functions answer, over plain values. Assumes nothing.
use Prim.Native.Nat.{ℕ, zero, suc, ◌+◌, ◌-◌, ◌*◌, ◌<◌, ◌≤◌}
use native.Mathlib.Omega.{arith}
use native.Mathlib.Numerals.{add-one}
use mathlib.Core.Path.{◌≡◌, refl, sym, ap, ◌∙◌}
use mathlib.Core.Bool.{Bool, true, false}
use mathlib.Core.List.{List, [], ◌∷◌, ◌++◌}
use lib.ListN.{length, take, drop, get_or, set, length-map}
use lib.Seq.{take-suc-set, drop-set-lt, append_snoc}
use borrow.Author.Tests.{lt-ltb, le-ltb, le-leb, lt-leb}
use Rattle.types.specs.Limits.{PAIRS}
use Rattle.types.specs.Refusal.{Refusal, Result, refused, done}
use Rattle.types.specs.Refusal as refusal
use Rattle.types.specs.Table.{Row, Passed, checked, answer}
use Rattle.types.specs.Keyed.{Entry}
use Rattle.types.proofs.Table.{checked-done, checked_refused}
use Rattle.types.proofs.Scan.{map-set}
use Rattle.raw.specs.Bytes.{number_at}
use Rattle.attempt.specs.Snapshot.{apart, offset_at, read_pair, read_pairs, pairs_as, pairs_of, pair_count, pairs_in}
use Rattle.attempt.specs.Snapshot.{order_after, order_table, limit_table}
use Rattle.attempt.specs.Snapshot.{decode_table, decode_attempts, decode_into}
use Rattle.attempt.specs.Codec.{blank}
use Rattle.types.specs.declared.Pair.{Pair}
use Rattle.types.specs.Lists.{entry_of, entries_of}
use Rattle.attempt.proofs.Snapshot.{length-read, accepted, accepts, fill-room, fill-short}

-- ---- the tests of `check`, in their order
module _ (b : List ℕ) where
  abbrev check_answer : Result ℕ
  check_answer = checked (decode_table b) (done (pair_count b))

-- ---- the pairs that are left: i of n are passed
module _ (split : Bool) (b : List ℕ) (n i : ℕ) where
  read_more : i < n → read_pairs split n (n - i) i b ≡ read_pair split n i b ∷ read_pairs split n (n - (i + 1)) (i + 1) b
  read_more h =
      let e : n - i ≡ suc (n - (i + 1)) = omega arith in
      rw e

  read-end : n ≤ i → read_pairs split n (n - i) i b ≡ []
  read-end h =
      let e : n - i ≡ 0 = omega arith in
      rw e

  -- the loop of `check_pairs`, behind the offset prev
  module _ (prev : ℕ) (limit : List Row) where
    abbrev order : Result ℕ
    order = checked (order_after prev (read_pairs split n (n - i) i b) ++ limit) (done n)

    abbrev here : ℕ
    here = number_at 8 (offset_at split i) b

    pub falls : i < n → here ≤ prev → order ≡ refused (refusal.NotSorted here prev)
    falls h f = rw (read_more h, le-leb here prev f)

    pub rises : i < n → prev < here
        → order ≡ checked (order_after here (read_pairs split n (n - (i + 1)) (i + 1) b) ++ limit) (done n)
    rises h r = rw (read_more h, lt-leb here prev r)

    pub ordered : n ≤ i → order ≡ checked limit (done n)
    ordered h = rw (read-end h)

  -- the loop of `fill_pairs`: the pairs read, those left and the other places of the array give what the array is to be
  module _ (a : List Pair) where
    pub get-more : (p : Pair) → i < n → n ≤ length a → entry_of p ≡ read_pair split n i b
        → take (i + 1) (entries_of (set a i p)) ++ (read_pairs split n (n - (i + 1)) (i + 1) b ++ drop n (entries_of (set a i p)))
        ≡ take i (entries_of a) ++ (read_pairs split n (n - i) i b ++ drop n (entries_of a))
    get-more p h fits e =
        let l : i < length (entries_of a) = rw length-map (omega arith) in
        let q : Entry ℕ = read_pair split n i b in
        rw (map-set entry_of a i p, e, read_more h, add-one, take-suc-set (entries_of a) i q l, drop-set-lt n (entries_of a) i q h, append_snoc)

pub length-blank : length blank ≡ 128
unfolding blank
length-blank = refl

first-offset : (split : Bool) → offset_at split 0 ≡ 5
first-offset false = refl
first-offset true = refl

pub order-start : (split : Bool) (b : List ℕ) (n : ℕ) (limit : List Row)
    → checked (order_table (read_pairs split n n 0 b) ++ limit) (done n) ≡ order split b n 1 (number_at 8 5 b) limit
order-start split b zero limit = refl
order-start split b (suc n) limit =
    let e : suc n - 1 ≡ n = omega arith in
    rw (e, first-offset split)

-- the limit at the end of that loop
module _ (v n : ℕ) (b : List ℕ) where
  pub too_many : PAIRS < n → checked (limit_table (pairs_as v n b)) (done n) ≡ refused refusal.TooManyPairs
  too_many h = rw (length-read (apart v) n n 0 b, lt-ltb PAIRS n h)

  pub few : n ≤ PAIRS → checked (limit_table (pairs_as v n b)) (done n) ≡ done n
  few h = rw (length-read (apart v) n n 0 b, le-ltb PAIRS n h)

-- ---- outcomes

module _ (b : List ℕ) where
  -- the tests refused, or let n pairs through
  pub refused-bytes : (q : Refusal) → refused q ≡ check_answer b → decode_attempts b ≡ refused q
  unfolding decode_attempts
  refused-bytes q e = checked_refused (decode_table b) (pair_count b) (done (pairs_in b)) q (sym e)

  module _ (n : ℕ) (e : done n ≡ check_answer b) where
    passed : Passed (decode_table b) × (pair_count b ≡ n)
    passed = checked-done (decode_table b) (pair_count b) n (sym e)

    pub fits : (n ≤ 128) × (5 + 12 * n ≤ length b)
    fits =
        let a = accepted b passed.0 in
        let c = passed.1 in
        (omega (arith, a.few), omega (arith, a.long))

    pub decoded-bytes : decode_attempts b ≡ done (pairs_of n b)
    decoded-bytes = accepts b passed.0 ∙ ap (λ (k : ℕ). done (pairs_of k b)) passed.1

    -- what the bytes hold, in a list with room, and in one without
    pub into : (lent : List (Entry ℕ)) → n ≤ length lent → answer (done n) (pairs_of n b ++ drop n lent) ≡ decode_into b lent
    into lent room = rw decoded-bytes (sym (fill-room (pairs_of n b) lent n (length-read (apart (get_or b 0 0)) n n 0 b) room))

    pub no_room : (lent : List (Entry ℕ)) → length lent < n → answer (refused refusal.OutTooShort) lent ≡ decode_into b lent
    no_room lent short = rw decoded-bytes (sym (fill-short (pairs_of n b) lent n (length-read (apart (get_or b 0 0)) n n 0 b) short))

  pub refused-into : (q : Refusal) → refused q ≡ check_answer b → (lent : List (Entry ℕ)) → answer (refused q) lent ≡ decode_into b lent
  refused-into q e lent = rw (refused-bytes q e)
