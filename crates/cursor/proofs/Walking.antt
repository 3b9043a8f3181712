-- Walks over ranges that store none of them: a walk has seen the first of the ranges, without a fault, and knows the end of the last.
-- And the columns of a snapshot's ranges. Assumes nothing.
use Prim.Native.Nat.{ℕ, zero, suc, ◌+◌, ◌*◌, ◌<◌, ◌≤◌, min}
use native.Mathlib.Omega.{arith}
use mathlib.Core.Path.{◌≡◌, refl, sym, ap, ◌∙◌}
use native.Mathlib.Numerals.{add-one}
use Rattle.std.specs.Prelude.{Ok, Err}
use Rattle.std.specs.Prelude as std
use mathlib.Core.List.{List, [], ◌∷◌, ◌++◌, map}
use mathlib.Core.Option.{none, some}
use lib.ListN.{length, take, drop, get_or, set, take-append-drop}
use lib.Seq.{take_all, take-suc, take-append_seam}
use borrow.Author.Tests.{lt-ltb, le-ltb}
use Rattle.types.specs.Limits.{RANGES}
use Rattle.types.specs.Refusal.{Refusal, TooManyRuns, done}
use Rattle.types.specs.Table.{first, unless}
use Rattle.types.specs.Zipped.{zipped}
use Rattle.types.proofs.Table.{first_none, first-met-before, first_none_before}
use Rattle.types.proofs.Loops.{Filling, filling-more}
use Rattle.raw.specs.Bytes.{IsBytes, number_at}
use Rattle.cursor.specs.Ranges.{range}
use Rattle.cursor.specs.Cursor.{range_table, ranges_table, resume_table}
use Rattle.cursor.specs.Snapshot.{read_ranges, column_from, range_count, cursor_in, decode_table, decode_cursor}
use Rattle.cursor.specs.View.{ack_cursor}
use Rattle.cursor.specs.Place.{rangeAt}
use Rattle.cursor.specs.Answers.{decode_fault, DecodedIs, CheckedIs}
use Rattle.cursor.specs.declared.Range.{Range}
use Rattle.cursor.specs.declared.SnapshotError.{SnapshotError}
use Rattle.cursor.specs.declared.columns.Figures.{Figures}
use Rattle.cursor.proofs.Ranges.{last_end}
use Rattle.cursor.proofs.Snapshot.{length-read, passed-few, accepted}
use Rattle.cursor.proofs.Reading.{decode_restored}

-- ## a walk
-- ranges behind others
table_more : (n : ℕ) (l rest : List Range) → ranges_table n (l ++ rest) ≡ ranges_table n l ++ ranges_table (last_end n l) rest
table_more n [] rest = refl
table_more n (p ∷ l) rest = rw (table_more p.end l rest)

last_more : (n : ℕ) (l : List Range) (r : Range) → last_end n (l ++ r ∷ []) ≡ r.end
last_more n [] r = refl
last_more n (p ∷ l) r = last_more p.end l r

-- a walk stands before the range at i: those before it have no fault, and `last` is the end of the last of them
pub record Walked (n : ℕ) (all : List Range) (i last : ℕ) : Type 0 where
  pub ends : last ≡ last_end n (take i all)
  pub clear : first (ranges_table n (take i all)) ≡ none

pub walked-none : (n : ℕ) (all : List Range) → Walked n all 0 n
walked-none n all = record { ends = refl; clear = refl }

module _ {n : ℕ} {all : List Range} {i last : ℕ} (w : Walked n all i last) where
  -- the range at i
  module _ (r : Range) (h : i < length all) (is : r ≡ rangeAt i all) where
    one-more : take (suc i) all ≡ take i all ++ r ∷ []
    one-more = rw is (take-suc all i (range 0 0) h)

    fault-here : first (ranges_table n (take (suc i) all)) ≡ first (range_table last r)
    fault-here =
        ap (λ (l : List Range). first (ranges_table n l)) one-more
        ∙ ap first (table_more n (take i all) (r ∷ []))
        ∙ first_none_before (ranges_table n (take i all)) (range_table (last_end n (take i all)) r) w.clear
        ∙ ap (λ (e : ℕ). first (range_table e r)) (sym w.ends)

    pub walked-more : none ≡ first (range_table last r) → Walked n all (i + 1) r.end
    walked-more f =
        rw add-one (record {
          ends = sym (ap (last_end n) one-more ∙ last_more n (take i all) r);
          clear = fault-here ∙ sym f;
        })

    pub walked-fault : (q : Refusal) → some q ≡ first (range_table last r) → some q ≡ first (resume_table n all)
    walked-fault q f =
        let l = take (suc i) all in
        let rest = drop (suc i) all in
        let here : first (ranges_table n all) ≡ some q = ap (λ (x : List Range). first (ranges_table n x)) (sym (take-append-drop (suc i) all)) ∙ ap first (table_more n l rest) ∙ first-met-before (ranges_table n l) (ranges_table (last_end n l) rest) q (fault-here ∙ sym f) in
        sym (first-met-before (ranges_table n all) _ q here)

  -- all of them
  module _ (over : length all ≤ i) where
    whole : first (ranges_table n all) ≡ none
    whole = ap (λ (l : List Range). first (ranges_table n l)) (sym (take_all i all over)) ∙ w.clear

    pub walked-many : RANGES < length all → some TooManyRuns ≡ first (resume_table n all)
    walked-many h = sym (first_none_before (ranges_table n all) _ whole ∙ rw (lt-ltb RANGES (length all) h))

    pub walked-few : length all ≤ RANGES → none ≡ first (resume_table n all)
    walked-few h = sym (first_none_before (ranges_table n all) _ whole ∙ rw (le-ltb RANGES (length all) h))

-- ## the ranges of two columns
-- as many ranges as the shorter of two columns has places
pub columns-size : (xs ys : List ℕ) → length (zipped range xs ys) ≡ min (length xs) (length ys)
columns-size [] ys = omega arith
columns-size (x ∷ xs) [] = omega arith
columns-size (x ∷ xs) (y ∷ ys) = omega (arith, columns-size xs ys)

pub columns-at : (k : ℕ) (xs ys : List ℕ) → k < length xs → k < length ys → range (get_or xs k 0) (get_or ys k 0) ≡ rangeAt k (zipped range xs ys)
columns-at k [] ys hx hy = absurd (omega arith)
columns-at k (x ∷ xs) [] hx hy = absurd (omega arith)
columns-at zero (x ∷ xs) (y ∷ ys) hx hy = refl
columns-at (suc k) (x ∷ xs) (y ∷ ys) hx hy = columns-at k xs ys (omega arith) (omega arith)

pub columns-all : (k : ℕ) (xs ys : List ℕ) → min (length xs) (length ys) ≤ k → take k (zipped range xs ys) ≡ zipped range xs ys
columns-all k xs ys h = take_all k (zipped range xs ys) (omega (arith, columns-size xs ys))

-- ## the ranges in bytes
pub read-at : (i n pos : ℕ) (bytes : List ℕ) → i < n → range (number_at 8 (pos + 16 * i) bytes) (number_at 8 (pos + 16 * i + 8) bytes) ≡ rangeAt i (read_ranges n pos bytes)
read-at i zero pos bytes h = absurd (omega arith)
read-at zero (suc n) pos bytes h =
    let e : pos + 16 * 0 ≡ pos = omega arith in
    rw e
read-at (suc i) (suc n) pos bytes h =
    let e : pos + 16 * suc i ≡ pos + 16 + 16 * i = omega arith in
    rw e (read-at i n (pos + 16) bytes (omega arith))

-- the test of a snapshot says what the bytes hold
pub checked-cursor : {T : Type 0} (bytes : List ℕ) (r : std.Result T SnapshotError) → decode_fault r ≡ first (decode_table bytes) → unless (decode_fault r) (done (cursor_in bytes)) ≡ decode_cursor bytes
unfolding decode_cursor
checked-cursor bytes r e = rw e

-- ## columns
module _ (bytes : List ℕ) where
  pub starts-column : (n pos : ℕ) → map (λ (r : Range). r.start) (read_ranges n pos bytes) ≡ column_from n pos bytes
  starts-column zero pos = refl
  starts-column (suc n) pos = ap (λ (l : List ℕ). number_at 8 pos bytes ∷ l) (starts-column n (pos + 16))

  pub ends-column : (n pos : ℕ) → map (λ (r : Range). r.end) (read_ranges n pos bytes) ≡ column_from n (pos + 8) bytes
  ends-column zero pos = refl
  ends-column (suc n) pos =
      let e : pos + 16 + 8 ≡ pos + 8 + 16 = omega arith in
      ap (λ (l : List ℕ). number_at 8 (pos + 8) bytes ∷ l)
      (ends-column n (pos + 16) ∙ ap (λ (p : ℕ). column_from n p bytes) e)

  pub length-column : (n pos : ℕ) → length (column_from n pos bytes) ≡ n
  length-column zero pos = refl
  length-column (suc n) pos = ap suc (length-column n (pos + 16))

  -- both columns are the ranges
  columns-read : (n pos : ℕ) → zipped range (column_from n pos bytes) (column_from n (pos + 8) bytes) ≡ read_ranges n pos bytes
  columns-read zero pos = refl
  columns-read (suc n) pos =
      let e : pos + 8 + 16 ≡ pos + 16 + 8 = omega arith in
      rw e (ap (λ (l : List Range). range (number_at 8 pos bytes) (number_at 8 (pos + 8) bytes) ∷ l) (columns-read n (pos + 16)))

  column-front : (n pos : ℕ) (behind : List ℕ) → take n (column_from n pos bytes ++ behind) ≡ column_from n pos bytes
  column-front n pos behind = rw (length-column n pos) at (take-append_seam (column_from n pos bytes) behind)

  number-at : (n pos i : ℕ) → i < n → get_or (column_from n pos bytes) i 0 ≡ number_at 8 (pos + 16 * i) bytes
  number-at zero pos i h = absurd (omega arith)
  number-at (suc n) pos zero h =
      let e : pos + 16 * 0 ≡ pos = omega arith in
      rw e
  number-at (suc n) pos (suc i) h =
      let e : pos + 16 + 16 * i ≡ pos + 16 * suc i = omega arith in
      number-at n (pos + 16) i (omega arith) ∙ ap (λ (p : ℕ). number_at 8 p bytes) e

  -- the loop of `read_column`: a number more, and all of them
  module _ (n pos : ℕ) {start out : List ℕ} {i : ℕ} where
    pub column-more : (x : ℕ) → x ≡ number_at 8 (pos + 16 * i) bytes → i < n → Filling (column_from n pos bytes) start out n i
        → Filling (column_from n pos bytes) start (set out i x) n (i + 1)
    column-more x e h f = rw (e, ← number-at n pos i h) (filling-more 0 (omega (arith, length-column n pos)) h f)

    pub column-all : n ≤ i → Filling (column_from n pos bytes) start out n i → out ≡ column_from n pos bytes ++ drop n start
    column-all h f =
        let e : i ≡ n = omega (arith, f.inside) in
        let front = rw (e, take_all n (column_from n pos bytes) (omega (arith, length-column n pos))) at f.done in
        let rest = rw e at f.rest in
        rw (← front, ← rest, take-append-drop n out)

-- ## a snapshot that was tested
module _ (bytes : List ℕ) (f : Figures) (is : CheckedIs bytes (Ok f)) where
  pub checked-few : f.runs ≤ 128
  checked-few =
      let a = accepted bytes (first_none (decode_table bytes) (sym is.fault)) in
      omega (arith, is.figures.runs, length-read (range_count bytes) 9 bytes, passed-few (cursor_in bytes).committed (cursor_in bytes).ahead a.ranges)

  -- its columns, whatever stands behind them, are those of the cursor that the bytes hold
  pub columns-restored : IsBytes bytes → (starts ends behind behind' : List ℕ) → starts ≡ column_from f.runs 9 bytes ++ behind → ends ≡ column_from f.runs 17 bytes ++ behind'
      → DecodedIs bytes (Ok (ack_cursor f.committed starts ends f.runs))
  columns-restored h starts ends behind behind' s e =
      let n = is.figures in
      decode_restored bytes h is.fault _ n.runs (rw (s, e, column-front bytes f.runs 9 behind, column-front bytes f.runs 17 behind', n.committed, n.runs, columns-read bytes (range_count bytes) 9))
