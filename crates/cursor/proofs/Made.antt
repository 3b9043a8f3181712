-- Words that are made anew: from a committed offset, from the ranges of two columns, from a snapshot. Assumes nothing.
use Prim.Native.Nat.{ℕ, zero, suc, ◌+◌, ◌≤◌, ◌<◌, min}
use native.Mathlib.Omega.{arith}
use mathlib.Core.Path.{◌≡◌, refl, sym, ap, subst, ◌∙◌}
use mathlib.Core.List.{List, [], ◌∷◌, ◌++◌, map}
use Rattle.std.specs.Prelude.{Ok, Err}
use mathlib.Core.Option.{none, some}
use lib.ListN.{length, take, drop, get_or, set, length-set}
use lib.Seq.{paste, take_all, take-paste}
use Rattle.std.proofs.lemmas.List.{length-map}
use Rattle.types.proofs.Loops.{Filling, filling-more}
use borrow.Rule.Slice.PartMut.{put_mid}
use Rattle.types.specs.Limits.{MAX, RANGES}
use Rattle.types.specs.Refusal.{done}
use Rattle.types.specs.Table.{first}
use Rattle.types.specs.Zipped.{zipped}
use Rattle.types.proofs.Table.{first_none}
use Rattle.types.proofs.Zipped.{zipped-take}
use Rattle.raw.specs.Bytes.{IsBytes}
use Rattle.cursor.specs.Ranges.{range, EndsFit}
use Rattle.cursor.specs.Cursor.{cursor, Valid, resume_table, resume, resume_with_ahead}
use Rattle.cursor.specs.Snapshot.{column_from, decode_cursor}
use Rattle.cursor.specs.View.{ack_cursor}
use Rattle.cursor.specs.View as cursors
use Rattle.cursor.specs.Answers.{ranges_error, snapshot_error, ResumedIs, CheckedIs}
use Rattle.cursor.specs.Layout.{COMMITTED, RUNS, STARTS, ENDS, WORDS, cursor_in}
use Rattle.cursor.specs.Words.{Becomes, Makes}
use Rattle.cursor.specs.declared.AckCursor.{AckCursor}
use Rattle.cursor.specs.declared.Range.{Range}
use Rattle.cursor.specs.declared.AckCursorError.{AckCursorError}
use Rattle.cursor.specs.declared.SnapshotError.{SnapshotError}
use Rattle.cursor.specs.declared.columns.Figures.{Figures}
use Rattle.cursor.proofs.Snapshot.{passed-few, passed-valid, resume-back}
use Rattle.cursor.proofs.Walking.{columns-size, columns-all, checked-cursor, columns-restored}
use Rattle.cursor.proofs.Words.{stored, stored-numbers, stored_is, stored-long}

-- ## nothing ahead
pub becomes-empty : (w : List ℕ) → length w ≡ WORDS → (n : ℕ) → n ≤ MAX → Becomes (set (set w COMMITTED n) RUNS 0) (resume n)
becomes-empty w l n h =
    let e = stored-numbers w l n 0 in
    record {
      is = ap cursors.view e;
      sound =
          record {
            long = length-set (set w COMMITTED n) RUNS 0 ∙ length-set w COMMITTED n ∙ l;
            cursor = subst cursors.Sound (sym e) (record { few = omega arith; valid = record { fits = h; above = tt; few = omega arith } });
          };
    }

-- ## the ranges of two columns
pub columns-fit : (xs ys : List ℕ) → ((i : ℕ) → get_or ys i 0 ≤ MAX) → EndsFit (zipped range xs ys)
columns-fit [] ys h = tt
columns-fit (x ∷ xs) [] h = tt
columns-fit (x ∷ xs) (y ∷ ys) h = (h 0, columns-fit xs ys (λ i. h (suc i)))

-- ranges that were tested, and the cursor of them
pub resume_refused : (n : ℕ) (all : List Range) (e : AckCursorError) → some (ranges_error e) ≡ first (resume_table n all) → ResumedIs n all (Err e)
unfolding resume_with_ahead
resume_refused n all e f = record { is = rw (← f); sound = tt }

pub resumed : (n : ℕ) (all : List Range) (c : AckCursor) → n ≤ MAX → EndsFit all → none ≡ first (resume_table n all) → c.runs ≡ length all → cursors.view c ≡ cursor n all → ResumedIs n all (Ok c)
resumed n all c m fits f size is =
    let passed = first_none (resume_table n all) (sym f) in
    let v = passed-valid n all m fits passed in
    record {
      is = ap done is ∙ sym (resume-back n all v);
      sound = record { few = omega (arith, passed-few n all passed); valid = subst Valid (sym is) v };
    }

-- each end that was read is a u64
pub ends-read : (l : List Range) → ((k : ℕ) → k < length l → (get_or l k (range 0 0)).end ≤ MAX) → EndsFit l
ends-read [] h = tt
ends-read (r ∷ l) h = (h 0 (omega arith), ends-read l (λ k b. h (suc k) (omega arith)))

-- a field of each, in a column: one more
field-at : (f : Range → ℕ) (l : List Range) (i : ℕ) → i < length l → get_or (map f l) i 0 ≡ f (get_or l i (range 0 0))
field-at f [] i h = absurd (omega arith)
field-at f (r ∷ l) zero h = refl
field-at f (r ∷ l) (suc i) h = field-at f l i (omega arith)

pub field-put : (f : Range → ℕ) (all : List Range) {start out : List ℕ} {i : ℕ} → i < length all → Filling (map f all) start out (length all) i
    → Filling (map f all) start (set out i (f (get_or all i (range 0 0)))) (length all) (i + 1)
field-put f all {start} {out} {i} h w = rw (← field-at f all i h) (filling-more 0 (omega (arith, length-map all f)) h w)

-- ranges in columns of their own
columns-of : (l : List Range) → zipped range (map (λ (r : Range). r.start) l) (map (λ (r : Range). r.end) l) ≡ l
columns-of [] = refl
columns-of (r ∷ l) = ap (λ (x : List Range). r ∷ x) (columns-of l)

pub ranges-put : (n : ℕ) (all : List Range) {s e a b : List ℕ} {i : ℕ} → length all ≤ i
    → Filling (map (λ (r : Range). r.start) all) a s (length all) i → Filling (map (λ (r : Range). r.end) all) b e (length all) i
    → cursors.view (ack_cursor n s e (length all)) ≡ cursor n all
ranges-put n all {s} {e} {a} {b} {i} h p q =
    let is : i ≡ length all = omega (arith, p.inside) in
    let front = rw (is, take_all (length all) (map (λ (r : Range). r.start) all) (omega (arith, length-map all (λ (r : Range). r.start)))) at p.done in
    let front' = rw (is, take_all (length all) (map (λ (r : Range). r.end) all) (omega (arith, length-map all (λ (r : Range). r.end)))) at q.done in
    rw (front, front', columns-of all)

pub resume-kept : (w : List ℕ) (n : ℕ) (xs ys : List ℕ) (e : AckCursorError) → some (ranges_error e) ≡ first (resume_table n (zipped range xs ys))
    → Makes (some (ranges_error e)) w w (resume_with_ahead n (zipped range xs ys))
unfolding resume_with_ahead
resume-kept w n xs ys e f = record { is = rw (← f); left = refl }

module _ (n : ℕ) (xs ys : List ℕ) (f : none ≡ first (resume_table n (zipped range xs ys))) (runs : ℕ) (size : runs ≡ min (length xs) (length ys)) where
  -- they are few enough
  pub columns-few : runs ≤ RANGES
  columns-few = omega (arith, passed-few n (zipped range xs ys) (first_none (resume_table n (zipped range xs ys)) (sym f)), columns-size xs ys, size)

  -- put at the front of both columns, they are the cursor
  pub columns-put : (s e a b : List ℕ) → s ≡ paste a 0 xs runs → e ≡ paste b 0 ys runs → cursors.view (ack_cursor n s e runs) ≡ cursor n (zipped range xs ys)
  columns-put s e a b p q =
      let z : 0 + runs ≡ runs = omega arith in
      let front : take runs s ≡ take runs xs = ap (take runs) p ∙ ap (λ (k : ℕ). take k (paste a 0 xs runs)) (sym z) ∙ take-paste a 0 xs runs (omega arith) (omega arith) in
      let front' : take runs e ≡ take runs ys = ap (take runs) q ∙ ap (λ (k : ℕ). take k (paste b 0 ys runs)) (sym z) ∙ take-paste b 0 ys runs (omega arith) (omega arith) in
      rw (front, front', ← zipped-take range runs xs ys, columns-all runs xs ys (omega arith))

-- both columns filled and both numbers stored
module _ (w : List ℕ) (l : length w ≡ WORDS) (s : List ℕ) (ls : length s ≡ length (take RANGES (drop STARTS w)))
    (e : List ℕ) (le : length e ≡ length (take RANGES (drop ENDS (put_mid STARTS RANGES w s)))) where
  pub resume-made : (n : ℕ) (xs ys : List ℕ) (f : none ≡ first (resume_table n (zipped range xs ys))) (runs : ℕ) (size : runs ≡ min (length xs) (length ys))
      → n ≤ MAX → ((i : ℕ) → get_or ys i 0 ≤ MAX)
      → s ≡ paste (take RANGES (drop STARTS w)) 0 xs runs → e ≡ paste (take RANGES (drop ENDS (put_mid STARTS RANGES w s))) 0 ys runs
      → Makes none w (stored w s e n runs) (resume_with_ahead n (zipped range xs ys))
  resume-made n xs ys f runs size m fits p q =
      let is = ap cursors.view (stored_is w l s ls e le n runs) ∙ columns-put n xs ys f runs size s e _ _ p q in
      let v = passed-valid n (zipped range xs ys) m (columns-fit xs ys fits) (first_none (resume_table n (zipped range xs ys)) (sym f)) in
      let count : (cursor_in (stored w s e n runs)).runs ≡ runs = ap (λ (g : AckCursor). g.runs) (stored_is w l s ls e le n runs) in
      record {
        is = ap done is ∙ sym (resume-back n (zipped range xs ys) v);
        left = record { long = stored-long w l s ls e le n runs; cursor = record { few = omega (arith, count, columns-few n xs ys f runs size); valid = subst Valid (sym is) v } };
      }

  pub decode_made : (bytes : List ℕ) (f : Figures) → CheckedIs bytes (Ok f) → IsBytes bytes
      → s ≡ column_from f.runs 9 bytes ++ drop f.runs (take RANGES (drop STARTS w))
      → e ≡ column_from f.runs 17 bytes ++ drop f.runs (take RANGES (drop ENDS (put_mid STARTS RANGES w s)))
      → Makes none w (stored w s e f.committed f.runs) (decode_cursor bytes)
  decode_made bytes f is known p p' =
      let c = stored_is w l s ls e le f.committed f.runs in
      let d = columns-restored bytes f is known s e _ _ p p' in
      record {
        is = ap (λ (g : AckCursor). done (cursors.view g)) c ∙ d.is;
        left = record { long = stored-long w l s ls e le f.committed f.runs; cursor = subst cursors.Sound (sym c) d.sound };
      }

-- ## a snapshot that is refused
pub decode_kept : (w bytes : List ℕ) (e : SnapshotError) → CheckedIs bytes (Err e) → Makes (some (snapshot_error e)) w w (decode_cursor bytes)
decode_kept w bytes e is = record { is = checked-cursor {T = Figures} bytes (Err e) is.fault; left = refl }
