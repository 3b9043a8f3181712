-- What the exported functions answer, from what the codecs' contracts say. Assumes nothing.
use Prim.Native.Nat.{ℕ, ◌*◌, ◌≤◌, ◌<◌, min}
use native.Mathlib.Omega.{arith}
use mathlib.Core.Path.{◌≡◌, refl, sym, ap, ◌∙◌}
use mathlib.Core.List.{List, [], ◌∷◌, ◌++◌}
use mathlib.Core.Option.{Option, none, some}
use lib.ListN.{length, take, drop, get_or, length-map}
use borrow.Author.Tests.{ltb-false}
use Rattle.std.specs.Prelude.{Ok, Err}
use Rattle.std.specs.Prelude as std
use Rattle.types.specs.Refusal.{Refusal, Result, refused, done, answered}
use Rattle.types.specs.Refused.{as_is, result_of}
use Rattle.types.specs.Table.{Row, Passed, Answer, answer, first, checked}
use Rattle.types.specs.declared.refusals.Refusal as code_refusal
use Rattle.types.specs.Zipped.{zipped}
use Rattle.types.proofs.Table.{first_none, checked-passed, guarded-passed, guarded-refused}
use Rattle.types.proofs.Checked.{refused_not_done, checked-says}
use Rattle.types.proofs.Zipped.{zipped-take}
use Rattle.raw.specs.Bytes.{write}
use Rattle.cursor.specs.Ranges.{range}
use Rattle.cursor.specs.Cursor.{cursor, resume_table, resume_with_ahead}
use Rattle.cursor.specs.Snapshot.{encode_cursor, read_ranges, column_from, range_count, cursor_in, decode_cursor}
use Rattle.cursor.specs.View.{ack_cursor, view}
use Rattle.cursor.specs.Answers.{snapshot_error, CheckedIs}
use Rattle.cursor.specs.declared.Range.{Range}
use Rattle.cursor.specs.declared.columns.Figures.{Figures}
use Rattle.cursor.proofs.Snapshot.{length-read, passed-few}
use Rattle.cursor.proofs.Walking.{columns-all, columns-size, checked-cursor, starts-column, ends-column}
use Rattle.attempt.specs.Snapshot.{apart, pairs_of, pair_count, decode_table}
use Rattle.attempt.proofs.Codec.{checked-bytes, checked-fits}
use Rattle.attempt.proofs.Snapshot as pair-laws
use Rattle.answers.specs.Numbers.{numbers_of, one_value, figures_values, values}
use Rattle.answers.specs.declared.Numbers.{Numbers}
use Rattle.exports.specs.Answers.{crossed, cross}
use Rattle.exports.specs.Snapshots.{Columns, columns, starts_of, ends_of, keys_of, values_of, front, room_rows, fill, encode_ranges, decode_ranges, decode_pairs}

-- ## answers in numbers
pub crossed_as : {A S : Type 0} (given : A → List ℕ) {o : Result A} {s : S} {a : Answer A S} {t : Numbers} → answer o s ≡ a → t ≡ numbers_of (answered given o)
    → crossed t s ≡ cross given a
crossed_as given e u = rw (← e, u)

-- the values of what was answered
pub told_values : {T : Type 0} (given : T → List ℕ) (r : std.Result T code_refusal.Refusal) {t : Numbers} → t ≡ numbers_of (answered given (as_is r))
    → t ≡ numbers_of (answered values (result_of given r))
told_values given (Ok x) e = e
told_values given (Err f) e = e

-- ## columns into lent ones
module _ {n left right : ℕ} where
  pub has_room : ◌≡◌ {A = Result (Unit {0})} (done tt) (checked (room_rows n left right) (done tt)) → (n ≤ left) × (n ≤ right)
  has_room e =
      let passed = (checked-says (room_rows n left right) (done tt) tt (sym e)).0 in
      (ltb-false left n passed.0, ltb-false right n passed.1.0)

first_refused : (ws : List Row) (f : Refusal) → ◌≡◌ {A = Result (Unit {0})} (refused f) (checked ws (done tt)) → first ws ≡ some f
first_refused ws f e = go (first ws) refl
  where
    go : (o : Option Refusal) → first ws ≡ o → first ws ≡ some f
    go none q = refused_not_done (rw q at e)
    go (some g) q = let same : ◌≡◌ {A = Result (Unit {0})} (refused f) (refused g) = rw q at e in q ∙ cc

module _ (told : List ℕ) (new lent : Columns) {n : ℕ} (l : length new.left ≡ n) (r : length new.right ≡ n) where
  abbrev rows : List Row
  rows = room_rows n (length lent.left) (length lent.right)

  abbrev put : Answer (List ℕ) Columns
  put = answer (done told) (columns (front new.left lent.left) (front new.right lent.right))

  pub filled : ◌≡◌ {A = Result (Unit {0})} (done tt) (checked rows (done tt)) → put ≡ fill told new lent
  filled e = let passed = (checked-says rows (done tt) tt (sym e)).0 in rw (l, r) (sym (guarded-passed rows lent _ passed))

  pub not_filled : (f : Refusal) → ◌≡◌ {A = Result (Unit {0})} (refused f) (checked rows (done tt)) → answer (refused f) lent ≡ fill told new lent
  not_filled f e = rw (l, r) (sym (guarded-refused rows lent _ f (first_refused rows f e)))

-- ## ranges
-- ranges in columns that passed their test are written
module _ (committed : ℕ) (starts ends : List ℕ) where
  abbrev ahead : List Range
  ahead = zipped range starts ends

  pub cursor_not_written : (at : ℕ) (out : List ℕ) (f : Refusal) → some f ≡ first (resume_table committed ahead) → answer (refused f) out ≡ encode_ranges committed ahead at out
  unfolding resume_with_ahead
  cursor_not_written at out f e = rw (← e)

  module _ (is : none ≡ first (resume_table committed ahead)) (n : ℕ) (size : n ≡ min (length starts) (length ends)) where
    tested : Passed (resume_table committed ahead)
    tested = first_none (resume_table committed ahead) (sym is)

    pub columns-fit : (n ≤ 128) × (n ≤ length starts) × (n ≤ length ends)
    columns-fit = (omega (arith, passed-few committed ahead tested, columns-size starts ends), omega arith, omega arith)

    whole : zipped range (take n starts) (take n ends) ≡ ahead
    whole = sym (zipped-take range n starts ends) ∙ columns-all n starts ends (omega arith)

    pub cursor-written : (at : ℕ) (out : List ℕ) → write at (encode_cursor (view (ack_cursor committed starts ends n))) out ≡ encode_ranges committed ahead at out
    unfolding resume_with_ahead
    cursor-written at out = rw (checked-passed (resume_table committed ahead) (done (cursor committed ahead)) tested, whole)

-- a snapshot that was tested is listed
module _ (b : List ℕ) (starts ends : List ℕ) where
  abbrev lent : Columns
  lent = columns starts ends

  abbrev held : List Range
  held = read_ranges (range_count b) 9 b

  pub cursor-refused : (error : _) → CheckedIs b (Err error) → (f : Refusal) → f ≡ snapshot_error error → answer (refused f) lent ≡ decode_ranges b lent
  cursor-refused error is f e = rw (e, ← checked-cursor {T = Figures} b (Err error) is.fault)

  module _ (f : Figures) (is : CheckedIs b (Ok f)) where
    said : done (cursor_in b) ≡ decode_cursor b
    said = checked-cursor b (Ok f) is.fault

    size-starts : length (starts_of held) ≡ f.runs
    size-starts = length-map held (λ r. r.start) ∙ length-read (range_count b) 9 b ∙ sym is.figures.runs

    size-ends : length (ends_of held) ≡ f.runs
    size-ends = length-map held (λ r. r.end) ∙ length-read (range_count b) 9 b ∙ sym is.figures.runs

    abbrev room : Result (Unit {0})
    room = checked (room_rows f.runs (length starts) (length ends)) (done tt)

    pub cursor_without_room : (q : Refusal) → refused q ≡ room → answer (refused q) lent ≡ decode_ranges b lent
    cursor_without_room q e = rw (← said) (not_filled _ (columns (starts_of held) (ends_of held)) lent size-starts size-ends q e)

    pub cursor-listed : done tt ≡ room → (s e : List ℕ) → s ≡ column_from f.runs 9 b ++ drop f.runs starts → e ≡ column_from f.runs 17 b ++ drop f.runs ends
        → answer (result_of figures_values (Ok f)) (columns s e) ≡ decode_ranges b lent
    cursor-listed h s e p q =
        let left : column_from f.runs 9 b ≡ starts_of held = ap (λ n. column_from n 9 b) is.figures.runs ∙ sym (starts-column b (range_count b) 9) in
        let right : column_from f.runs 17 b ≡ ends_of held = ap (λ n. column_from n 17 b) is.figures.runs ∙ sym (ends-column b (range_count b) 9) in
        let on_left : s ≡ front (starts_of held) starts = p ∙ rw size-starts (ap (λ (l : List ℕ). l ++ drop f.runs starts) left) in
        let on_right : e ≡ front (ends_of held) ends = q ∙ rw size-ends (ap (λ (l : List ℕ). l ++ drop f.runs ends) right) in
        let count : f.runs ≡ length held = is.figures.runs ∙ sym (length-read (range_count b) 9 b) in
        rw (← said, on_left, on_right, is.figures.committed, count)
        (filled ((cursor_in b).committed ∷ length held ∷ []) (columns (starts_of held) (ends_of held)) lent size-starts size-ends h)

-- ## pairs
-- a snapshot that was tested is listed
module _ (b : List ℕ) (offsets attempts : List ℕ) where
  abbrev places : Columns
  places = columns offsets attempts

  pub pairs-refused : (f : Refusal) → refused f ≡ checked (decode_table b) (done (pair_count b)) → answer (refused f) places ≡ decode_pairs b places
  pairs-refused f e = rw (checked-bytes b (refused f) e)

  module _ (n : ℕ) (is : done n ≡ checked (decode_table b) (done (pair_count b))) where
    pub pairs-fit : 12 * n ≤ length b
    pairs-fit = checked-fits b (done n) is

    size : length (pairs_of n b) ≡ n
    size = pair-laws.length-read (apart (get_or b 0 0)) n n 0 b

    size-offsets : length (keys_of (pairs_of n b)) ≡ n
    size-offsets = length-map (pairs_of n b) (λ e. e.key) ∙ size

    size-attempts : length (values_of (pairs_of n b)) ≡ n
    size-attempts = length-map (pairs_of n b) (λ e. e.value) ∙ size

    abbrev fitting : Result (Unit {0})
    fitting = checked (room_rows n (length offsets) (length attempts)) (done tt)

    pub pairs_without_room : (q : Refusal) → refused q ≡ fitting → answer (refused q) places ≡ decode_pairs b places
    pairs_without_room q e =
        rw (checked-bytes b (done n) is) (not_filled _ (columns (keys_of (pairs_of n b)) (values_of (pairs_of n b))) places size-offsets size-attempts q e)

    pub pairs-listed : done tt ≡ fitting → (ks vs : List ℕ) → ks ≡ keys_of (pairs_of n b) ++ drop n offsets → vs ≡ values_of (pairs_of n b) ++ drop n attempts
        → answer (result_of one_value (Ok n)) (columns ks vs) ≡ decode_pairs b places
    pairs-listed h ks vs p q =
        let l = pairs_of n b in
        let on_left : ks ≡ front (keys_of l) offsets = p ∙ rw size-offsets refl in
        let on_right : vs ≡ front (values_of l) attempts = q ∙ rw size-attempts refl in
        let told : answer (done (n ∷ [])) (columns ks vs) ≡ answer (done (length l ∷ [])) (columns (front (keys_of l) offsets) (front (values_of l) attempts)) =
        rw (on_left, on_right) (ap (λ (m : ℕ). answer (done (m ∷ [])) (columns (front (keys_of l) offsets) (front (values_of l) attempts))) (sym size)) in
        rw (checked-bytes b (done n) is)
        (told ∙ filled (length l ∷ []) (columns (keys_of l) (values_of l)) places size-offsets size-attempts h)
