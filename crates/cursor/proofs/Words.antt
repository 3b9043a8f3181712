-- What stores among the words make of the cursor that they are, and with that the laws of the cursor, as they are.
-- Assumes nothing.
use Prim.Native.Nat.{ℕ, ◌+◌, ◌-◌, ◌≤◌, ◌<◌}
use native.Mathlib.Omega.{arith}
use mathlib.Core.Path.{◌≡◌, refl, sym, ap, subst, ◌∙◌}
use mathlib.Core.Bool.{Bool, true, false}
use mathlib.Core.List.{List, ◌∷◌, ◌++◌}
use lib.ListN.{length, take, drop, get_or, set, length-set, length-drop, take-append-drop}
use lib.Seq.{get_or-set_same, drop-cons, drop-drop, take_all}
use borrow.Rule.Slice.PartMut.{put_mid, same_len_mid}
use Rattle.types.specs.Limits.{RANGES}
use Rattle.types.specs.Refusal.{Result, refused, done}
use Rattle.types.specs.Table.{Answer}
use Rattle.words.specs.Columns.{word, column, spliced}
use Rattle.words.proofs.Columns.{column-is, spliced-is, column-length, column-spliced, column-beside, word-beside, spliced-length, number-kept, other-kept}
use Rattle.cursor.specs.Ranges.{offsets}
use Rattle.cursor.specs.Cursor.{Cursor, ackBounded, commit_up_to}
use Rattle.cursor.specs.Place.{rangeAt}
use Rattle.cursor.specs.View.{ack_cursor, Whole}
use Rattle.cursor.specs.Answers.{ack_of}
use Rattle.cursor.specs.Answers as answers
use Rattle.cursor.specs.Edits.{edited, AckPlanned, CommitPlanned}
use Rattle.cursor.specs.declared.AckCursor.{AckCursor}
use Rattle.cursor.specs.declared.Range.{Range}
use Rattle.cursor.specs.declared.in_place.AckPlan.{AckPlan}
use Rattle.cursor.specs.declared.in_place.CommitPlan.{CommitPlan}
use Rattle.cursor.proofs.Ranges.{nonempty_at, sum-from}
use Rattle.cursor.proofs.Edits.{ack-made, commit-made}
use Rattle.cursor.specs.Layout.{COMMITTED, RUNS, STARTS, ENDS, WORDS, cursor_in, view, Sound}
use Rattle.cursor.specs.Words.{KeptUnlessNew, Updated}

pub whole : {w : List ℕ} → Sound w → Whole (cursor_in w)
whole {w} ok =
    let l = ok.long in
    record { starts = column-length STARTS RANGES w (omega arith); ends = column-length ENDS RANGES w (omega arith); sound = ok.cursor }

-- ## both columns lent to be read
abbrev parts : List ℕ → AckCursor
parts w = ack_cursor (word COMMITTED w) (take RANGES (drop STARTS w)) (take RANGES (drop ENDS w)) (word RUNS w)

pub parts_are : (w : List ℕ) → parts w ≡ cursor_in w
unfolding column
parts_are w = refl

pub parts_whole : {w : List ℕ} → Sound w → Whole (parts w)
parts_whole {w} ok = subst Whole (sym (parts_are w)) (whole ok)

-- ## words that are the same cursor are the same
words_are : (w : List ℕ) → length w ≡ WORDS → w ≡ word COMMITTED w ∷ word RUNS w ∷ (column STARTS RANGES w ++ column ENDS RANGES w)
unfolding column
words_are w l =
    let rest : length (drop 130 w) ≤ 128 = simp length-drop (omega arith) in
    drop-cons w 0 0 (omega arith)
    ∙ ap (λ (r : List ℕ). get_or w 0 0 ∷ r) (drop-cons w 1 0 (omega arith)
    ∙ ap (λ (r : List ℕ). get_or w 1 0 ∷ r) (sym (take-append-drop 128 (drop 2 w))
    ∙ ap (λ (r : List ℕ). take 128 (drop 2 w) ++ r) (drop-drop 128 2 w ∙ sym (take_all 128 (drop 130 w) rest))))

same_words : {v w : List ℕ} → length v ≡ WORDS → length w ≡ WORDS → cursor_in v ≡ cursor_in w → v ≡ w
same_words {v} {w} a b e = words_are v a ∙ ap (λ (c : AckCursor). c.committed ∷ c.runs ∷ (c.starts ++ c.ends)) e ∙ sym (words_are w b)

kept_words : (outcome : Result Bool) (v w : List ℕ) → length v ≡ WORDS → length w ≡ WORDS → answers.KeptUnlessNew outcome (cursor_in v) (cursor_in w) → KeptUnlessNew outcome v w
kept_words (refused r) v w a b k = same_words b a k
kept_words (done true) v w a b k = tt
kept_words (done false) v w a b k = same_words b a k

-- from what holds of the cursor to what holds of the words
updated : (outcome : Result Bool) (v w : List ℕ) {right : Answer Bool Cursor} → length v ≡ WORDS → length w ≡ WORDS → answers.Updated (cursor_in v) outcome (cursor_in w) right → Updated outcome v w right
updated outcome v w a b u = record { is = u.is; sound = record { long = b; cursor = u.sound }; kept = kept_words outcome v w a b u.kept }

-- ## the range at a place
module _ {w : List ℕ} (ok : Sound w) (i : ℕ) (h : i < length (view w).ahead) (r : Range) (is : r ≡ rangeAt i (view w).ahead) where
  pub range-holds : r.start < r.end
  range-holds = rw is (nonempty_at i (view w).committed (view w).ahead ok.cursor.valid.above h)

  pub sum-there : offsets (drop i (view w).ahead) ≡ (r.end - r.start) + offsets (drop (i + 1) (view w).ahead)
  sum-there = rw is (sum-from i (view w).ahead h)

-- ## a column that is lent to be written
pub column-long : (from : ℕ) (w : List ℕ) → length w ≡ WORDS → from + RANGES ≤ WORDS → length (take RANGES (drop from w)) ≡ RANGES
column-long from w l h = ap length (column-is from RANGES w) ∙ column-length from RANGES w (omega arith)

pub ends-long : (w : List ℕ) → length w ≡ WORDS → (s : List ℕ) → length s ≡ length (take RANGES (drop STARTS w)) → length (take RANGES (drop ENDS (put_mid STARTS RANGES w s))) ≡ RANGES
ends-long w l s ls = column-long ENDS (put_mid STARTS RANGES w s) (same_len_mid STARTS RANGES w s ls ∙ l) (omega arith)

-- ## both columns edited and both numbers stored
abbrev pub stored : List ℕ → List ℕ → List ℕ → ℕ → ℕ → List ℕ
stored w s e committed runs = set (set (put_mid ENDS RANGES (put_mid STARTS RANGES w s) e) COMMITTED committed) RUNS runs

module _ (w : List ℕ) (l : length w ≡ WORDS) where
  pub stored-numbers : (committed runs : ℕ) → cursor_in (set (set w COMMITTED committed) RUNS runs) ≡ ack_cursor committed (cursor_in w).starts (cursor_in w).ends runs
  stored-numbers committed runs =
      let w1 = set w COMMITTED committed in
      let l1 : length w1 ≡ WORDS = length-set w COMMITTED committed ∙ l in
      let one : cursor_in w1 ≡ ack_cursor committed (cursor_in w).starts (cursor_in w).ends (word RUNS w) = simp (get_or-set_same w COMMITTED committed 0 (omega arith), number-kept COMMITTED, other-kept COMMITTED) in
      let two : cursor_in (set w1 RUNS runs) ≡ ack_cursor (word COMMITTED w1) (cursor_in w1).starts (cursor_in w1).ends runs = simp (get_or-set_same w1 RUNS runs 0 (omega arith), number-kept RUNS, other-kept RUNS) in
      two ∙ ap (λ (c : AckCursor). ack_cursor c.committed c.starts c.ends runs) one

  spliced-starts : (c : List ℕ) → length c ≡ RANGES → cursor_in (spliced STARTS RANGES c w) ≡ ack_cursor (word COMMITTED w) c (cursor_in w).ends (word RUNS w)
  spliced-starts c e =
      let room : STARTS + RANGES ≤ length w = omega arith in
      simp (column-spliced STARTS RANGES w c room e, column-beside STARTS RANGES, word-beside STARTS RANGES)

  spliced-ends : (c : List ℕ) → length c ≡ RANGES → cursor_in (spliced ENDS RANGES c w) ≡ ack_cursor (word COMMITTED w) (cursor_in w).starts c (word RUNS w)
  spliced-ends c e =
      let room : ENDS + RANGES ≤ length w = omega arith in
      simp (column-spliced ENDS RANGES w c room e, column-beside ENDS RANGES, word-beside ENDS RANGES)

module _ (w : List ℕ) (l : length w ≡ WORDS) (s : List ℕ) (ls : length s ≡ length (take RANGES (drop STARTS w)))
    (e : List ℕ) (le : length e ≡ length (take RANGES (drop ENDS (put_mid STARTS RANGES w s)))) where
  long-starts : length s ≡ RANGES
  long-starts = ls ∙ column-long STARTS w l (omega arith)

  -- the ends, beside the starts that came back
  pub ends-kept : take RANGES (drop ENDS (put_mid STARTS RANGES w s)) ≡ column ENDS RANGES w
  ends-kept =
      ap (λ (x : List ℕ). take RANGES (drop ENDS x)) (spliced-is STARTS RANGES w s) ∙ column-is ENDS RANGES (spliced STARTS RANGES s w)
      ∙ column-beside STARTS RANGES ENDS RANGES refl w s (omega arith) long-starts

  long-ends : length e ≡ RANGES
  long-ends = le ∙ ap length ends-kept ∙ column-length ENDS RANGES w (omega arith)

  pub both_long : length (put_mid ENDS RANGES (put_mid STARTS RANGES w s) e) ≡ WORDS
  both_long = same_len_mid ENDS RANGES (put_mid STARTS RANGES w s) e le ∙ same_len_mid STARTS RANGES w s ls ∙ l

  both-spliced : cursor_in (put_mid ENDS RANGES (put_mid STARTS RANGES w s) e) ≡ ack_cursor (word COMMITTED w) s e (word RUNS w)
  both-spliced =
      let w1 = spliced STARTS RANGES s w in
      let l1 : length w1 ≡ WORDS = spliced-length STARTS RANGES w s (omega arith) long-starts ∙ l in
      ap (λ (x : List ℕ). cursor_in (put_mid ENDS RANGES x e)) (spliced-is STARTS RANGES w s)
      ∙ ap cursor_in (spliced-is ENDS RANGES w1 e)
      ∙ spliced-ends w1 l1 e long-ends
      ∙ ap (λ (c : AckCursor). ack_cursor c.committed c.starts e c.runs) (spliced-starts w l s long-starts)

  pub stored_is : (committed runs : ℕ) → cursor_in (stored w s e committed runs) ≡ ack_cursor committed s e runs
  stored_is committed runs =
      stored-numbers (put_mid ENDS RANGES (put_mid STARTS RANGES w s) e) both_long committed runs
      ∙ ap (λ (c : AckCursor). ack_cursor committed c.starts c.ends runs) both-spliced

  pub stored-long : (committed runs : ℕ) → length (stored w s e committed runs) ≡ WORDS
  stored-long committed runs =
      let both = put_mid ENDS RANGES (put_mid STARTS RANGES w s) e in
      length-set (set both COMMITTED committed) RUNS runs ∙ length-set both COMMITTED committed ∙ both_long

  -- a plan that is made among the words
  pub ack-answers : (x limit : ℕ) (p : AckPlan) → AckPlanned (parts w) x limit p
      → s ≡ edited (word RUNS w) p.starts (take RANGES (drop STARTS w)) → e ≡ edited (word RUNS w) p.ends (take RANGES (drop ENDS (put_mid STARTS RANGES w s)))
      → Updated (ack_of p.noted.outcome) w (stored w s e p.noted.committed p.noted.runs) (ackBounded (view w) x limit)
  ack-answers x limit p planned a b =
      let law = ack-made (cursor_in w) x limit p s e (subst (λ (g : AckCursor). AckPlanned g x limit p) (parts_are w) planned) (a ∙ ap (edited (word RUNS w) p.starts) (column-is STARTS RANGES w)) (b ∙ ap (edited (word RUNS w) p.ends) ends-kept) in
      updated (ack_of p.noted.outcome) w (stored w s e p.noted.committed p.noted.runs) l (stored-long p.noted.committed p.noted.runs)
      (subst (λ (c : AckCursor). answers.Updated (cursor_in w) (ack_of p.noted.outcome) c (ackBounded (view w) x limit)) (sym (stored_is p.noted.committed p.noted.runs)) law)

  pub commit-answers : (b : ℕ) (p : CommitPlan) → CommitPlanned (parts w) b p
      → s ≡ edited (word RUNS w) p.both (take RANGES (drop STARTS w)) → e ≡ edited (word RUNS w) p.both (take RANGES (drop ENDS (put_mid STARTS RANGES w s)))
      → Updated (done p.moved.advanced) w (stored w s e p.moved.committed p.moved.runs) (commit_up_to (view w) b)
  commit-answers x p planned a b =
      let law = commit-made (cursor_in w) x p s e (subst (λ (g : AckCursor). CommitPlanned g x p) (parts_are w) planned) (a ∙ ap (edited (word RUNS w) p.both) (column-is STARTS RANGES w)) (b ∙ ap (edited (word RUNS w) p.both) ends-kept) in
      updated (done p.moved.advanced) w (stored w s e p.moved.committed p.moved.runs) l (stored-long p.moved.committed p.moved.runs)
      (subst (λ (c : AckCursor). answers.Updated (cursor_in w) (done p.moved.advanced) c (commit_up_to (view w) x)) (sym (stored_is p.moved.committed p.moved.runs)) law)
