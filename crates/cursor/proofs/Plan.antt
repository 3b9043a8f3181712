-- Laws of a plan: the walk answers what each offset is, its looks are few, and what a turn of the code leaves to be done.
-- Assumes nothing.
use Prim.Native.Nat.{ℕ, suc, ◌+◌, ◌≤◌, ◌<◌}
use native.Mathlib.Omega.{arith}
use native.Mathlib.Numerals.{add-one}
use mathlib.Core.Path.{◌≡◌, refl, sym, ap, ◌∙◌}
use mathlib.Core.Bool.{cond, and-false}
use mathlib.Core.List.{List, [], ◌∷◌, ◌++◌, append-nil}
use mathlib.Core.Option.{none, some}
use lib.Dec.{ltb, leb}
use lib.ListN.{length, take, drop, get_or, set, length-set, drop_of_length-le}
use lib.Seq.{drop-cons, take-suc-set, take_all, append_snoc}
use borrow.Author.Tests.{ltb-false, leb-true, leb-false, eq-eqb, ne_eqb, lt-ltb, le-ltb, le-leb, lt-leb}
use Rattle.types.specs.Refusal.{refused, done, UnequalLengths, Falling}
use Rattle.types.specs.Table.{first, Passed, answer}
use Rattle.types.proofs.Cases.{split}
use Rattle.types.proofs.Table.{first_none}
use Rattle.cursor.specs.Ranges.{range, Above, inside}
use Rattle.cursor.specs.Cursor.{Cursor, cursor, Valid}
use Rattle.cursor.specs.Plan.{plan_bytes, compared, stepped_to, looks_from, looks, fall_rows, pair_rows, plan, starts_by, bytes_from, StepIs}
use Rattle.cursor.specs.declared.Range.{Range}
use Rattle.cursor.specs.View.{view, Whole}
use Rattle.cursor.specs.declared.AckCursor.{AckCursor}
use Rattle.cursor.specs.declared.plans.Step.{Step}
use Rattle.cursor.proofs.Ranges.{inside-above}
use Rattle.cursor.proofs.View.{ranges-from, ranges-over}
use Rattle.cursor.proofs.Search.{long-starts, long-ends, runs-is}

-- ## few looks
-- what is left and what was looked at are at most one more than there were
compared-few : (o : ℕ) (rs : List Range) → compared o rs + length (stepped_to o rs) ≤ 1 + length rs
compared-few o [] = omega arith
compared-few o (r ∷ rs) = split (leb r.end o) (λ t. rw t (omega (arith, compared-few o rs))) (λ t. rw t (omega arith))

pub looks-few-from : (committed : ℕ) (rs : List Range) (os : List ℕ) → looks_from committed rs os ≤ length os + length rs
looks-few-from n rs [] = omega arith
looks-few-from n rs (o ∷ os) =
    split (ltb o n)
    (λ t. rw t (omega (arith, looks-few-from n rs os)))
    (λ t. rw t (omega (arith, compared-few o rs, looks-few-from n (stepped_to o rs) os)))

-- at most offsets + ranges
pub looks-few : (c : Cursor) (os : List ℕ) → looks c os ≤ length os + length c.ahead
looks-few c os = looks-few-from c.committed c.ahead os

-- an empty list costs none
pub no-looks : (c : Cursor) → looks c [] ≡ 0
no-looks c = refl

-- offsets below committed cost none
pub no-looks-below : (c : Cursor) (os : List ℕ) → ((i : ℕ) → i < length os → get_or os i 0 < c.committed) → looks c os ≡ 0
no-looks-below c [] h = refl
no-looks-below c (o ∷ os) h =
    rw (lt-ltb o c.committed (h 0 (omega arith))) (omega (arith, no-looks-below c os (λ i k. h (suc i) (omega arith))))

-- ## the walk's answers
-- the offsets from one on don't fall
abbrev pub Climbs : ℕ → List ℕ → Type 0
Climbs before [] = Unit {0}
Climbs before (o ∷ os) = (before ≤ o) × Climbs o os

climbs-rows : (before place : ℕ) (os : List ℕ) → Passed (fall_rows before place os) → Climbs before os
climbs-rows before place [] p = tt
climbs-rows before place (o ∷ os) p = (ltb-false o before p.0, climbs-rows o (place + 1) os p.1)

pub climbs : (os : List ℕ) → Passed (pair_rows os) → Climbs 0 os
climbs [] p = tt
climbs (o ∷ os) p = (omega arith, climbs-rows o 1 os p)

climbs_down : (p o : ℕ) (os : List ℕ) → p ≤ o → Climbs o os → Climbs p os
climbs_down p o [] h c = tt
climbs_down p o (x ∷ os) h c = (omega arith, c.1)

stepped-above : (o lo : ℕ) (rs : List Range) → Above lo rs → Above lo (stepped_to o rs)
stepped-above o lo [] a = tt
stepped-above o lo (r ∷ rs) a =
    split (leb r.end o)
    (λ t. rw t (lower lo r.end (stepped_to o rs) (omega arith) (stepped-above o r.end rs a.3)))
    (λ t. rw t a)
  where
    lower : (p q : ℕ) (l : List Range) → p ≤ q → Above q l → Above p l
    lower p q [] h a = tt
    lower p q (r ∷ l) h a = (omega arith, a.1, a.2, a.3)

-- what was stepped over holds no later offset
stepped_in : (o x lo : ℕ) (rs : List Range) → Above lo rs → o ≤ x → inside x (stepped_to o rs) ≡ inside x rs
stepped_in o x lo [] a h = refl
stepped_in o x lo (r ∷ rs) a h =
    split (leb r.end o)
    (λ t. rw (t, le-ltb x r.end (omega (arith, leb-true r.end o t)), and-false (leb r.start x)) (stepped_in o x r.end rs a.3 h))
    (λ t. rw t)

-- the range that the walk stands on decides
stands_on : (o lo : ℕ) (rs : List Range) → Above lo rs → starts_by o (stepped_to o rs) ≡ cond (inside o rs) 1 0
stands_on o lo [] a = refl
stands_on o lo (r ∷ rs) a =
    split (leb r.end o)
    (λ t. rw (t, le-ltb o r.end (leb-true r.end o t), and-false (leb r.start o)) (stands_on o r.end rs a.3))
    (λ t. let h = leb-false r.end o t in
    rw (t, lt-ltb o r.end h)
    (split (leb r.start o) (λ u. rw u) (λ u. rw (u, inside-above o r.end rs a.3 (omega arith)))))

bytes_left : (n o lo : ℕ) (rs : List Range) (os : List ℕ) → Above lo rs → Climbs o os → plan_bytes (cursor n (stepped_to o rs)) os ≡ plan_bytes (cursor n rs) os
bytes_left n o lo rs [] a c = refl
bytes_left n o lo rs (x ∷ os) a c =
    rw (stepped_in o x lo rs a c.0, bytes_left n o lo rs os a (climbs_down o x os c.0 c.1))

-- each answer is whether its offset is settled
pub plan-right : (n before lo : ℕ) (rs : List Range) (os : List ℕ) → Above lo rs → Climbs before os → bytes_from n rs os ≡ plan_bytes (cursor n rs) os
plan-right n before lo rs [] a c = refl
plan-right n before lo rs (o ∷ os) a c =
    split (ltb o n)
    (λ t. rw t (ap (λ (l : List ℕ). 1 ∷ l) (plan-right n o lo rs os a c.1)))
    (λ t. rw (t, stands_on o lo rs a, plan-right n o lo (stepped_to o rs) os (stepped-above o lo rs a) c.1, bytes_left n o lo rs os a c.1))

-- ## one offset of the walk, in the columns of a cursor
module _ (g : AckCursor) (w : Whole g) where
  abbrev ahead : List Range
  ahead = (view g).ahead

  -- the walk at a range
  module _ (o i : ℕ) (h : i < g.runs) where
    here : drop i ahead ≡ range (get_or g.starts i 0) (get_or g.ends i 0) ∷ drop (i + 1) ahead
    here = ranges-from g.runs g.starts g.ends (long-starts g w) (long-ends g w) i h

    over-compared : get_or g.ends i 0 ≤ o → compared o (drop i ahead) ≡ 1 + compared o (drop (i + 1) ahead)
    over-compared k = rw (here, le-leb (get_or g.ends i 0) o k)

    over-stepped : get_or g.ends i 0 ≤ o → stepped_to o (drop i ahead) ≡ stepped_to o (drop (i + 1) ahead)
    over-stepped k = rw (here, le-leb (get_or g.ends i 0) o k)

    on-compared : o < get_or g.ends i 0 → compared o (drop i ahead) ≡ 1
    on-compared k = rw (here, lt-leb (get_or g.ends i 0) o k)

    on-stepped : o < get_or g.ends i 0 → stepped_to o (drop i ahead) ≡ drop i ahead
    on-stepped k = rw (here, lt-leb (get_or g.ends i 0) o k)

    on-byte : starts_by o (drop i ahead) ≡ cond (leb (get_or g.starts i 0) o) 1 0
    on-byte = rw here

  -- the offset o came from place `at` to place `to`, with so many looks
  pub record Stepping (at o to looks : ℕ) : Type 0 where
    pub within : at ≤ g.runs → to ≤ g.runs
    pub few : looks ≤ to
    pub compared_is : looks + compared o (drop to ahead) ≡ compared o (drop at ahead)
    pub stepped-is : stepped_to o (drop to ahead) ≡ stepped_to o (drop at ahead)

  pub stepping_next : (at o to looks : ℕ) → Stepping at o to looks → to < g.runs → get_or g.ends to 0 ≤ o → Stepping at o (to + 1) (looks + 1)
  stepping_next at o to looks s h k =
      record {
        within = λ _. omega arith;
        few = omega (arith, s.few);
        compared_is = omega (arith, over-compared o to h k, s.compared_is);
        stepped-is = sym (over-stepped o to h k) ∙ s.stepped-is;
      }

  pub step-below : (at o : ℕ) → o < g.committed → (r : Step) → r.at ≡ at → r.looks ≡ 0 → r.byte ≡ 1 → StepIs (view g) at o r
  step-below at o k r a l b =
      let t = lt-ltb o g.committed k in
      record { within = λ h. rw a h; left = rw (a, t); looks = rw (l, t); byte = rw (b, t) }

  module _ (at o to looks : ℕ) (s : Stepping at o to looks) (k : g.committed ≤ o) (r : Step) where
    pub step-on : r.at ≡ to → to < g.runs → o < get_or g.ends to 0 → r.looks ≡ looks + 1 → r.byte ≡ cond (leb (get_or g.starts to 0) o) 1 0 → StepIs (view g) at o r
    step-on a h below l b =
        let t = le-ltb o g.committed k in
        let stands = sym (on-stepped o to h below) ∙ s.stepped-is in
        record {
          within = λ i. rw (a, runs-is g w) (s.within (omega (arith, runs-is g w, i)));
          left = rw (a, t) stands;
          looks = rw (l, t) (omega (arith, on-compared o to h below, s.compared_is));
          byte = rw (b, t, ← stands, on-byte o to h);
        }

    pub step-over : r.at ≡ g.runs → g.runs ≤ to → r.looks ≡ looks → r.byte ≡ 0 → StepIs (view g) at o r
    step-over a h l b =
        let t = le-ltb o g.committed k in
        let over = ranges-over g.runs g.starts g.ends (long-starts g w) (long-ends g w) in
        let none_left = over to h in
        let all : looks + 0 ≡ compared o (drop at ahead) = rw none_left at s.compared_is in
        let stands : [] ≡ stepped_to o (drop at ahead) = rw none_left at s.stepped-is in
        record {
          within = λ i. rw (a, runs-is g w) (omega arith);
          left = rw (a, t, over g.runs (omega arith)) stands;
          looks = rw (l, t) (omega (arith, all));
          byte = rw (b, t, ← stands);
        }

-- ## the walk, from a place on
-- the looks so far, with those to come, are all; and the list filled so far, with what is to come behind it, is the whole answer
pub record Answering (n : ℕ) (rs : List Range) (os out : List ℕ) (at looks i : ℕ) : Type 0 where
  pub within : at ≤ length rs
  pub long : length out ≡ length os
  pub looks-is : looks + looks_from n (drop at rs) (drop i os) ≡ looks_from n rs os
  pub bytes-is : take i out ++ bytes_from n (drop at rs) (drop i os) ≡ bytes_from n rs os

module _ (c : Cursor) (os out : List ℕ) (at looks i : ℕ) (s : Answering c.committed c.ahead os out at looks i) where
  abbrev n : ℕ
  n = c.committed

  module _ (h : i < length os) (r : Step) (step : StepIs c at (get_or os i 0) r) where
    next-looks : looks + (r.looks + looks_from n (drop r.at c.ahead) (drop (i + 1) os)) ≡ looks_from n c.ahead os
    next-looks =
        rw (step.looks, step.left, add-one i)
        (let all = s.looks-is in rw (drop-cons os i 0 h) at all)

    -- the looks so far fit, since all do
    pub looks-fit : looks + r.looks ≤ length os + length c.ahead
    looks-fit = omega (arith, next-looks, looks-few-from n c.ahead os)

    pub answering-next : (looks' : ℕ) (out' : List ℕ) → looks' ≡ looks + r.looks → out' ≡ set out i r.byte → Answering n c.ahead os out' r.at looks' (i + 1)
    answering-next looks' out' l b =
        record {
          within = step.within s.within;
          long = rw b (simp length-set s.long);
          looks-is = omega (arith, next-looks);
          bytes-is =
              rw (b, step.left, add-one i, take-suc-set out i r.byte (omega (arith, s.long)), append_snoc, step.byte)
              (let all = s.bytes-is in rw (drop-cons os i 0 h) at all);
        }

  pub answered-looks : length os ≤ i → looks ≡ looks_from n c.ahead os
  answered-looks h = let all = s.looks-is in omega (arith, rw (drop_of_length-le os {i = i} h) at all)

  pub answered-bytes : length os ≤ i → out ≡ bytes_from n c.ahead os
  answered-bytes h =
      let all = s.bytes-is in
      sym (append-nil out) ∙ (rw (drop_of_length-le os {i = i} h, take_all i out (omega (arith, s.long))) at all)

-- ## the refusals
-- the first offset of a list isn't below 0
pub fall_rows_lem : (os : List ℕ) → first (fall_rows 0 0 os) ≡ first (pair_rows os)
fall_rows_lem [] = refl
fall_rows_lem (o ∷ os) = rw (le-ltb o 0 (omega arith))

module _ (os : List ℕ) (before i : ℕ) (h : i < length os) (e : first (fall_rows before i (drop i os)) ≡ first (pair_rows os)) where
  pub falls-here : get_or os i 0 < before → some (Falling i) ≡ first (pair_rows os)
  falls-here k = rw (drop-cons os i 0 h, lt-ltb (get_or os i 0) before k) at e

  pub falls-later : before ≤ get_or os i 0 → first (fall_rows (get_or os i 0) (i + 1) (drop (i + 1) os)) ≡ first (pair_rows os)
  falls-later k =
      let same : drop (i + 1) os ≡ drop (suc i) os = ap (λ (n : ℕ). drop n os) (add-one i) in
      rw same (rw (drop-cons os i 0 h, le-ltb (get_or os i 0) before k) at e)

pub falls_nowhere : (os : List ℕ) (before i : ℕ) → length os ≤ i → first (fall_rows before i (drop i os)) ≡ first (pair_rows os) → none ≡ first (pair_rows os)
falls_nowhere os before i h e = rw (drop_of_length-le os {i = i} h) at e

-- ## the whole plan
module _ (c : Cursor) (os out : List ℕ) where
  pub plan_unequal : (length os ≡ length out → ⊥) → answer (refused UnequalLengths) out ≡ plan c os out
  unfolding plan
  plan_unequal h = rw (ne_eqb (length os) (length out) h)

  module _ (h : length os ≡ length out) where
    pub plan-falling : (place : ℕ) → some (Falling place) ≡ first (pair_rows os) → answer (refused (Falling place)) out ≡ plan c os out
    unfolding plan
    plan-falling place e = rw (eq-eqb (length os) (length out) h, ← e)

    pub plan-answered : Valid c → none ≡ first (pair_rows os) → (n : ℕ) (out' : List ℕ) → n ≡ looks c os → out' ≡ bytes_from c.committed c.ahead os
        → answer (done n) out' ≡ plan c os out
    unfolding plan
    plan-answered v e n out' p q =
        let right = plan-right c.committed 0 c.committed c.ahead os v.above (climbs os (first_none (pair_rows os) (sym e))) in
        rw (p, q, eq-eqb (length os) (length out) h, ← e, right)
