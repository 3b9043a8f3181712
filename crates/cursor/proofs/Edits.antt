-- What the edits of a plan make of the ranges, and with that of the cursor: each answer of the search has its plan. Assumes nothing.
use Prim.Native.Nat.{ℕ, zero, suc, ◌+◌, ◌-◌, ◌≤◌, ◌<◌, min}
use native.Mathlib.Omega.{arith}
use mathlib.Core.Path.{◌≡◌, refl, sym, ap, subst}
use mathlib.Core.List.{List, [], ◌∷◌}
use lib.ListN.{length, take, get_or, set}
use lib.Seq.{length-take-le}
use Rattle.types.specs.Limits.{MAX, RANGES}
use Rattle.types.specs.Refusal.{done}
use Rattle.types.specs.Zipped.{zipped, inserted, removed}
use Rattle.tables.specs.Columns.{takenOut}
use Rattle.tables.proofs.Columns.{put_in_front, taken-out-front}
use Rattle.cursor.specs.Ranges.{range}
use Rattle.cursor.specs.Cursor.{Cursor, cursor, ackBounded, commit_up_to}
use Rattle.cursor.specs.View.{ack_cursor, view, Whole}
use Rattle.cursor.specs.Place.{rangeAt, stretched, joined_at, Spotted}
use Rattle.cursor.specs.Edits.{edited, after, ack_plan, stretch_plan, join_plan, AckPlanned, CommitPlanned}
use Rattle.cursor.specs.Answers.{ack_of, Updated}
use Rattle.cursor.specs.declared.AckCursor.{AckCursor}
use Rattle.cursor.specs.declared.BoundedAck.TheVariants.{Recorded, Duplicate, Shed}
use Rattle.cursor.specs.declared.in_place.AckPlan.{AckPlan}
use Rattle.cursor.specs.declared.in_place.CommitPlan.{CommitPlan}
use Rattle.cursor.specs.declared.in_place.Edit.{Edit}
use Rattle.cursor.specs.declared.in_place.Edit.TheVariants.{Keep, Set, Insert, Remove}
use Rattle.cursor.specs.declared.in_place.Spot.TheVariants.{Settled, Behind, Between, Before, Apart}
use Rattle.cursor.proofs.View.{range-is, ranges-start, ranges-end, ranges-inserted, ranges-removed}
use Rattle.cursor.proofs.Search.{long-starts, long-ends, runs-is}
use Rattle.cursor.proofs.Answers.{duplicate, shed, landed-near, landed-apart}

-- the plans of a stretch and of a join, from the test at the place
pub stretch_first : (lo n i y : ℕ) → i ≡ 0 → ack_plan Recorded y n Keep Keep ≡ stretch_plan lo n i y
stretch_first lo n i y h = rw h

pub stretch_behind : (lo n i y : ℕ) → (i ≡ 0 → ⊥) → ack_plan Recorded lo n Keep (Set (i - 1) y) ≡ stretch_plan lo n i y
stretch_behind lo n zero y h = absurd (h refl)
stretch_behind lo n (suc k) y h = let e : suc k - 1 ≡ k = omega arith in rw e

pub join_first : (lo : ℕ) (e : List ℕ) (n i : ℕ) → i ≡ 0 → ack_plan Recorded (get_or e i 0) (n - 1) (Remove i (i + 1)) (Remove i (i + 1)) ≡ join_plan lo e n i
join_first lo e n i h = rw h

pub join_behind : (lo : ℕ) (e : List ℕ) (n i : ℕ) → (i ≡ 0 → ⊥) → ack_plan Recorded lo (n - 1) (Remove i (i + 1)) (Remove (i - 1) i) ≡ join_plan lo e n i
join_behind lo e n zero h = absurd (h refl)
join_behind lo e n (suc k) h = let p : suc k - 1 ≡ k = omega arith in rw p

-- a start taken out of one column, and out of the other the end before it
set-joined : (k : ℕ) (s e : List ℕ) → length s ≡ length e → suc k < length e → let l = removed (suc k) (suc (suc k)) (zipped range s e) in
    zipped range (removed (suc k) (suc (suc k)) s) (removed k (suc k) e) ≡ set l k (range (rangeAt k l).start (rangeAt (suc k) (zipped range s e)).end)
set-joined k s [] p h = absurd (omega arith)
set-joined k [] (y ∷ e) p h = absurd (omega arith)
set-joined zero (x ∷ s) (y ∷ []) p h = absurd (omega arith)
set-joined zero (x ∷ []) (y ∷ z ∷ e) p h = absurd (omega arith)
set-joined zero (x ∷ u ∷ s) (y ∷ z ∷ e) p h = refl
set-joined (suc k) (x ∷ s) (y ∷ e) p h = ap (◌∷◌ (range x y)) (set-joined k s e (omega arith) (omega arith))

module _ (lo n : ℕ) (s e : List ℕ) (hs : n ≤ length s) (he : n ≤ length e) where
  -- the cursor, and the one with a plan made
  abbrev c : AckCursor
  c = ack_cursor lo s e n

  abbrev made : AckPlan → Cursor
  made p = view (after c p.starts p.ends p.noted.committed p.noted.runs)

  stretch_made : (i y : ℕ) → i ≤ n → made (stretch_plan lo n i y) ≡ stretched i y (view c)
  stretch_made zero y h = refl
  stretch_made (suc k) y h = ap (cursor lo) (ranges-end n s e hs he k y h)

  -- one place taken out of a column
  one_out : (j k : ℕ) (l : List ℕ) → k ≡ suc j → j < n → n ≤ length l → {l' : List ℕ} → l' ≡ takenOut n j k l → take (n - 1) l' ≡ removed j k (take n l)
  one_out j k l p h m {l'} q = let d : n - (k - j) ≡ n - 1 = omega arith in rw d at (taken-out-front n j k l (omega arith) (omega arith) m {l' = l'} q)

  joined-with : (k m : ℕ) (s' e' : List ℕ) → m ≡ suc (suc k) → suc k < n → take (n - 1) s' ≡ removed (suc k) m (take n s) → take (n - 1) e' ≡ removed k (suc k) (take n e)
      → cursor lo (zipped range (take (n - 1) s') (take (n - 1) e')) ≡ stretched (suc k) (rangeAt (suc k) (view c).ahead).end (cursor lo (removed (suc k) m (view c).ahead))
  joined-with k m s' e' p h a b =
      rw (a, b, p) (ap (cursor lo) (set-joined k (take n s) (take n e) (rw (length-take-le n s hs, length-take-le n e he)) (rw (length-take-le n e he) h)))

  join_made : (i : ℕ) → i < n → made (join_plan lo e n i) ≡ joined_at i (view c)
  join_made zero h =
      rw (range-is n s e hs he 0 h)
      (ap (cursor (get_or e 0 0)) (ranges-removed n s e hs he 0 1 (n - 1) _ _ (one_out 0 1 s refl h hs refl) (one_out 0 1 e refl h he refl)))
  join_made (suc k) h = joined-with k (suc k + 1) _ _ (omega arith) h (one_out (suc k) (suc k + 1) s (omega arith) h hs refl) (one_out k (suc k) e refl (omega arith) he refl)

  before-made : (i x : ℕ) → i < n → made (ack_plan Recorded lo n (Set i x) Keep) ≡ cursor lo (set (view c).ahead i (range x (rangeAt i (view c).ahead).end))
  before-made i x h = ap (cursor lo) (ranges-start n s e hs he i x h)

  apart-made : (i x y : ℕ) → i ≤ n → n < length s → n < length e → made (ack_plan Recorded lo (n + 1) (Insert i x) (Insert i y)) ≡ cursor lo (inserted i (range x y) (view c).ahead)
  apart-made i x y h ls le = ap (cursor lo) (ranges-inserted n s e hs he i x y _ _ (put_in_front n i x s h ls refl) (put_in_front n i y e h le refl))

-- an edit that is known
pub edited-is : (n : ℕ) (l : List ℕ) {e f : Edit} → e ≡ f → edited n f l ≡ edited n e l
edited-is n l p = ap (λ (e : Edit). edited n e l) (sym p)

-- a plan that is made in both columns
pub ack-made : (g : AckCursor) (x limit : ℕ) (p : AckPlan) (s e : List ℕ) → AckPlanned g x limit p → s ≡ edited g.runs p.starts g.starts → e ≡ edited g.runs p.ends g.ends
    → Updated g (ack_of p.noted.outcome) (ack_cursor p.noted.committed s e p.noted.runs) (ackBounded (view g) x limit)
ack-made g x limit p s e u a b = rw (a, b) u

pub commit-made : (g : AckCursor) (b : ℕ) (p : CommitPlan) (s e : List ℕ) → CommitPlanned g b p → s ≡ edited g.runs p.both g.starts → e ≡ edited g.runs p.both g.ends
    → Updated g (done p.moved.advanced) (ack_cursor p.moved.committed s e p.moved.runs) (commit_up_to (view g) b)
commit-made g b p s e u k l = rw (k, l) u

module _ (g : AckCursor) (w : Whole g) (x limit : ℕ) where
  pub planned : {p q : AckPlan} → p ≡ q → AckPlanned g x limit q → AckPlanned g x limit p
  planned e u = subst (AckPlanned g x limit) (sym e) u

  pub settled-planned : Spotted (view g) x Settled → AckPlanned g x limit (ack_plan Duplicate g.committed g.runs Keep Keep)
  settled-planned t = duplicate g x limit w.sound t

  pub shed-planned : (i : ℕ) → Spotted (view g) x (Apart i) → min limit RANGES ≤ g.runs → AckPlanned g x limit (ack_plan Shed g.committed g.runs Keep Keep)
  shed-planned i t h = shed g x limit w.sound t.1 (omega (arith, runs-is g w))

  module _ (m : x ≤ MAX) where
    pub behind-planned : (i : ℕ) → Spotted (view g) x (Behind i) → AckPlanned g x limit (stretch_plan g.committed g.runs i (x + 1))
    behind-planned zero t = landed-near g x limit w.sound m _ w.sound.few t.1 refl
    behind-planned (suc k) t =
        landed-near g x limit w.sound m _ w.sound.few t.1
        (stretch_made g.committed g.runs g.starts g.ends (long-starts g w) (long-ends g w) (suc k) (x + 1) (omega (arith, t.0, runs-is g w)))

    pub between-planned : (i : ℕ) → Spotted (view g) x (Between i) → AckPlanned g x limit (join_plan g.committed g.ends g.runs i)
    between-planned zero t =
        landed-near g x limit w.sound m _ (omega (arith, w.sound.few)) t.1
        (join_made g.committed g.runs g.starts g.ends (long-starts g w) (long-ends g w) 0 (omega (arith, t.0, runs-is g w)))
    between-planned (suc k) t =
        landed-near g x limit w.sound m _ (omega (arith, w.sound.few)) t.1
        (join_made g.committed g.runs g.starts g.ends (long-starts g w) (long-ends g w) (suc k) (omega (arith, t.0, runs-is g w)))

    pub before-planned : (i : ℕ) → Spotted (view g) x (Before i) → AckPlanned g x limit (ack_plan Recorded g.committed g.runs (Set i x) Keep)
    before-planned i t =
        landed-near g x limit w.sound m _ w.sound.few t.1
        (before-made g.committed g.runs g.starts g.ends (long-starts g w) (long-ends g w) i x (omega (arith, t.0, runs-is g w)))

    pub apart-planned : (i : ℕ) → Spotted (view g) x (Apart i) → g.runs < min limit RANGES → AckPlanned g x limit (ack_plan Recorded g.committed (g.runs + 1) (Insert i x) (Insert i (x + 1)))
    apart-planned i t h =
        landed-apart g x limit w.sound m _ (omega arith) t.1 (omega (arith, runs-is g w))
        (apart-made g.committed g.runs g.starts g.ends (long-starts g w) (long-ends g w) i x (x + 1) (omega (arith, t.0, runs-is g w)) (omega (arith, w.starts)) (omega (arith, w.ends)))
