-- The place of an offset among ranges, the first that starts above it, decides all: whether the offset is settled, what
-- it touches, how the cursor is with it, and what a commit to it leaves. By induction over the ranges, of which those
-- before the place only pass on what comes behind them. Assumes nothing.
use Prim.Native.Nat.{ℕ, zero, suc, ◌+◌, ◌≤◌, ◌<◌, max}
use native.Mathlib.Omega.{arith}
use native.Mathlib.Numerals.{add-one}
use mathlib.Core.Path.{◌≡◌, refl, ap, ◌∙◌}
use mathlib.Core.Bool.{Bool, true, false, cond, ◌&&◌, ◌||◌, or-false, or-true}
use mathlib.Core.List.{List, [], ◌∷◌}
use lib.Dec.{ltb, leb, eqb, leb-suc-suc}
use lib.ListN.{length, drop, set}
use borrow.Author.Tests.{ltb-true, leb-true, leb-false, eqb-true, eqb-false, eq-eqb, ne_eqb, lt-ltb, le-ltb, le-leb, lt-leb}
use Rattle.types.specs.Limits.{MAX}
use Rattle.types.specs.Zipped.{inserted, removed}
use Rattle.types.proofs.Cases.{split, both}
use Rattle.cursor.specs.Ranges.{range, Above, touches, joined}
use Rattle.cursor.specs.Cursor.{Cursor, cursor, settled, advanced, recorded, committed_to}
use Rattle.cursor.specs.Place.{rangeAt, stretched, Spotted}
use Rattle.cursor.specs.declared.Range.{Range}
use Rattle.cursor.specs.declared.in_place.Spot.TheVariants.{Settled, Behind, Between, Before, Apart}
use Rattle.cursor.proofs.Ranges.{inside-above, touches-above}
use Rattle.cursor.proofs.Cursor.{recorded-next, recorded-ahead}

-- how many ranges start at or below an offset
abbrev pub place : ℕ → List Range → ℕ
place o [] = 0
place o (r ∷ rs) = cond (leb r.start o) (suc (place o rs)) 0

-- the end before a place, which is lo at the first place
abbrev pub end_before : ℕ → ℕ → List Range → ℕ
end_before lo zero l = lo
end_before lo (suc k) l = (rangeAt k l).end

-- the range at a place starts right behind the offset
abbrev pub next_at : ℕ → ℕ → List Range → Bool
next_at o i l = ltb i (length l) && eqb (rangeAt i l).start (o + 1)

pub place-most : (o : ℕ) (l : List Range) → place o l ≤ length l
place-most o [] = omega arith
place-most o (r ∷ rs) = split (leb r.start o) (λ p. rw p (omega (arith, place-most o rs))) (λ p. rw p (omega arith))

pub end_step : (lo k : ℕ) (r : Range) (rs : List Range) → end_before lo (suc k) (r ∷ rs) ≡ end_before r.end k rs
end_step lo zero r rs = refl
end_step lo (suc k) r rs = refl

pub end-least : (o lo : ℕ) (l : List Range) → Above lo l → lo ≤ end_before lo (place o l) l
end-least o lo [] a = omega arith
end-least o lo (r ∷ rs) a =
    split (leb r.start o)
    (λ p. rw (p, end_step lo (place o rs) r rs) (omega (arith, end-least o r.end rs a.3)))
    (λ p. rw p (omega arith))

pub settled_at : (o lo : ℕ) (l : List Range) → Above lo l → settled (cursor lo l) o ≡ ltb o (end_before lo (place o l) l)
settled_at o lo [] a = or-false (ltb o lo)
settled_at o lo (r ∷ rs) a =
    split (leb r.start o)
    (λ p. let h = leb-true r.start o p in
    rw (p, end_step lo (place o rs) r rs, le-ltb o lo (omega arith)) (settled_at o r.end rs a.3))
    (λ p. let h = leb-false r.start o p in
    rw (p, inside-above o r.end rs a.3 (omega arith)) (or-false (ltb o lo)))

next-step : (o i : ℕ) (r : Range) (rs : List Range) → next_at o (suc i) (r ∷ rs) ≡ next_at o i rs
next-step o i r rs = rw (leb-suc-suc (suc i) (length rs))

next-first : (o : ℕ) (r : Range) (rs : List Range) → next_at o 0 (r ∷ rs) ≡ eqb r.start (o + 1)
next-first o r rs = rw (lt-ltb 0 (suc (length rs)) (omega arith))

-- an offset that is not settled is at committed or next to a range by what stands at its place
pub near-at : (o lo : ℕ) (l : List Range) → Above lo l → end_before lo (place o l) l ≤ o → (eqb lo o || touches o l) ≡ (eqb (end_before lo (place o l) l) o || next_at o (place o l) l)
near-at o lo [] a u = refl
near-at o lo (r ∷ rs) a u =
    split (leb r.start o)
    (λ p. let k = leb-true r.start o p in
    rw (p, end_step lo (place o rs) r rs, next-step o (place o rs) r rs, ne_eqb lo o (λ z. omega arith), ne_eqb r.start (o + 1) (λ z. omega arith))
    (near-at o r.end rs a.3 (rw (p, end_step lo (place o rs) r rs) at u)))
    (λ p. let k = leb-false r.start o p in
    rw (p, next-first o r rs, ne_eqb r.end o (λ z. omega arith), touches-above o r.end rs a.3 (omega arith), or-false (eqb r.start (o + 1))))

-- a range in front of a cursor whose committed offset was the range's end
abbrev pushed : ℕ → Range → Cursor → Cursor
pushed lo r c = cursor lo (range r.start c.committed ∷ c.ahead)

-- the cursor with an offset that goes to place i
abbrev placed : ℕ → ℕ → Cursor → Cursor
placed o i c =
    cond (eqb (end_before c.committed i c.ahead) o)
    (cond (next_at o i c.ahead)
    (stretched i (rangeAt i c.ahead).end (cursor c.committed (removed i (suc i) c.ahead)))
    (stretched i (o + 1) c))
    (cond (next_at o i c.ahead)
    (cursor c.committed (set c.ahead i (range o (rangeAt i c.ahead).end)))
    (cursor c.committed (inserted i (range o (o + 1)) c.ahead)))

pushed-stretched : (lo k e : ℕ) (r : Range) (rs : List Range) → pushed lo r (stretched k e (cursor r.end rs)) ≡ stretched (suc k) e (cursor lo (r ∷ rs))
pushed-stretched lo zero e r rs = refl
pushed-stretched lo (suc k) e r rs = refl

-- what comes to the ranges behind the first one comes to them all
placed-step : (lo o i : ℕ) (r : Range) (rs : List Range) → pushed lo r (placed o i (cursor r.end rs)) ≡ placed o (suc i) (cursor lo (r ∷ rs))
placed-step lo o i r rs =
    rw (end_step lo i r rs, next-step o i r rs)
    (split (eqb (end_before r.end i rs) o)
    (λ p. rw p (split (next_at o i rs) (λ q. rw q (pushed-stretched lo i (rangeAt i rs).end r (removed i (suc i) rs))) (λ q. rw q (pushed-stretched lo i (o + 1) r rs))))
    (λ p. rw p (split (next_at o i rs) (λ q. rw q) (λ q. rw q))))

joined-advanced : (s e : ℕ) (l : List Range) → joined s e l ≡ range s (advanced e l).committed ∷ (advanced e l).ahead
joined-advanced s e [] = refl
joined-advanced s e (r ∷ rs) = split (eqb r.start e) (λ p. rw p) (λ p. rw p)

recorded-step : (o lo : ℕ) (r : Range) (rs : List Range) → Above lo (r ∷ rs) → r.end ≤ o → recorded (cursor lo (r ∷ rs)) o ≡ pushed lo r (recorded (cursor r.end rs) o)
recorded-step o lo r rs a h =
    rw (recorded-ahead lo o (r ∷ rs) (omega arith) a, le-ltb o r.start (omega arith))
    (split (eqb r.end o)
    (λ q. let e = eqb-true r.end o q in
    rw (q, e, recorded-next o rs (rw e at a.3)) (ap (cursor lo) (joined-advanced r.start (o + 1) rs)))
    (λ q. rw (q, recorded-ahead r.end o rs (omega (arith, eqb-false r.end o q)) a.3)))

recorded-first : (o lo : ℕ) (l : List Range) → Above o l → Above lo l → lo ≤ o → recorded (cursor lo l) o ≡ placed o 0 (cursor lo l)
recorded-first o lo [] b a h =
    split (eqb lo o)
    (λ p. let e = eqb-true lo o p in rw (p, e) (recorded-next o [] tt))
    (λ p. rw p (recorded-ahead lo o [] (omega (arith, eqb-false lo o p)) tt))
recorded-first o lo (r ∷ rs) b a h =
    split (eqb lo o)
    (λ p. let e = eqb-true lo o p in rw (p, next-first o r rs, e) (recorded-next o (r ∷ rs) b))
    (λ p. rw (p, next-first o r rs, recorded-ahead lo o (r ∷ rs) (omega (arith, eqb-false lo o p)) a, lt-ltb o r.start b.0)
    (split (eqb r.start (o + 1)) (λ q. rw q) (λ q. rw q)))

-- an offset that is not settled goes to its place
recorded-at : (o lo : ℕ) (l : List Range) → Above lo l → end_before lo (place o l) l ≤ o → recorded (cursor lo l) o ≡ placed o (place o l) (cursor lo l)
recorded-at o lo [] a u = recorded-first o lo [] tt a u
recorded-at o lo (r ∷ rs) a u =
    split (leb r.start o)
    (λ p. let w = rw (p, end_step lo (place o rs) r rs) at u in
    rw p (recorded-step o lo r rs a (omega (arith, end-least o r.end rs a.3))
    ∙ ap (pushed lo r) (recorded-at o r.end rs a.3 w)
    ∙ placed-step lo o (place o rs) r rs))
    (λ p. rw p (recorded-first o lo (r ∷ rs) (leb-false r.start o p, a.1, a.2, a.3) a (rw p at u)))

-- what the search for an offset answers, by the tests at its place
module _ (c : Cursor) (o i : ℕ) (a : Above c.committed c.ahead) (e : i ≡ place o c.ahead) where
  abbrev end : ℕ
  end = end_before c.committed i c.ahead

  settled_is : settled c o ≡ ltb o end
  settled_is = rw e (settled_at o c.committed c.ahead a)

  pub spot_settled : o < end → Spotted c o Settled
  spot_settled h = rw (settled_is, lt-ltb o end h)

  module _ (m : o ≡ MAX → ⊥) (h : end ≤ o) where
    unsettled : (settled c o || eqb o MAX) ≡ false
    unsettled = rw (settled_is, le-ltb o end h) (ne_eqb o MAX m)

    near-is : (eqb c.committed o || touches o c.ahead) ≡ (eqb end o || next_at o i c.ahead)
    near-is = rw e (near-at o c.committed c.ahead a (rw e at h))

    made-is : recorded c o ≡ placed o i c
    made-is = rw e (recorded-at o c.committed c.ahead a (rw e at h))

    few : i ≤ length c.ahead
    few = rw e (place-most o c.ahead)

    next_in : next_at o i c.ahead ≡ true → i < length c.ahead
    next_in q = ltb-true i (length c.ahead) (both (ltb i (length c.ahead)) (eqb (rangeAt i c.ahead).start (o + 1)) q).0

    pub spot-behind : end ≡ o → next_at o i c.ahead ≡ false → Spotted c o (Behind i)
    spot-behind p q = (few, record { unsettled = unsettled; nearby = rw (near-is, eq-eqb end o p); made = rw (made-is, eq-eqb end o p, q) })

    pub spot-between : end ≡ o → next_at o i c.ahead ≡ true → Spotted c o (Between i)
    spot-between p q = (next_in q, record { unsettled = unsettled; nearby = rw (near-is, eq-eqb end o p); made = rw (made-is, eq-eqb end o p, q, add-one i) })

    pub spot-before : (end ≡ o → ⊥) → next_at o i c.ahead ≡ true → Spotted c o (Before i)
    spot-before p q = (next_in q, record { unsettled = unsettled; nearby = rw (near-is, q) (or-true (eqb end o)); made = rw (made-is, ne_eqb end o p, q) })

    pub spot-apart : (end ≡ o → ⊥) → next_at o i c.ahead ≡ false → Spotted c o (Apart i)
    spot-apart p q = (few, record { unsettled = unsettled; nearby = rw (near-is, ne_eqb end o p, q); made = rw (made-is, ne_eqb end o p, q) })

pub spot_max : (c : Cursor) (o : ℕ) → o ≡ MAX → Spotted c o Settled
spot_max c o e = rw (eq-eqb o MAX e) (or-true (settled c o))

pub place_none : (o lo : ℕ) (l : List Range) → Above lo l → o ≤ lo → place o l ≡ 0
place_none o lo [] a h = refl
place_none o lo (r ∷ rs) a h = rw (lt-leb r.start o (omega arith))

-- a commit moves committed over the ranges that start by the bound
pub committed-at : (b lo : ℕ) (l : List Range) → Above lo l → lo ≤ b → committed_to b l ≡ cursor (max b (end_before lo (place b l) l)) (drop (place b l) l)
committed-at b lo [] a h = ap (λ (n : ℕ). cursor n []) (omega arith)
committed-at b lo (r ∷ rs) a h =
    split (leb r.end b)
    (λ p. let k = leb-true r.end b p in
    rw (p, le-leb r.start b (omega arith), end_step lo (place b rs) r rs) (committed-at b r.end rs a.3 k))
    (λ p. let k = leb-false r.end b p in
    split (leb r.start b)
    (λ q. let e : r.end ≡ max b r.end = omega arith in
    rw (p, q, place_none b r.end rs a.3 (omega arith)) (ap (λ (n : ℕ). cursor n rs) e))
    (λ q. let e : b ≡ max b lo = omega arith in
    rw (p, q) (ap (λ (n : ℕ). cursor n (r ∷ rs)) e)))
