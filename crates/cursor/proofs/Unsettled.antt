-- Laws of the stretches and of the nearest unsettled offset: that the lists are what they are to be, and that nothing else is; and how
-- they stand in the columns, by the place of a. Assumes nothing.
use Prim.Native.Nat.{ℕ, zero, suc, ◌+◌, ◌-◌, ◌*◌, ◌/◌, ◌≤◌, ◌<◌, min, max}
use native.Mathlib.Omega.{arith}
use native.Mathlib.Nat.{suc_inj, le_of_suc-le-suc}
use mathlib.Core.Path.{◌≡◌, refl, sym, ap, subst, ◌∙◌}
use mathlib.Core.Bool.{Bool, true, false, cond, not, ◌&&◌, ◌||◌, and-false, true≢false}
use mathlib.Core.List.{List, [], ◌∷◌}
use lib.Dec.{ltb, leb}
use lib.ListN.{length, take, drop, get_or, set, take-append-drop}
use lib.Seq.{take-length}
use borrow.Author.Tests.{ltb-true, ltb-false, leb-true, leb-false, lt-ltb, le-ltb, le-leb, lt-leb}
use Rattle.types.specs.Refusal.{Result, refused, done, BoundsReversed, OutTooShort}
use Rattle.types.specs.Table.{answer}
use Rattle.types.specs.Lists.{listed}
use Rattle.types.specs.Zipped.{zipped}
use Rattle.types.specs.Sorted.{upTo}
use Rattle.types.proofs.Cases.{split}
use Rattle.types.proofs.Listing.{Written, all-written}
use Rattle.types.proofs.Loops.{Filling, filling-more}
use Rattle.cursor.specs.Ranges.{range, Above, inside}
use Rattle.cursor.specs.Cursor.{Cursor, cursor, Valid, settled}
use Rattle.cursor.specs.View.{view, Whole}
use Rattle.cursor.specs.Place.{rangeAt}
use Rattle.cursor.specs.Unsettled.{open_in, Apart, AreStretches, IsNearest, in_front, left_by, stretches, beyond, nearest_open, bounds, filled, open_between, open_numbers}
use Rattle.cursor.specs.declared.Range.{Range}
use Rattle.cursor.specs.declared.AckCursor.{AckCursor}
use Rattle.cursor.proofs.Ranges.{inside-above}
use Rattle.cursor.proofs.Place.{place, end_before, place-most, place_none, end_step, end-least}
use Rattle.cursor.proofs.View.{even, end_is}
use Rattle.cursor.proofs.Search.{long-starts, long-ends, runs-is, placed-there, end-there}

-- ## the stretches are those that are to be listed
apart-weaken : (p q b : ℕ) (l : List Range) → p ≤ q → Apart q b l → Apart p b l
apart-weaken p q b [] h w = tt
apart-weaken p q b (r ∷ rs) h w = (omega arith, w.1, w.2, w.3)

in_front-apart : (x y b : ℕ) (l : List Range) → y ≤ b → (x < y → Apart (suc y) b l) → Apart x b l → Apart x b (in_front x y l)
in_front-apart x y b l h near far =
    split (ltb x y) (λ t. let k = ltb-true x y t in rw t (omega arith, k, h, near k)) (λ t. rw t far)

left-apart : (lo x b : ℕ) (l : List Range) → Above lo l → Apart x b (left_by l x b)
left-apart lo x b [] a = in_front-apart x b b [] (omega arith) (λ h. tt) tt
left-apart lo x b (r ∷ rs) a =
    let rest = left-apart r.end (max x r.end) b rs a.3 in
    in_front-apart x (min b r.start) b (left_by rs (max x r.end) b) (omega arith)
    (λ h. apart-weaken (suc (min b r.start)) (max x r.end) b (left_by rs (max x r.end) b) (omega (arith, a.1)) rest)
    (apart-weaken x (max x r.end) b (left_by rs (max x r.end) b) (omega arith) rest)

in_front-holds : (x y o : ℕ) (l : List Range) → inside o (in_front x y l) ≡ ((leb x o && ltb o y) || inside o l)
in_front-holds x y o l =
    split (ltb x y)
    (λ t. rw t)
    (λ t. split (leb x o)
    (λ u. rw (t, u, le-ltb o y (omega (arith, ltb-false x y t, leb-true x o u))))
    (λ u. rw (t, u)))

-- an offset is in a stretch just if it lies in [x, b) and in no range
left-holds : (lo x b o : ℕ) (l : List Range) → Above lo l → inside o (left_by l x b) ≡ (leb x o && (ltb o b && not (inside o l)))
left-holds lo x b o [] a =
    in_front-holds x b o [] ∙ split (leb x o) (λ u. rw u (split (ltb o b) (λ v. rw v) (λ v. rw v))) (λ u. rw u)
left-holds lo x b o (r ∷ rs) a =
    in_front-holds x (min b r.start) o (left_by rs (max x r.end) b)
    ∙ rw (left-holds r.end (max x r.end) b o rs a.3)
    (split (leb x o)
    (λ u. let xo = leb-true x o u in
    split (ltb o b)
    (λ v. let ob = ltb-true o b v in
    split (ltb o r.start)
    (λ s. let os = ltb-true o r.start s in
    rw (u, v, lt-ltb o (min b r.start) (omega arith), lt-leb r.start o os, inside-above o r.end rs a.3 (omega (arith, a.1))))
    (λ s. let so = ltb-false o r.start s in
    split (ltb o r.end)
    (λ e. let oe = ltb-true o r.end e in
    rw (u, v, e, le-ltb o (min b r.start) (omega arith), le-leb r.start o so, lt-leb (max x r.end) o (omega arith)))
    (λ e. let eo = ltb-false o r.end e in
    rw (u, v, e, le-ltb o (min b r.start) (omega arith), le-leb r.start o so, le-leb (max x r.end) o (omega arith)))))
    (λ v. let bo = ltb-false o b v in
    rw (u, v, le-ltb o (min b r.start) (omega arith)) (and-false (leb (max x r.end) o))))
    (λ u. let ox = leb-false x o u in rw (u, lt-leb (max x r.end) o (omega arith))))

pub stretches_are : (c : Cursor) (a b : ℕ) → Valid c → AreStretches c a b (stretches c a b)
stretches_are c a b v = record { apart = apart-weaken a (max a c.committed) b (stretches c a b) (omega arith) (left-apart c.committed (max a c.committed) b c.ahead v.above); hold = λ o. holds o }
  where
    holds : (o : ℕ) → inside o (stretches c a b) ≡ open_in c a b o
    holds o = left-holds c.committed (max a c.committed) b o c.ahead v.above ∙ split (leb a o)
        (λ u. let ao = leb-true a o u in
        split (ltb o c.committed)
        (λ t. let oc = ltb-true o c.committed t in
        rw (u, t, lt-leb (max a c.committed) o (omega arith)) (sym (and-false (ltb o b))))
        (λ t. let co = ltb-false o c.committed t in rw (u, t, le-leb (max a c.committed) o (omega arith))))
        (λ u. let oa = leb-false a o u in rw (u, lt-leb (max a c.committed) o (omega arith)))

-- ## and there are no others
below_apart : (o lo b : ℕ) (l : List Range) → Apart lo b l → o < lo → inside o l ≡ false
below_apart o lo b [] w h = refl
below_apart o lo b (r ∷ rs) w h = rw (lt-leb r.start o (omega arith)) (below_apart o (suc r.end) b rs w.3 (omega (arith, w.1)))

first_in : (lo b : ℕ) (r : Range) (rs : List Range) → Apart lo b (r ∷ rs) → inside r.start (r ∷ rs) ≡ true
first_in lo b r rs w = rw (le-leb r.start r.start (omega arith), lt-ltb r.start r.end w.1)

-- neither list starts before the other, and neither first stretch ends before the other
starts-after : (lo b : ℕ) (r s : Range) (rs ss : List Range) → Apart lo b (r ∷ rs) → Apart lo b (s ∷ ss) → ((o : ℕ) → inside o (r ∷ rs) ≡ inside o (s ∷ ss)) → s.start ≤ r.start
starts-after lo b r s rs ss w z e =
    split (ltb r.start s.start)
    (λ t. absurd (true≢false (sym (first_in lo b r rs w) ∙ e r.start ∙ below_apart r.start s.start b (s ∷ ss) (omega arith, z.1, z.2, z.3) (ltb-true r.start s.start t))))
    (λ t. ltb-false r.start s.start t)

ends-after : (lo b : ℕ) (r s : Range) (rs ss : List Range) → Apart lo b (r ∷ rs) → Apart lo b (s ∷ ss) → ((o : ℕ) → inside o (r ∷ rs) ≡ inside o (s ∷ ss)) → s.start ≤ r.start → s.end ≤ r.end
ends-after lo b r s rs ss w z e h =
    split (ltb r.end s.end)
    (λ t. let k = ltb-true r.end s.end t in
    let out : inside r.end (r ∷ rs) ≡ false = rw (le-ltb r.end r.end (omega arith), and-false (leb r.start r.end)) (below_apart r.end (suc r.end) b rs w.3 (omega arith)) in
    let held : inside r.end (s ∷ ss) ≡ true = rw (le-leb s.start r.end (omega (arith, w.1)), t) in
    absurd (true≢false (sym held ∙ sym (e r.end) ∙ out)))
    (λ t. ltb-false r.end s.end t)

-- what lies behind the first stretch
behind-first : (b o : ℕ) (r : Range) (rs ss : List Range) → Apart (suc r.end) b rs → Apart (suc r.end) b ss → inside o (r ∷ rs) ≡ inside o (r ∷ ss) → inside o rs ≡ inside o ss
behind-first b o r rs ss w z e =
    split (leb o r.end)
    (λ t. let k = leb-true o r.end t in below_apart o (suc r.end) b rs w (omega arith) ∙ sym (below_apart o (suc r.end) b ss z (omega arith)))
    (λ t. let k = leb-false o r.end t in rw (le-ltb o r.end (omega arith), and-false (leb r.start o)) at e)

pub apart-same : (lo b : ℕ) (l m : List Range) → Apart lo b l → Apart lo b m → ((o : ℕ) → inside o l ≡ inside o m) → l ≡ m
apart-same lo b [] [] w z e = refl
apart-same lo b [] (s ∷ ss) w z e = absurd (true≢false (sym (first_in lo b s ss z) ∙ sym (e s.start)))
apart-same lo b (r ∷ rs) [] w z e = absurd (true≢false (sym (first_in lo b r rs w) ∙ e r.start))
apart-same lo b (r ∷ rs) (s ∷ ss) w z e =
    let starts : r.start ≡ s.start = omega (arith, starts-after lo b r s rs ss w z e, starts-after lo b s r ss rs z w (λ o. sym (e o))) in
    let ends : r.end ≡ s.end = omega (arith, ends-after lo b r s rs ss w z e (omega arith), ends-after lo b s r ss rs z w (λ o. sym (e o)) (omega arith)) in
    let same : r ≡ s = ap (λ (x : ℕ). range x r.end) starts ∙ ap (range s.start) ends in
    let tail : Apart (suc r.end) b ss = rw ends z.3 in
    let whole : (o : ℕ) → inside o (r ∷ rs) ≡ inside o (r ∷ ss) = λ o. e o ∙ rw same in
    rw (apart-same (suc r.end) b rs ss w.3 tail (λ o. behind-first b o r rs ss w.3 tail (whole o)), same)

pub stretches-only : (c : Cursor) (a b : ℕ) (l : List Range) → Valid c → AreStretches c a b l → l ≡ stretches c a b
stretches-only c a b l v are =
    let mine = stretches_are c a b v in
    apart-same a b l (stretches c a b) are.apart mine.apart (λ o. are.hold o ∙ sym (mine.hold o))

-- ## no stretch where there is nothing between the bounds
left_none : (l : List Range) (x b : ℕ) → b ≤ x → left_by l x b ≡ []
left_none [] x b h = rw (le-ltb x b h)
left_none (r ∷ rs) x b h = rw (le-ltb x (min b r.start) (omega arith)) (left_none rs (max x r.end) b (omega arith))

pub stretches_none : (c : Cursor) (a b : ℕ) → b ≤ a → stretches c a b ≡ []
stretches_none c a b h = left_none c.ahead (max a c.committed) b (omega arith)

-- ## the nearest unsettled offset
beyond-above : (o lo : ℕ) (l : List Range) → Above lo l → o ≤ lo → beyond o l ≡ o
beyond-above o lo [] a h = refl
beyond-above o lo (r ∷ rs) a h = rw (lt-leb r.start o (omega (arith, a.0))) (beyond-above o r.end rs a.3 (omega (arith, a.0, a.1)))

-- it is the end before the offset's place, or the offset
nearest_at : (o lo : ℕ) (l : List Range) → Above lo l → nearest_open (cursor lo l) o ≡ max o (end_before lo (place o l) l)
nearest_at o lo [] a = split (ltb o lo) (λ t. let h = ltb-true o lo t in rw t (omega arith)) (λ t. let h = ltb-false o lo t in rw t (omega arith))
nearest_at o lo (r ∷ rs) a =
    split (leb r.start o)
    (λ p. let h = leb-true r.start o p in
    rw (p, le-ltb o lo (omega (arith, a.0)), end_step lo (place o rs) r rs) (nearest_at o r.end rs a.3))
    (λ p. let h = leb-false r.start o p in
    rw (p, beyond-above o r.end rs a.3 (omega (arith, a.1)))
    (split (ltb o lo) (λ t. let k = ltb-true o lo t in rw t (omega arith)) (λ t. let k = ltb-false o lo t in rw t (omega arith))))

nearest_up : (o lo : ℕ) (l : List Range) → Above lo l → (o ≤ nearest_open (cursor lo l) o) × (lo ≤ nearest_open (cursor lo l) o)
nearest_up o lo l a = rw (nearest_at o lo l a) (omega arith, omega (arith, end-least o lo l a))

nearest_open_lem : (o lo : ℕ) (l : List Range) → Above lo l → inside (nearest_open (cursor lo l) o) l ≡ false
nearest_open_lem o lo [] a = refl
nearest_open_lem o lo (r ∷ rs) a =
    split (leb r.start o)
    (λ p. let h = leb-true r.start o p in
    let up = nearest_up o r.end rs a.3 in
    let e : nearest_open (cursor lo (r ∷ rs)) o ≡ nearest_open (cursor r.end rs) o = rw (p, le-ltb o lo (omega (arith, a.0))) in
    subst (λ (x : ℕ). inside x (r ∷ rs) ≡ false) (sym e)
    (rw (le-ltb (nearest_open (cursor r.end rs) o) r.end up.1, and-false (leb r.start (nearest_open (cursor r.end rs) o))) (nearest_open_lem o r.end rs a.3)))
    (λ p. let h = leb-false r.start o p in
    let e : nearest_open (cursor lo (r ∷ rs)) o ≡ max o lo = nearest_at o lo (r ∷ rs) a ∙ rw p in
    subst (λ (x : ℕ). inside x (r ∷ rs) ≡ false) (sym e) (inside-above (max o lo) (max o lo) (r ∷ rs) (omega (arith, a.0), a.1, a.2, a.3) (omega arith)))

nearest_least : (o lo y : ℕ) (l : List Range) → Above lo l → o ≤ y → y < nearest_open (cursor lo l) o → settled (cursor lo l) y ≡ true
nearest_least o lo y [] a h k =
    split (ltb o lo)
    (λ t. rw (lt-ltb y lo (rw t at k)))
    (λ t. absurd (let z : y < o = rw t at k in omega arith))
nearest_least o lo y (r ∷ rs) a h k =
    split (leb r.start o)
    (λ p. let so = leb-true r.start o p in
    let near : y < nearest_open (cursor r.end rs) o = rw (p, le-ltb o lo (omega (arith, a.0))) at k in
    rw (le-leb r.start y (omega arith), le-ltb y lo (omega (arith, a.0))) (nearest_least o r.end y rs a.3 h near))
    (λ p. let os = leb-false r.start o p in
    let near : y < max o lo = rw (nearest_at o lo (r ∷ rs) a, p) at k in
    rw (lt-ltb y lo (omega arith)))

pub nearest_is : (c : Cursor) (o : ℕ) → Valid c → IsNearest c o (nearest_open c o)
nearest_is c o v =
    let up = nearest_up o c.committed c.ahead v.above in
    record {
      reached = up.0;
      unsettled = rw (le-ltb (nearest_open c o) c.committed up.1) (nearest_open_lem o c.committed c.ahead v.above);
      least = λ y h k. nearest_least o c.committed y c.ahead v.above h k;
    }

pub nearest_only : (c : Cursor) (o x : ℕ) → Valid c → IsNearest c o x → x ≡ nearest_open c o
nearest_only c o x v is =
    let mine = nearest_is c o v in
    let not-before : nearest_open c o ≤ x = not_settled x (nearest_open c o) is.unsettled (mine.least x is.reached) in
    let not_behind : x ≤ nearest_open c o = not_settled (nearest_open c o) x mine.unsettled (is.least (nearest_open c o) mine.reached) in
    omega arith
  where
    not_settled : (y z : ℕ) → settled c y ≡ false → (y < z → settled c y ≡ true) → z ≤ y
    not_settled y z u s = split (ltb y z) (λ t. absurd (true≢false (sym (s (ltb-true y z t)) ∙ u))) (λ t. ltb-false y z t)

-- ## the stretches by their places
-- the start at a place, b behind the last
abbrev start_at : ℕ → ℕ → List Range → ℕ
start_at b k l = (get_or l k (range b b)).start

-- the first range starts above x: what is left begins with [x, b) up to it
left-first : (x b : ℕ) (r : Range) (rs : List Range) → x < r.start → r.start < r.end → x < b → left_by (r ∷ rs) x b ≡ range x (min b r.start) ∷ left_by rs r.end b
left-first x b r rs h k l =
    let e : max x r.end ≡ r.end = omega arith in
    rw (lt-ltb x (min b r.start) (omega arith), e)

-- a range that starts by a leaves nothing before it
left_passed : (a lo b : ℕ) (r : Range) (rs : List Range) → r.start ≤ a → lo < r.end → left_by (r ∷ rs) (max a lo) b ≡ left_by rs (max a r.end) b
left_passed a lo b r rs h k =
    let e : max (max a lo) r.end ≡ max a r.end = omega arith in
    rw (le-ltb (max a lo) (min b r.start) (omega arith), e)

left_at : (a lo b k : ℕ) (l : List Range) → Above lo l → k < length (left_by l (max a lo) b)
    → rangeAt k (left_by l (max a lo) b) ≡ range (max a (end_before lo (place a l + k) l)) (min b (start_at b (place a l + k) l))
left_at a lo b k [] w h = let n : 0 + k ≡ k = omega arith in rw n (go k h)
  where
    go : (k : ℕ) → k < length (left_by [] (max a lo) b) → rangeAt k (left_by [] (max a lo) b) ≡ range (max a (end_before lo k [])) (min b b)
    go zero h =
        split (ltb (max a lo) b)
        (λ t. let e : b ≡ min b b = omega arith in rw t (ap (range (max a lo)) e))
        (λ t. absurd (let z : 0 < 0 = rw t at h in omega arith))
    go (suc k) h =
        split (ltb (max a lo) b)
        (λ t. absurd (let z : suc k < 1 = rw t at h in omega arith))
        (λ t. absurd (let z : suc k < 0 = rw t at h in omega arith))
left_at a lo b k (r ∷ rs) w h =
    split (leb r.start a)
    (λ p. let s = leb-true r.start a p in
    let e = left_passed a lo b r rs s (omega (arith, w.0, w.1)) in
    let n : suc (place a rs) + k ≡ suc (place a rs + k) = omega arith in
    rw (p, e, n, end_step lo (place a rs + k) r rs) (left_at a r.end b k rs w.3 (rw e at h)))
    (λ p. let s = leb-false r.start a p in
    split (ltb (max a lo) b)
    (λ t. let e = left-first (max a lo) b r rs (omega (arith, w.0)) w.1 (ltb-true (max a lo) b t) in
    let n : 0 + k ≡ k = omega arith in
    rw (p, e, n) (go (λ i j. left_at a r.end b i rs w.3 j) k (rw e at h) s))
    (λ t. let z : k < 0 = rw (left_none (r ∷ rs) (max a lo) b (ltb-false (max a lo) b t)) at h in absurd (omega arith)))
  where
    go : ((i : ℕ) → i < length (left_by rs (max a r.end) b) → rangeAt i (left_by rs (max a r.end) b) ≡ range (max a (end_before r.end (place a rs + i) rs)) (min b (start_at b (place a rs + i) rs)))
        → (k : ℕ) → k < suc (length (left_by rs r.end b)) → a < r.start
        → rangeAt k (range (max a lo) (min b r.start) ∷ left_by rs r.end b) ≡ range (max a (end_before lo k (r ∷ rs))) (min b (start_at b k (r ∷ rs)))
    go behind zero h s = refl
    go behind (suc k) h s =
        let e : max a r.end ≡ r.end = omega (arith, w.1) in
        let i : k < length (left_by rs (max a r.end) b) = rw e (omega arith) in
        let n : 0 + k ≡ k = omega arith in
        rw (end_step lo k r rs) (rw (e, place_none a r.end rs w.3 (omega (arith, w.1)), n) at (behind k i))

-- how many there are: a stretch before each range that starts in (a, b), and one more unless what ends before b reaches it
abbrev pub more : Bool → ℕ
more t = cond t 1 0

one_more : (t : Bool) → more t ≤ 1
one_more true = omega arith
one_more false = omega arith

left-count : (a lo b : ℕ) (l : List Range) → Above lo l → a < b → place a l + length (left_by l (max a lo) b) ≡ place (b - 1) l + more (ltb (end_before lo (place (b - 1) l) l) b)
left-count a lo b [] w h =
    split (ltb lo b)
    (λ t. rw (t, lt-ltb (max a lo) b (omega (arith, ltb-true lo b t))))
    (λ t. rw (t, le-ltb (max a lo) b (omega (arith, ltb-false lo b t))))
left-count a lo b (r ∷ rs) w h =
    split (leb r.start a)
    (λ p. let s = leb-true r.start a p in
    rw (p, le-leb r.start (b - 1) (omega arith), left_passed a lo b r rs s (omega (arith, w.0, w.1)), end_step lo (place (b - 1) rs) r rs)
    (omega (arith, left-count a r.end b rs w.3 h)))
    (λ p. let s = leb-false r.start a p in
    let e : max a r.end ≡ r.end = omega (arith, w.1) in
    split (leb r.start (b - 1))
    (λ q. let t = leb-true r.start (b - 1) q in
    let ih = rw (place_none a r.end rs w.3 (omega (arith, w.1)), e) at (left-count a r.end b rs w.3 h) in
    rw (p, q, left-first (max a lo) b r rs (omega (arith, w.0)) w.1 (omega (arith, w.0)), end_step lo (place (b - 1) rs) r rs) (omega (arith, ih)))
    (λ q. let t = leb-false r.start (b - 1) q in
    let m : min b r.start ≡ b = omega arith in
    rw (p, q, m, left_none rs (max (max a lo) r.end) b (omega (arith, w.1)))
    (split (ltb lo b)
    (λ u. rw (u, lt-ltb (max a lo) b (omega (arith, ltb-true lo b u))))
    (λ u. rw (u, le-ltb (max a lo) b (omega (arith, ltb-false lo b u)))))))

-- a stretch before each range at most, and one behind the last
pub stretches-few : (c : Cursor) (a b : ℕ) → Valid c → length (stretches c a b) ≤ suc (length c.ahead)
stretches-few c a b v =
    split (ltb a b)
    (λ t. omega (arith, left-count a c.committed b c.ahead v.above (ltb-true a b t), place-most (b - 1) c.ahead, one_more (ltb (end_before c.committed (place (b - 1) c.ahead) c.ahead) b)))
    (λ t. rw (stretches_none c a b (ltb-false a b t)) (omega arith))

-- ## in the columns of a cursor
start-zipped : (b k : ℕ) (s e : List ℕ) → length s ≡ length e → start_at b k (zipped range s e) ≡ get_or s k b
start-zipped b k [] e h = refl
start-zipped b k (x ∷ s) [] h = absurd (omega arith)
start-zipped b zero (x ∷ s) (y ∷ e) h = refl
start-zipped b (suc k) (x ∷ s) (y ∷ e) h = start-zipped b k s e (suc_inj h)

-- what stands in a list doesn't depend on what is answered behind its end
pub get_d_in : (l : List ℕ) (k d e : ℕ) → k < length l → get_or l k d ≡ get_or l k e
get_d_in [] k d e h = absurd (omega arith)
get_d_in (x ∷ l) zero d e h = refl
get_d_in (x ∷ l) (suc k) d e h = get_d_in l k d e (le_of_suc-le-suc h)

pub get_d_past : (l : List ℕ) (k d : ℕ) → length l ≤ k → get_or l k d ≡ d
get_d_past [] k d h = refl
get_d_past (x ∷ l) zero d h = absurd (omega arith)
get_d_past (x ∷ l) (suc k) d h = get_d_past l k d (le_of_suc-le-suc h)

module _ (g : AckCursor) (w : Whole g) where
  pub found_nearest : (x i end : ℕ) → i ≡ upTo x (take g.runs g.starts) → end ≡ get_or (g.committed ∷ g.ends) i 0 → max x end ≡ nearest_open (view g) x
  found_nearest x i end p q =
      rw (end-there g w x i p end q, placed-there g w x i p) (sym (nearest_at x g.committed (view g).ahead w.sound.valid.above))

  module _ (a b : ℕ) where
    pub found-few : length (stretches (view g) a b) ≤ 129
    found-few = omega (arith, stretches-few (view g) a b w.sound.valid, runs-is g w, w.sound.few)

    -- the number of stretches, from two places and the end before the second
    pub found-count : (first last end : ℕ) → a < b → first ≡ upTo a (take g.runs g.starts) → last ≡ upTo (b - 1) (take g.runs g.starts) → end ≡ get_or (g.committed ∷ g.ends) last 0
        → first + length (stretches (view g) a b) ≡ last + more (ltb end b)
    found-count first last end h p q r =
        rw (end-there g w (b - 1) last q end r, placed-there g w a first p, placed-there g w (b - 1) last q) (left-count a g.committed b (view g).ahead w.sound.valid.above h)

    module _ (first k : ℕ) (p : first ≡ upTo a (take g.runs g.starts)) (h : k < length (stretches (view g) a b)) where
      pub found_within : first + k ≤ g.runs
      found_within =
          split (ltb a b)
          (λ t. omega (arith, left-count a g.committed b (view g).ahead w.sound.valid.above (ltb-true a b t), placed-there g w a first p, place-most (b - 1) (view g).ahead, runs-is g w, one_more (ltb (end_before g.committed (place (b - 1) (view g).ahead) (view g).ahead) b)))
          (λ t. absurd (let z : k < 0 = rw (stretches_none (view g) a b (ltb-false a b t)) at h in omega arith))

      pub found_at : range (max a (get_or (g.committed ∷ g.ends) (first + k) 0)) (min b (get_or (take g.runs g.starts) (first + k) b)) ≡ rangeAt k (stretches (view g) a b)
      found_at =
          rw (
            end_is g.runs g.starts g.ends (long-starts g w) (long-ends g w) g.committed (first + k) found_within,
            ← start-zipped b (first + k) (take g.runs g.starts) (take g.runs g.ends) (even g.runs g.starts g.ends (long-starts g w) (long-ends g w)),
            placed-there g w a first p,
          )
          (sym (left_at a g.committed b k (view g).ahead w.sound.valid.above h))

-- ## into lent memory
bounds-length : (l : List Range) → length (bounds l) ≡ 2 * length l
bounds-length [] = refl
bounds-length (r ∷ rs) = omega (arith, bounds-length rs)

bounds-at : (k : ℕ) (l : List Range) → k < length l → (get_or (bounds l) (2 * k) 0 ≡ (rangeAt k l).start) × (get_or (bounds l) (2 * k + 1) 0 ≡ (rangeAt k l).end)
bounds-at k [] h = absurd (omega arith)
bounds-at zero (r ∷ rs) h = (refl, refl)
bounds-at (suc k) (r ∷ rs) h =
    let e : 2 * suc k ≡ suc (suc (2 * k)) = omega arith in
    let f : suc (suc (2 * k)) + 1 ≡ suc (suc (2 * k + 1)) = omega arith in
    rw (e, f) (bounds-at k rs (le_of_suc-le-suc h))

-- a turn of the loop that puts the numbers into lent memory, and its end
pub two-more : (l : List Range) (start out : List ℕ) (i : ℕ) (s : Range) → i < length l → s ≡ rangeAt i l → Filling (bounds l) start out (2 * length l) (2 * i)
    → Filling (bounds l) start (set (set out (2 * i) s.start) (2 * i + 1) s.end) (2 * length l) (2 * (i + 1))
two-more l start out i s h e inv =
    let size = bounds-length l in
    let at = bounds-at i l h in
    let n : 2 * i + 1 + 1 ≡ 2 * (i + 1) = omega arith in
    let one = filling-more 0 (omega arith) (omega arith) inv in
    let two = filling-more 0 (omega arith) (omega arith) one in
    rw e (rw (at.0, at.1, n) at two)

all-put : (l : List Range) (start out : List ℕ) → Filling (bounds l) start out (2 * length l) (2 * length l) → out ≡ filled (bounds l) start
all-put l start out f =
    let front : take (length (bounds l)) out ≡ bounds l = rw (← bounds-length l) at f.done ∙ take-length (bounds l) in
    let rest : drop (length (bounds l)) out ≡ drop (length (bounds l)) start = rw (← bounds-length l) at f.rest in
    sym (take-append-drop (length (bounds l)) out) ∙ rw (front, rest)

-- ranges as numbers, without room and with it
module _ (l : List Range) (out : List ℕ) where
  pub ranges-short : length out / 2 < length l → answer (refused OutTooShort) out ≡ listed (bounds l) out
  ranges-short h = rw (lt-ltb (length out) (length (bounds l)) (omega (arith, bounds-length l)))

  pub ranges-put : (n : ℕ) (after : List ℕ) → n ≡ length l → n ≤ length out / 2 → Filling (bounds l) out after (2 * n) (2 * n) → answer (done (2 * n)) after ≡ listed (bounds l) out
  ranges-put n after e k f =
      rw (le-ltb (length out) (length (bounds l)) (omega (arith, bounds-length l, e)), all-put l out after (rw e at f), e, bounds-length l)

module _ (c : Cursor) (a b : ℕ) (out : List ℕ) where
  pub numbers_reversed : b < a → answer (refused BoundsReversed) out ≡ open_numbers c a b out
  unfolding open_numbers
  numbers_reversed h = rw (lt-ltb b a h)

  module _ (h : a ≤ b) where
    pub numbers-short : length out / 2 < length (stretches c a b) → answer (refused OutTooShort) out ≡ open_numbers c a b out
    unfolding open_numbers
    numbers-short k = rw (le-ltb b a h, lt-ltb (length out / 2) (length (stretches c a b)) k)

    pub numbers-put : (n : ℕ) (after : List ℕ) → n ≡ length (stretches c a b) → n ≤ length out / 2 → Filling (bounds (stretches c a b)) out after (2 * n) (2 * n) → answer (done (2 * n)) after ≡ open_numbers c a b out
    unfolding open_numbers
    numbers-put n after e k f =
        rw (le-ltb b a h, le-ltb (length out / 2) (length (stretches c a b)) (omega arith), all-put (stretches c a b) out after (rw e at f), e, bounds-length (stretches c a b))

-- the same as records
module _ (l out : List Range) where
  pub records-short : length out < length l → answer (refused OutTooShort) out ≡ listed l out
  records-short h = rw (lt-ltb (length out) (length l) h)

  pub records-listed : (n : ℕ) (after : List Range) → n ≡ length l → n ≤ length out → Written l out n n after → answer (done n) after ≡ listed l out
  records-listed n after e h w = all-written l out n after (done n) (rw (e, le-ltb (length out) (length l) (omega (arith, e)))) refl w

module _ (c : Cursor) (a b : ℕ) (out : List Range) where
  pub records_reversed : b < a → answer (refused BoundsReversed) out ≡ open_between c a b out
  unfolding open_between
  records_reversed h = rw (lt-ltb b a h)

  pub records_put : a ≤ b → (after : List Range) (x : Result ℕ) → answer x after ≡ listed (stretches c a b) out → answer x after ≡ open_between c a b out
  unfolding open_between
  records_put h after x e = rw (le-ltb b a h) e
