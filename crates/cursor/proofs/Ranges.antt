-- Laws of ranges: what lies in them once an offset has joined them, that they stay in order, and how many they are.
-- Assumes nothing.
use Prim.Native.Nat.{ℕ, zero, suc, ◌+◌, ◌-◌, ◌≤◌, ◌<◌}
use native.Mathlib.Omega.{arith}
use native.Mathlib.Nat.{le_of_suc-le-suc}
use native.Mathlib.Numerals.{add-one}
use mathlib.Core.Path.{◌≡◌, refl, sym, ◌∙◌}
use mathlib.Core.Bool.{Bool, true, false, ◌&&◌, ◌||◌, or_assoc, or_comm, or-false, true≢false}
use mathlib.Core.List.{List, [], ◌∷◌}
use lib.Dec.{ltb, leb, eqb}
use lib.ListN.{length, drop, get_or}
use lib.Seq.{drop-cons}
use borrow.Author.Tests.{ltb-true, ltb-false, leb-true, eqb-true, eqb-false, ne_eqb, lt-ltb, le-ltb, le-leb, lt-leb}
use Rattle.types.specs.Limits.{MAX}
use Rattle.types.proofs.Cases.{split, neither}
use Rattle.cursor.specs.Ranges.{range, Above, inside, touches, joined, insert, offsets}
use Rattle.cursor.specs.declared.Range.{Range}

-- the end of the last range, or what stands before them
abbrev pub last_end : ℕ → List Range → ℕ
last_end n [] = n
last_end n (r ∷ rs) = last_end r.end rs

-- a test of an offset that lies at a bound or on one of its sides
abbrev within : ℕ → ℕ → ℕ → Bool
within start end o = leb start o && ltb o end

pub or_left : (a b c : Bool) → (a || (b || c)) ≡ (b || (a || c))
or_left a b c = sym (or_assoc a b c) ∙ rw (or_comm a b) (or_assoc b a c)

-- two ranges that meet are one
within_join : (s m e o : ℕ) → s ≤ m → m ≤ e → within s e o ≡ (within s m o || within m e o)
within_join s m e o h k =
    split (ltb o m)
    (λ p. let q = ltb-true o m p in rw (p, lt-ltb o e (omega arith), lt-leb m o q) (sym (or-false _)))
    (λ p. let q = ltb-false o m p in rw (p, le-leb m o q, le-leb s o (omega arith)))

within-one : (n o : ℕ) → within n (n + 1) o ≡ eqb o n
within-one n o =
    split (eqb o n)
    (λ p. let q = eqb-true o n p in rw (p, le-leb n o (omega arith), lt-ltb o (n + 1) (omega arith)))
    (λ p. let q = eqb-false o n p in rw p (split (leb n o)
    (λ t. rw (t, le-ltb o (n + 1) (omega (arith, leb-true n o t, q))))
    (λ t. rw t)))

-- what lies below a bound, and in a range from there on
pub below_join : (n e o : ℕ) → n ≤ e → ltb o e ≡ (ltb o n || within n e o)
below_join n e o h =
    split (ltb o n)
    (λ p. rw (p, lt-ltb o e (omega (arith, ltb-true o n p))))
    (λ p. rw (p, le-leb n o (ltb-false o n p)))

pub below_next : (n o : ℕ) → ltb o (n + 1) ≡ (eqb o n || ltb o n)
below_next n o = below_join n (n + 1) o (omega arith) ∙ rw (within-one n o) (or_comm (ltb o n) (eqb o n))

-- what is not above lo lies in no range above it, and touches none if it is below lo
pub inside-above : (o lo : ℕ) (l : List Range) → Above lo l → o ≤ lo → inside o l ≡ false
inside-above o lo [] a h = refl
inside-above o lo (r ∷ rs) a h = rw (lt-leb r.start o (omega arith)) (inside-above o r.end rs a.3 (omega arith))

pub touches-above : (o lo : ℕ) (l : List Range) → Above lo l → o < lo → touches o l ≡ false
touches-above o lo [] a h = refl
touches-above o lo (r ∷ rs) a h =
    rw (ne_eqb r.end o (λ z. omega arith), ne_eqb r.start (o + 1) (λ z. omega arith))
    (touches-above o r.end rs a.3 (omega arith))

joined_in : (s e o lo : ℕ) (l : List Range) → s ≤ e → Above lo l → inside o (joined s e l) ≡ (within s e o || inside o l)
joined_in s e o lo [] h a = refl
joined_in s e o lo (r ∷ rs) h a =
    split (eqb r.start e)
    (λ p. let q = eqb-true r.start e p in
    rw p (rw (within_join s e r.end o h (omega arith), q) (or_assoc (within s e o) (within e r.end o) (inside o rs))))
    (λ p. rw p)

pub insert_in : (o x lo : ℕ) (l : List Range) → Above lo l → inside o l ≡ false → inside x (insert o l) ≡ (eqb x o || inside x l)
insert_in o x lo [] a n = rw (within-one o x)
insert_in o x lo (r ∷ rs) a n =
    split (ltb o r.start)
    (λ p. rw p (joined_in o (o + 1) x lo (r ∷ rs) (omega arith) a ∙ rw (within-one o x)))
    (λ p. split (eqb r.end o)
    (λ q. let e = eqb-true r.end o q in
    rw (p, q) (joined_in r.start (o + 1) x r.end rs (omega arith) a.3
    ∙ rw (within_join r.start o (o + 1) x (omega arith) (omega arith), within-one o x, e, or_comm (within r.start o x) (eqb x o))
    (or_assoc (eqb x o) (within r.start o x) (inside x rs))))
    (λ q. rw (p, q, insert_in o x r.end rs a.3 (neither (within r.start r.end o) (inside o rs) n).1)
    (or_left (within r.start r.end x) (eqb x o) (inside x rs))))

joined-above : (lo s o : ℕ) (l : List Range) → lo < s → s ≤ o → o < MAX → Above o l → Above lo (joined s (o + 1) l)
joined-above lo s o [] h k m a = (h, omega arith, omega arith, tt)
joined-above lo s o (r ∷ rs) h k m a =
    split (eqb r.start (o + 1))
    (λ p. rw p (h, omega arith, a.2, a.3))
    (λ p. rw p (h, omega arith, omega arith, (omega (arith, eqb-false r.start (o + 1) p), a.1, a.2, a.3)))

-- an offset in no range that is not before the first is not below its end
behind : (o : ℕ) (r : Range) (rs : List Range) → inside o (r ∷ rs) ≡ false → ltb o r.start ≡ false → r.end ≤ o
behind o r rs n p =
    ltb-false o r.end (rw (le-leb r.start o (ltb-false o r.start p)) at (neither (within r.start r.end o) (inside o rs) n).0)

pub insert-above : (o lo : ℕ) (l : List Range) → lo < o → o < MAX → inside o l ≡ false → Above lo l → Above lo (insert o l)
insert-above o lo [] h m n a = (h, omega arith, omega arith, tt)
insert-above o lo (r ∷ rs) h m n a =
    split (ltb o r.start)
    (λ p. rw p (joined-above lo o o (r ∷ rs) h (omega arith) m (ltb-true o r.start p, a.1, a.2, a.3)))
    (λ p. let b = behind o r rs n p in
    split (eqb r.end o)
    (λ q. let e = eqb-true r.end o q in
    rw (p, q) (joined-above lo r.start o rs a.0 (omega arith) m (rw e at a.3)))
    (λ q. rw (p, q) (a.0, a.1, a.2, insert-above o r.end rs (omega (arith, eqb-false r.end o q)) m (neither (within r.start r.end o) (inside o rs) n).1 a.3)))

joined_length : (s e : ℕ) (l : List Range) → length (joined s e l) ≤ suc (length l)
joined_length s e [] = omega arith
joined_length s e (r ∷ rs) = split (eqb r.start e) (λ p. rw p (omega arith)) (λ p. rw p (omega arith))

pub insert-length : (o : ℕ) (l : List Range) → length (insert o l) ≤ suc (length l)
insert-length o [] = omega arith
insert-length o (r ∷ rs) =
    split (ltb o r.start)
    (λ p. rw p (joined_length o (o + 1) (r ∷ rs)))
    (λ p. split (eqb r.end o)
    (λ q. rw (p, q) (omega (arith, joined_length r.start (o + 1) rs)))
    (λ q. rw (p, q) (omega (arith, insert-length o rs))))

-- an offset that touches a range makes none more
pub insert-touching : (o lo : ℕ) (l : List Range) → Above lo l → touches o l ≡ true → length (insert o l) ≤ length l
insert-touching o lo [] a t = absurd (true≢false (sym t))
insert-touching o lo (r ∷ rs) a t =
    split (ltb o r.start)
    (λ p. let h = ltb-true o r.start p in
    split (eqb r.start (o + 1))
    (λ q. rw (p, q) (omega arith))
    (λ q. absurd (true≢false (sym t ∙ rw (ne_eqb r.end o (λ z. omega arith), q) (touches-above o r.end rs a.3 (omega arith))))))
    (λ p. let h = ltb-false o r.start p in
    split (eqb r.end o)
    (λ q. rw (p, q) (joined_length r.start (o + 1) rs))
    (λ q. rw (p, q) (omega (arith, insert-touching o r.end rs a.3 (rw (q, ne_eqb r.start (o + 1) (λ z. omega arith)) at t)))))

-- the range at a place is nonempty
pub nonempty_at : (k lo : ℕ) (l : List Range) → Above lo l → k < length l → (get_or l k (range 0 0)).start < (get_or l k (range 0 0)).end
nonempty_at k lo [] a h = absurd (omega arith)
nonempty_at zero lo (r ∷ rs) a h = a.1
nonempty_at (suc k) lo (r ∷ rs) a h = nonempty_at k r.end rs a.3 (le_of_suc-le-suc h)

-- the offsets from a place on
pub sum-from : (k : ℕ) (l : List Range) → k < length l → offsets (drop k l) ≡ ((get_or l k (range 0 0)).end - (get_or l k (range 0 0)).start) + offsets (drop (k + 1) l)
sum-from k l h = rw (drop-cons l k (range 0 0) h, add-one k)

-- ranges above lo hold no more offsets than there are
pub offsets-fit : (lo : ℕ) (l : List Range) → Above lo l → lo ≤ MAX → lo + offsets l ≤ MAX
offsets-fit lo [] a h = omega arith
offsets-fit lo (r ∷ rs) a h = omega (arith, offsets-fit r.end rs a.3 a.2)
