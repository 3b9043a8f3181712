-- The loops over columns of any elements: the invariants of those that open a gap, close one and change every element,
-- each with its start, its turn and its end; and a turn of one that fills a column from another.
-- Assumes nothing.
use Prim.Native.Nat.{ℕ, suc, ◌+◌, ◌-◌, ◌≤◌, ◌<◌}
use native.Mathlib.Omega.{arith}
use mathlib.Core.Path.{◌≡◌, refl, sym, ap, ◌∙◌}
use native.Mathlib.Numerals.{add-one}
use mathlib.Core.List.{List, ◌∷◌, ◌++◌, map, append-nil}
use lib.ListN.{length, take, drop, get_or, set, length-set, drop_of_length-le}
use lib.Seq.{take-take, take_all, take-suc, take-set-lt, take-suc-set, drop-set-lt, drop-cons, drop-drop, get_or-take, append_snoc, length-take-le}
use Rattle.types.proofs.Shift.{carry-more, carry-end, down_more, down_end}

module _ {A : Type 0} where
  -- `held` belongs at i: with it there, the column is the one asked for
  pub record Opening (start column : List A) (len at : ℕ) (x held : A) (i : ℕ) : Type 0 where
    pub inside : i ≤ len
    pub room : len < length column
    pub full : length column ≡ length start
    pub is : take i (take len column) ++ held ∷ drop i (take len column) ≡ take at (take len start) ++ x ∷ drop at (take len start)

  pub opening : (start : List A) (len at : ℕ) (x : A) → at ≤ len → len < length start → Opening start start len at x x at
  opening start len at x h r = record { inside = h; room = r; full = refl; is = refl }

  module _ (d : A) {start column : List A} {len at : ℕ} {x held : A} {i : ℕ} (inv : Opening start column len at x held i) where
    pub opening-more : i < len → Opening start (set column i held) len at x (get_or column i d) (i + 1)
    opening-more h =
        record {
          inside = omega arith;
          room = rw (length-set column i held) inv.room;
          full = length-set column i held ∙ inv.full;
          is = carry-more d column i len (omega (arith, inv.room)) held h ∙ inv.is;
        }

    pub opened : len ≤ i → take (len + 1) (set column i held) ≡ take at (take len start) ++ x ∷ drop at (take len start)
    opened h =
        let e : i ≡ len = omega (arith, inv.inside) in
        ap (λ (n : ℕ). take (n + 1) (set column i held)) (sym e) ∙ carry-end d column i len (omega (arith, inv.room)) held e (omega (arith, inv.room)) ∙ inv.is

  -- what stands from j on belongs at i: with it there, the column is the one asked for
  pub record Closing (start column : List A) (len from to i j : ℕ) : Type 0 where
    pub order : i ≤ j
    pub inside : j ≤ len
    pub moved : j - i ≡ to - from
    pub within : len ≤ length column
    pub full : length column ≡ length start
    pub is : take i column ++ drop j (take len column) ≡ take from (take len start) ++ drop to (take len start)

  pub closing : (start : List A) (len from to : ℕ) → from ≤ to → to ≤ len → len ≤ length start → Closing start start len from to from to
  closing start len from to h k w =
      record { order = h; inside = k; moved = refl; within = w; full = refl; is = rw (take-take from len start (omega arith)) }

  module _ (d : A) {start column : List A} {len from to i j : ℕ} (inv : Closing start column len from to i j) where
    pub closing-more : j < len → Closing start (set column i (get_or column j d)) len from to (i + 1) (j + 1)
    closing-more h =
        record {
          order = omega (arith, inv.order);
          inside = omega arith;
          moved = omega (arith, inv.order, inv.moved);
          within = rw (length-set column i (get_or column j d)) inv.within;
          full = length-set column i (get_or column j d) ∙ inv.full;
          is = down_more d column i len inv.within j inv.order h ∙ inv.is;
        }

    pub closed : from ≤ to → len ≤ j → take (len - (to - from)) column ≡ take from (take len start) ++ drop to (take len start)
    closed o h =
        let e : len - (to - from) ≡ i = omega (arith, inv.order, inv.inside, inv.moved) in
        ap (λ (n : ℕ). take n column) e ∙ sym (down_end d column i len inv.within j h) ∙ inv.is

-- ## every element changed
module _ {A : Type 0} (f : A → A) where
  -- the elements before i are changed, those from i on are not
  pub record Mapping (start column : List A) (n i : ℕ) : Type 0 where
    pub inside : i ≤ n
    pub within : n ≤ length column
    pub full : length column ≡ length start
    pub is : take i (take n column) ++ map f (drop i (take n column)) ≡ map f (take n start)

  pub mapping : (start : List A) (n : ℕ) → n ≤ length start → Mapping start start n 0
  mapping start n h = record { inside = omega arith; within = h; full = refl; is = refl }

  module _ (d : A) {start column : List A} {n i : ℕ} (inv : Mapping start column n i) where
    pub mapping-more : i < n → Mapping start (set column i (f (get_or column i d))) n (i + 1)
    mapping-more h =
        let v = f (get_or column i d) in
        let hl : i < length (take n column) = rw (length-take-le n column inv.within) h in
        let hs : i < suc i = omega arith in
        record {
          inside = omega arith;
          within = rw (length-set column i v) inv.within;
          full = length-set column i v ∙ inv.full;
          is =
              rw (add-one, take-set-lt n column i v h, take-suc-set (take n column) i v hl, drop-set-lt (suc i) (take n column) i v hs, append_snoc)
              (rw (← get_or-take n column i d h) (ap (λ (l : List A). take i (take n column) ++ map f l) (sym (drop-cons (take n column) i d hl)) ∙ inv.is));
        }

    pub mapped : n ≤ i → take n column ≡ map f (take n start)
    mapped h =
        let e : length (take n column) ≤ i = rw (length-take-le n column inv.within) h in
        sym (ap (λ (l : List A). take i (take n column) ++ map f l) (drop_of_length-le (take n column) e) ∙ append-nil (take i (take n column)) ∙ take_all i (take n column) e) ∙ inv.is

-- ## a column filled from another
-- the first i places are those of a list; one more
pub filled_more : {A : Type 0} (d : A) (list out : List A) (i : ℕ) → i < length list → i < length out → take i out ≡ take i list
    → take (i + 1) (set out i (get_or list i d)) ≡ take (i + 1) list
filled_more d list out i h k e = rw (add-one, take-suc-set out i (get_or list i d) k, take-suc list i d h, e)

-- the places from i on are as they were; one less
pub rest_more : {A : Type 0} (i : ℕ) (out start : List A) (a : A) → drop i out ≡ drop i start → drop (i + 1) (set out i a) ≡ drop (i + 1) start
rest_more i out start a e = let h : i < i + 1 = omega arith in rw (drop-set-lt (i + 1) out i a h, ← drop-drop 1 i out, ← drop-drop 1 i start, e)

-- lent places filled from a list: the first i are done, the others as they were
pub record Filling {A : Type 0} (list start out : List A) (n i : ℕ) : Type 0 where
  pub inside : i ≤ n
  pub room : n ≤ length start
  pub full : length out ≡ length start
  pub done : take i out ≡ take i list
  pub rest : drop i out ≡ drop i start

pub filling : {A : Type 0} (list out : List A) (n : ℕ) → n ≤ length out → Filling list out out n 0
filling list out n h = record { inside = omega arith; room = h; full = refl; done = refl; rest = refl }

pub filling-more : {A : Type 0} (d : A) {list start out : List A} {n i : ℕ} → n ≤ length list → i < n → Filling list start out n i
    → Filling list start (set out i (get_or list i d)) n (i + 1)
filling-more d {list} {start} {out} {n} {i} h k inv =
    record {
      inside = omega arith;
      room = inv.room;
      full = length-set out i (get_or list i d) ∙ inv.full;
      done = filled_more d list out i (omega arith) (omega (arith, inv.room, inv.full)) inv.done;
      rest = rest_more i out start (get_or list i d) inv.rest;
    }
