-- From two columns to their list: what the place that a search found says of the value of a key, and which columns the list
-- operations make there.
-- Assumes nothing.
use Prim.Native.Nat.{ℕ, ◌+◌, ◌≤◌, ◌<◌}
use native.Mathlib.Omega.{arith}
use native.Mathlib.Numerals.{add-one}
use mathlib.Core.Path.{◌≡◌, sym, ap, ◌∙◌}
use mathlib.Core.List.{List}
use mathlib.Core.Option
use mathlib.Core.Option.{none, some}
use lib.ListN.{length, take, get_or, set, take-append-drop}
use lib.Seq.{length-take-le, get_or-take, take-set-lt}
use Rattle.types.specs.Keyed.{entries, lookup, put, delete, Rising}
use Rattle.types.specs.Sorted.{Ascending, below}
use Rattle.types.specs.Zipped.{inserted, removed}
use Rattle.types.proofs.Keyed.{delete-absent}
use Rattle.types.proofs.Columns.{rising_ascending, lookup-found, put-found, delete-found, lookup_missing, put_missing}
use Rattle.tables.specs.Search.{Placed, span_of, Spans}
use Rattle.tables.specs.declared.Place.{Place}
use Rattle.tables.specs.declared.Place.TheVariants.{Found, Missing}
use Rattle.tables.specs.declared.counts.Span.{Span}
use Rattle.tables.proofs.Search.{boundary_below}

-- ## two columns of which the first n places are in use
-- x stands at a place: the value there is its, a store there puts another one, and without the place x is gone
pub record Stands {A : Type 0} (d : A) (n : ℕ) (ks : List ℕ) (vs : List A) (x at : ℕ) : Type 0 where
  pub inside : at < n
  pub is : lookup x (entries (take n ks) (take n vs)) ≡ some (get_or vs at d)
  pub put : (v : A) → entries (take n ks) (take n (set vs at v)) ≡ put x v (entries (take n ks) (take n vs))
  pub gone : entries (removed at (at + 1) (take n ks)) (removed at (at + 1) (take n vs)) ≡ delete x (entries (take n ks) (take n vs))

-- x stands nowhere, and belongs at a place
pub record Lacks {A : Type 0} (n : ℕ) (ks : List ℕ) (vs : List A) (x at : ℕ) : Type 0 where
  pub inside : at ≤ n
  pub is : lookup x (entries (take n ks) (take n vs)) ≡ none
  pub put : (v : A) → entries (inserted at x (take n ks)) (inserted at v (take n vs)) ≡ put x v (entries (take n ks) (take n vs))

module _ {A : Type 0} (d : A) (n : ℕ) (ks : List ℕ) (vs : List A) (fits : n ≤ length ks) (fits' : n ≤ length vs) (rise : Rising 0 (entries (take n ks) (take n vs))) where
  even : length (take n ks) ≡ length (take n vs)
  even = length-take-le n ks fits ∙ sym (length-take-le n vs fits')

  pub keys_ascend : Ascending 0 (take n ks)
  keys_ascend = rising_ascending 0 (take n ks) (take n vs) even rise

  pub stands : (x at : ℕ) → Placed x (take n ks) (Found at) → Stands d n ks vs x at
  stands x at p =
      let h : at < n = rw (length-take-le n ks fits) at p.0 in
      record {
        inside = h;
        is = lookup-found d x at 0 (take n ks) (take n vs) even keys_ascend p.0 p.1 ∙ ap some (get_or-take n vs at d h);
        put = λ v. ap (entries (take n ks)) (take-set-lt n vs at v h) ∙ sym (put-found x at 0 v (take n ks) (take n vs) even keys_ascend p.0 p.1);
        gone = rw add-one (sym (delete-found x at 0 (take n ks) (take n vs) even keys_ascend p.0 p.1));
      }

  pub lacks : (x at : ℕ) → Placed x (take n ks) (Missing at) → Lacks n ks vs x at
  lacks x at p =
      let b : at ≡ below x (take n ks) = boundary_below x at 0 (take n ks) keys_ascend p.0 in
      let e : lookup x (entries (take n ks) (take n vs)) ≡ none = lookup_missing x 0 (take n ks) (take n vs) even keys_ascend (rw b at p.1) in
      record {
        inside = rw (length-take-le n ks fits) at p.0.inside;
        is = e;
        put = λ v. rw b (sym (put_missing x v (take n ks) (take n vs) even e));
      }

-- the places of a key, one or none: its count, 0 where there is none, and the columns without it
pub record Spanned (n : ℕ) (ks vs : List ℕ) (x : ℕ) (r : Span) : Type 0 where
  pub order : r.from ≤ r.to
  pub inside : r.to ≤ n
  pub count : r.count ≡ Option.get_or (lookup x (entries (take n ks) (take n vs))) 0
  pub gone : entries (removed r.from r.to (take n ks)) (removed r.from r.to (take n vs)) ≡ delete x (entries (take n ks) (take n vs))

module _ (n : ℕ) (ks vs : List ℕ) (fits : n ≤ length ks) (fits' : n ≤ length vs) (rise : Rising 0 (entries (take n ks) (take n vs))) where
  span-of : (x : ℕ) (p : Place) → Placed x (take n ks) p → Spanned n ks vs x (span_of vs p)
  span-of x (Found at) p =
      let h = stands 0 n ks vs fits fits' rise x at p in
      record { order = omega arith; inside = omega (arith, h.inside); count = rw h.is; gone = h.gone }
  span-of x (Missing at) p =
      let h = lacks 0 n ks vs fits fits' rise x at p in
      record {
        order = omega arith;
        inside = h.inside;
        count = rw h.is;
        gone = rw (take-append-drop at (take n ks), take-append-drop at (take n vs)) (sym (delete-absent x (entries (take n ks) (take n vs)) h.is));
      }

  pub spanned : {x : ℕ} {r : Span} → Spans x (take n ks) vs r → Spanned n ks vs x r
  spanned {x} s = rw s.is (span-of x s.place s.placed)
