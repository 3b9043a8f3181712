-- What is read in the columns of a cursor: the sum over the ranges; and the search for an offset, where the place that the
-- starts give, the end before it and the start at it tell where the offset stands. Assumes nothing.
use Prim.Native.Nat.{ℕ, suc, ◌+◌, ◌-◌, ◌≤◌, ◌<◌, max}
use native.Mathlib.Omega.{arith}
use mathlib.Core.Path.{◌≡◌, sym, ◌∙◌}
use mathlib.Core.Bool.{Bool, true, false, ◌&&◌}
use mathlib.Core.List.{List, ◌∷◌}
use lib.Dec.{ltb, eqb}
use lib.ListN.{length, take, drop, get_or}
use lib.Seq.{length-take-le}
use Rattle.types.specs.Limits.{MAX}
use Rattle.types.specs.Zipped.{removed}
use Rattle.types.specs.Sorted.{Ascending, upTo}
use Rattle.types.proofs.Sorted.{below-le}
use Rattle.cursor.specs.Ranges.{Above, offsets}
use Rattle.cursor.specs.Cursor.{settled, committed_to}
use Rattle.cursor.specs.View.{ack_cursor, view, Whole}
use Rattle.cursor.specs.Place.{Spotted}
use Rattle.cursor.specs.declared.AckCursor.{AckCursor}
use Rattle.cursor.specs.declared.in_place.Spot.TheVariants.{Settled, Behind, Between, Before, Apart}
use Rattle.cursor.proofs.Ranges.{nonempty_at, offsets-fit}
use Rattle.cursor.proofs.Place.{place, end_before, next_at, settled_at, spot_settled, spot-behind, spot-between, spot-before, spot-apart, committed-at}
use Rattle.cursor.proofs.View.{count, range-is, ranges-from, ranges-over, ranges-removed, place_is, starts_sorted, end_is, next-is}

module _ (g : AckCursor) (w : Whole g) where
  pub long-starts : g.runs ≤ length g.starts
  long-starts = omega (arith, w.starts, w.sound.few)

  pub long-ends : g.runs ≤ length g.ends
  long-ends = omega (arith, w.ends, w.sound.few)

  above : Above (view g).committed (view g).ahead
  above = w.sound.valid.above

  pub runs-is : length (view g).ahead ≡ g.runs
  runs-is = count g.runs g.starts g.ends long-starts long-ends

  pub starts_rise : Ascending 0 (take g.runs g.starts)
  starts_rise = starts_sorted g.runs g.starts g.ends long-starts long-ends g.committed above

  -- the sum over the ranges, one range on
  module _ (i : ℕ) (h : i < g.runs) where
    pub range_nonempty : get_or g.starts i 0 < get_or g.ends i 0
    range_nonempty =
        let k : i < length (view g).ahead = rw runs-is h in
        rw (range-is g.runs g.starts g.ends long-starts long-ends i h) at (nonempty_at i g.committed (view g).ahead above k)

    pub sum-next : offsets (drop i (view g).ahead) ≡ (get_or g.ends i 0 - get_or g.starts i 0) + offsets (drop (i + 1) (view g).ahead)
    sum-next = rw (ranges-from g.runs g.starts g.ends long-starts long-ends i h)

  pub sum_over : (i : ℕ) → g.runs ≤ i → offsets (drop i (view g).ahead) ≡ 0
  sum_over i h = rw (ranges-over g.runs g.starts g.ends long-starts long-ends i h)

  pub sum_fits : offsets (view g).ahead ≤ MAX
  sum_fits = omega (arith, offsets-fit g.committed (view g).ahead above w.sound.valid.fits)

  module _ (x i : ℕ) (p : i ≡ upTo x (take g.runs g.starts)) where
    pub place-within : i ≤ g.runs
    place-within = omega (arith, below-le (suc x) (take g.runs g.starts), length-take-le g.runs g.starts long-starts)

    pub placed-there : i ≡ place x (view g).ahead
    placed-there = p ∙ sym (place_is g.runs g.starts g.ends long-starts long-ends x)

    module _ (end : ℕ) (q : end ≡ get_or (g.committed ∷ g.ends) i 0) where
      pub end-there : end ≡ end_before g.committed i (view g).ahead
      end-there = q ∙ end_is g.runs g.starts g.ends long-starts long-ends g.committed i place-within

      pub found-acked : ltb x end ≡ settled (view g) x
      found-acked = rw (end-there, placed-there) (sym (settled_at x g.committed (view g).ahead above))

      pub found-settled : x < end → Spotted (view g) x Settled
      found-settled h = spot_settled (view g) x i above placed-there (rw end-there at h)

      -- the columns without the places before it, and committed moved
      pub found-committed : g.committed ≤ x → (n : ℕ) (s e : List ℕ) → n ≡ max x end
          → take (g.runs - (i - 0)) s ≡ removed 0 i (take g.runs g.starts) → take (g.runs - (i - 0)) e ≡ removed 0 i (take g.runs g.ends)
          → view (ack_cursor n s e (g.runs - i)) ≡ committed_to x (view g).ahead
      found-committed h n s e m p' q' =
          let k : g.runs - (i - 0) ≡ g.runs - i = omega arith in
          rw (m, ranges-removed g.runs g.starts g.ends long-starts long-ends 0 i (g.runs - i) s e (rw k at p') (rw k at q'), end-there, placed-there)
          (sym (committed-at x g.committed (view g).ahead above h))

-- what the search for an offset that is not settled saw: its place, the end before it, whether a range starts there
pub record Looked (g : AckCursor) (x i end : ℕ) (next : Bool) : Type 0 where
  pub place : i ≡ upTo x (take g.runs g.starts)
  pub before : end ≡ get_or (g.committed ∷ g.ends) i 0
  pub behind : next ≡ (ltb i g.runs && eqb (get_or g.starts i 0) (x + 1))
  pub unsettled : end ≤ x
  pub last : x ≡ MAX → ⊥

module _ (g : AckCursor) (w : Whole g) {x i end : ℕ} {next : Bool} (l : Looked g x i end next) where
  there : i ≡ place x (view g).ahead
  there = placed-there g w x i l.place

  ended : end ≡ end_before g.committed i (view g).ahead
  ended = end-there g w x i l.place end l.before

  not_below : end_before g.committed i (view g).ahead ≤ x
  not_below = rw ended at l.unsettled

  nexts : next ≡ next_at x i (view g).ahead
  nexts = l.behind ∙ next-is g.runs g.starts g.ends (long-starts g w) (long-ends g w) x i

  pub found-behind : end ≡ x → next ≡ false → Spotted (view g) x (Behind i)
  found-behind a b = spot-behind (view g) x i (above g w) there l.last not_below (rw ended at a) (rw nexts at b)

  pub found_between : end ≡ x → next ≡ true → Spotted (view g) x (Between i)
  found_between a b = spot-between (view g) x i (above g w) there l.last not_below (rw ended at a) (rw nexts at b)

  pub found_before : (end ≡ x → ⊥) → next ≡ true → Spotted (view g) x (Before i)
  found_before a b = spot-before (view g) x i (above g w) there l.last not_below (rw ended at a) (rw nexts at b)

  pub found-apart : (end ≡ x → ⊥) → next ≡ false → Spotted (view g) x (Apart i)
  found-apart a b = spot-apart (view g) x i (above g w) there l.last not_below (rw ended at a) (rw nexts at b)
