-- What an ack and a commit answer, from what the search found and what was done to the columns. Assumes nothing.
use Prim.Native.Nat.{ℕ, ◌≤◌, ◌<◌, min}
use native.Mathlib.Omega.{arith}
use mathlib.Core.Path.{◌≡◌, refl, sym, ap, subst, ◌∙◌}
use mathlib.Core.Bool.{Bool, true, false, ◌||◌, and-false}
use lib.Dec.{leb, eqb}
use lib.ListN.{length}
use borrow.Author.Tests.{eqb-false, le-leb, lt-leb}
use Rattle.types.specs.Limits.{MAX, RANGES}
use Rattle.types.specs.Refusal.{refused, done, Shed}
use Rattle.types.specs.Table.{answer}
use Rattle.types.proofs.Cases.{neither}
use Rattle.cursor.specs.Cursor.{Cursor, Valid, settled, fragments, recorded, ackBounded, committed_to, commit_up_to}
use Rattle.cursor.specs.View.{view, Sound}
use Rattle.cursor.specs.Answers.{Updated}
use Rattle.cursor.specs.Place.{Open, Spotted}
use Rattle.cursor.specs.declared.AckCursor.{AckCursor}
use Rattle.cursor.specs.declared.in_place.Spot.TheVariants.{Settled}
use Rattle.cursor.proofs.Cursor.{recorded-valid, commit-valid}

module _ (c : Cursor) (o limit : ℕ) where
  ack-duplicate : (settled c o || eqb o MAX) ≡ true → ackBounded c o limit ≡ answer (done false) c
  unfolding ackBounded
  ack-duplicate p = rw p

  ack-shed : (settled c o || eqb o MAX) ≡ false → fragments c o limit ≡ true → ackBounded c o limit ≡ answer (refused Shed) c
  unfolding ackBounded
  ack-shed p f = rw (p, f)

  ack-new : (settled c o || eqb o MAX) ≡ false → fragments c o limit ≡ false → ackBounded c o limit ≡ answer (done true) (recorded c o)
  unfolding ackBounded
  ack-new p f = rw (p, f)

-- an offset next to something makes no range; one that is apart makes one where there is room
near_lands : {c : Cursor} {o : ℕ} {after : Cursor} (limit : ℕ) → Open c o true after → fragments c o limit ≡ false
near_lands {c} limit t = rw t.nearby (and-false (leb (min limit RANGES) (length c.ahead)))

-- an offset that is not settled is not the last
pub not_last : {c : Cursor} {o : ℕ} {near : Bool} {after : Cursor} → Open c o near after → o ≤ MAX → o < MAX
not_last {c} {o} t h = omega (arith, eqb-false o MAX (neither (settled c o) (eqb o MAX) t.unsettled).1)

module _ (g : AckCursor) (x limit : ℕ) (ok : Sound g) where
  pub duplicate : Spotted (view g) x Settled → Updated g (done false) g (ackBounded (view g) x limit)
  duplicate p = record { is = sym (ack-duplicate (view g) x limit p); sound = ok; kept = refl }

  pub shed : {after : Cursor} → Open (view g) x false after → min limit RANGES ≤ length (view g).ahead → Updated g (refused Shed) g (ackBounded (view g) x limit)
  shed t h = record { is = sym (ack-shed (view g) x limit t.unsettled (rw (t.nearby, le-leb _ _ h))); sound = ok; kept = refl }

  module _ (m : x ≤ MAX) (h : AckCursor) (n : h.runs ≤ RANGES) where
    landed : {near : Bool} {after : Cursor} → Open (view g) x near after → fragments (view g) x limit ≡ false → view h ≡ after → Updated g (done true) h (ackBounded (view g) x limit)
    landed t f e =
        let s = e ∙ sym t.made in
        let u = neither (settled (view g) x) (eqb x MAX) t.unsettled in
        record {
          is = ap (answer (done true)) s ∙ sym (ack-new (view g) x limit t.unsettled f);
          sound = record { few = n; valid = subst Valid (sym s) (recorded-valid (view g) x ok.valid u.0 limit (not_last t m) f) };
          kept = tt;
        }

    pub landed-near : {after : Cursor} → Open (view g) x true after → view h ≡ after → Updated g (done true) h (ackBounded (view g) x limit)
    landed-near t e = landed t (near_lands limit t) e

    pub landed-apart : {after : Cursor} → Open (view g) x false after → length (view g).ahead < min limit RANGES → view h ≡ after → Updated g (done true) h (ackBounded (view g) x limit)
    landed-apart t r e = landed t (rw (t.nearby, lt-leb _ _ r)) e

module _ (g : AckCursor) (b : ℕ) (ok : Sound g) where
  pub not_advanced : b ≤ g.committed → Updated g (done false) g (commit_up_to (view g) b)
  unfolding commit_up_to
  not_advanced h = record { is = rw (le-leb _ _ h); sound = ok; kept = refl }

  pub moved : b ≤ MAX → g.committed < b → (h : AckCursor) → h.runs ≤ RANGES → view h ≡ committed_to b (view g).ahead → Updated g (done true) h (commit_up_to (view g) b)
  unfolding commit_up_to
  moved m l h n e =
      record {
        is = rw (lt-leb _ _ l) (ap (answer (done true)) e);
        sound = record { few = n; valid = subst Valid (sym e) (rw (lt-leb _ _ l) at (commit-valid (view g) b ok.valid m)) };
        kept = tt;
      }
