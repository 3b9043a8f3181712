-- Two consumers that are alike to a worker answer one who is no supervisor the same to every question but those that `may_differ` names:
-- what is settled tells all of a valid cursor. Assumes nothing.
use Prim.Native.Nat.{ℕ, suc, ◌≤◌}
use native.Mathlib.Omega.{arith}
use mathlib.Core.Path.{◌≡◌, refl, sym, ap, ◌∙◌}
use mathlib.Core.Bool.{false}
use mathlib.Core.List.{List, [], ◌∷◌}
use mathlib.Core.Option.{Option, none, some, none-ne-some}
use lib.Dec.{eqb, ltb}
use borrow.Author.Tests.{ltb-true, lt-ltb, le-ltb, eqb-true}
use Rattle.types.specs.Limits.{MAX}
use Rattle.types.specs.Refusal.{done}
use Rattle.types.specs.Table.{checked}
use Rattle.types.proofs.Cases.{split}
use Rattle.cursor.specs.Ranges.{Above, inside}
use Rattle.cursor.specs.Cursor.{Cursor, cursor, Valid, settled}
use Rattle.cursor.specs.Unsettled.{Apart, IsNearest, nearest_open}
use Rattle.cursor.specs.declared.Range.{Range}
use Rattle.cursor.proofs.Ranges.{inside-above}
use Rattle.cursor.proofs.Unsettled.{apart-same, nearest_only}
use Rattle.consumer.specs.State.{State}
use Rattle.consumer.specs.Rights.{looking, bit_of, worker_rows}
use Rattle.consumer.specs.Standing.{View, supervises, view_values, Alike}
use Rattle.consumer.specs.Questions.{Question, Waiting, Committed, IsSettled, LeaseOf, CountOf, InFlight, IsDue, BlocksLeft, ViewOf, OpenBetween, NearestOpen, Plan, Export, reply}
use Rattle.consumer.proofs.Standing.{same_view}
use Rattle.cases.specs.Consumer.{five}
use Rattle.cases.specs.Alike.{Reason, ToClaim, ToKeepBooks, ToKnowTheRoom, ToCheckpoint, ToHandOver, AnotherClock, may_differ, AnsweredAlike, BusyAlike}

-- ## what is settled tells all of a valid cursor
-- committed is the nearest unsettled offset from 0 on
committed_nearest : (c d : Cursor) → Valid c → Valid d → ((o : ℕ) → settled c o ≡ settled d o) → c.committed ≡ nearest_open d 0
committed_nearest c d v k e =
    nearest_only d 0 c.committed k
    (record {
      reached = omega arith;
      unsettled = sym (e c.committed) ∙ rw (le-ltb c.committed c.committed (omega arith)) (inside-above c.committed c.committed c.ahead v.above (omega arith));
      least = λ y h below. sym (e y) ∙ rw (lt-ltb y c.committed below);
    })

above_apart : (lo : ℕ) (l : List Range) → Above lo l → Apart (suc lo) MAX l
above_apart lo [] a = tt
above_apart lo (r ∷ rs) a = (omega (arith, a.0), a.1, a.2, above_apart r.end rs a.3)

-- an offset is in a range just if it is settled and not below committed
behind : (o n : ℕ) (l m : List Range) → Above n l → Above n m → settled (cursor n l) o ≡ settled (cursor n m) o → inside o l ≡ inside o m
behind o n l m a b e =
    split (ltb o n)
    (λ t. let h : o ≤ n = omega (arith, ltb-true o n t) in inside-above o n l a h ∙ sym (inside-above o n m b h))
    (λ t. rw t at e)

same-cursor : (c d : Cursor) → Valid c → Valid d → ((o : ℕ) → settled c o ≡ settled d o) → c ≡ d
same-cursor c d v k e =
    let n : c.committed ≡ d.committed = committed_nearest c d v k e ∙ sym (committed_nearest d d k k (λ o. refl)) in
    let a : Above d.committed c.ahead = rw n at v.above in
    let f : (o : ℕ) → settled (cursor d.committed c.ahead) o ≡ settled d o = λ o. ap (λ (x : ℕ). settled (cursor x c.ahead) o) (sym n) ∙ e o in
    let l : c.ahead ≡ d.ahead =
    apart-same (suc d.committed) MAX c.ahead d.ahead (above_apart d.committed c.ahead a) (above_apart d.committed d.ahead k.above)
    (λ o. behind o d.committed c.ahead d.ahead a k.above (f o)) in
    ap (λ (x : ℕ). cursor x c.ahead) n ∙ ap (cursor d.committed) l

-- ## the theorem
impossible : {P : Type 0} (r : Reason) → ◌≡◌ {A = Option Reason} (some r) none → P
impossible r e = absurd (none-ne-some r (sym e))

module _ (now : ℕ) (s t : State) (v : Valid s.cursor) (k : Valid t.cursor) (a : Alike now s t) (w : ℕ) (plain : supervises s.settings.rights w ≡ false) where
  same : s.cursor ≡ t.cursor
  same = same-cursor s.cursor t.cursor v k a.settled

  same-reply : (q : Question) → may_differ now q ≡ none → reply s w q ≡ reply t w q
  same-reply (Waiting at room) e = impossible ToClaim e
  same-reply Committed e = rw same
  same-reply (IsSettled o) e = rw same
  same-reply (LeaseOf o) e = impossible ToKeepBooks e
  same-reply (CountOf o) e = impossible ToKeepBooks e
  same-reply InFlight e = impossible ToKnowTheRoom e
  same-reply IsDue e = impossible ToCheckpoint e
  same-reply BlocksLeft e = impossible ToCheckpoint e
  same-reply (ViewOf o at) e =
      split (eqb at now)
      (λ u. rw (eqb-true at now u) (ap (λ (x : View). done (view_values x)) (same_view now s t a w plain o)))
      (λ u. impossible AnotherClock (rw u at e))
  same-reply (OpenBetween x y room) e = rw same
  same-reply (NearestOpen o) e = rw same
  same-reply (Plan os room) e = rw same
  same-reply (Export x y) e = impossible ToHandOver e

pub answered-alike : AnsweredAlike
answered-alike now s t v k a w plain q e =
    ap (λ (r : List ℕ). checked (worker_rows r w (bit_of looking)) (reply s w q)) a.rights
    ∙ ap (checked (worker_rows t.settings.rights w (bit_of looking))) (same-reply now s t v k a w plain q e)

-- ## its premises are met
pub busy-alike : BusyAlike
busy-alike =
    (valid, valid, record { rights = refl; settled = λ o. refl; held = λ o. split (eqb o 5) (λ t. rw t) (λ t. rw t (split (eqb o 6) (λ u. rw u) (λ u. rw u))) })
  where
    valid : Valid five
    valid = record { fits = omega arith; above = (omega arith, omega arith, omega arith, tt); few = omega arith }
