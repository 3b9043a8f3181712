-- `reply` meets its contract: each question is answered from the parts that it looks at. Assumes nothing.
use Prim.Native.Nat.{ℕ}
use mathlib.Core.Path.{refl, sym, ap, ◌∙◌}
use mathlib.Core.Bool.{Bool}
use mathlib.Core.List.{[], ◌∷◌}
use lib.ListN.{length}
use borrow.Author.Rules.{rules}
use Rattle.types.specs.Refusal.{done}
use Rattle.lease.specs.Lookup.{lease_values}
use Rattle.lease.proofs.Slots.{in_flight_lem}
use Rattle.consumer.specs.Questions.{bit}
use Rattle.consumer.specs.Standing.{View, view_values}
use Rattle.consumer.specs.declared.queries.Due.{Due}
use Rattle.consumer.proofs.CallsReturns.{table-whole}
use Rattle.machine.specs.Answers.{question_of}
use Rattle.std.proofs.lemmas.Result.{err_from_is_err_and}
use Rattle.machine.proofs.Replies.{lent, replied, waiting-replied, waiting_refused, open_replied, open_refused}
use Rattle.machine.proofs.in_place.reply.Goals as goal

pub returns-in_ok-count-in-Waiting : goal.returns-in_ok-count-in-Waiting
returns-in_ok-count-in-Waiting c x w =
    waiting-replied (lent w) c.args.worker _ c.args.out.now _ (ap (question_of (length c.args.out.now)) c.in-Waiting.is) _ (c.waiting_in_place.ensures (lent w) w) _ c.in_ok-count-in-Waiting.was

pub returns-in_err-count-in-Waiting : goal.returns-in_err-count-in-Waiting
returns-in_err-count-in-Waiting c x w =
    let p = err_from_is_err_and c.from_residual.result c.from_residual.ensures.1 in
    rw (p.1, p.2)
    (waiting_refused (lent w) c.args.worker _ c.args.out.now _ (ap (question_of (length c.args.out.now)) c.in-Waiting.is) _ (c.waiting_in_place.ensures (lent w) w) _ c.in_err-count-in-Waiting.was)

pub returns-in-Committed : goal.returns-in-Committed
returns-in-Committed c x w =
    replied (lent w) c.args.worker c.args.out.now _ (ap (question_of (length c.args.out.now)) c.in-Committed.is) refl refl refl

pub returns-in-IsSettled : goal.returns-in-IsSettled
returns-in-IsSettled c x w =
    replied (lent w) c.args.worker c.args.out.now _ (ap (question_of (length c.args.out.now)) c.in-IsSettled.is) refl (ap (λ (b : Bool). done (bit b ∷ [])) c.is_acked_in_place-settled.ensures) refl

pub returns-in-LeaseOf : goal.returns-in-LeaseOf
returns-in-LeaseOf c x w =
    replied (lent w) c.args.worker c.args.out.now _ (ap (question_of (length c.args.out.now)) c.in-LeaseOf.is) refl
    (ap done (c.told_of.ensures ∙ ap lease_values (c.lease_in_place-lease.ensures (lent w).table (table-whole w)))) refl

pub returns-in-CountOf : goal.returns-in-CountOf
returns-in-CountOf c x w =
    replied (lent w) c.args.worker c.args.out.now _ (ap (question_of (length c.args.out.now)) c.in-CountOf.is) refl (c.count_in_place-count.ensures (lent w) w c.args.worker) refl

pub returns-in-InFlight : goal.returns-in-InFlight
returns-in-InFlight c x w =
    replied (lent w) c.args.worker c.args.out.now _ (ap (question_of (length c.args.out.now)) c.in-InFlight.is) refl (ap (λ (n : ℕ). done (n ∷ [])) (sym (in_flight_lem (lent w).table w.full w.sound.table))) refl

pub returns-in-IsDue : goal.returns-in-IsDue
returns-in-IsDue c x w =
    replied (lent w) c.args.worker c.args.out.now _ (ap (question_of (length c.args.out.now)) c.in-IsDue.is) refl (ap (λ (d : Due). done (bit d.ceiling ∷ bit d.threshold ∷ [])) c.due.ensures) refl

pub returns-in-BlocksLeft : goal.returns-in-BlocksLeft
returns-in-BlocksLeft c x w =
    replied (lent w) c.args.worker c.args.out.now _ (ap (question_of (length c.args.out.now)) c.in-BlocksLeft.is) refl (ap (λ (n : ℕ). done (n ∷ [])) c.blocks_left-left.ensures) refl

pub returns-in-ViewOf : goal.returns-in-ViewOf
returns-in-ViewOf c x w =
    replied (lent w) c.args.worker c.args.out.now _ (ap (question_of (length c.args.out.now)) c.in-ViewOf.is) refl
    (ap (λ (v : View). done (view_values v)) (c.view_in_place-view.ensures (lent w) w)) refl

pub returns-in_ok-count-in-OpenBetween : goal.returns-in_ok-count-in-OpenBetween
returns-in_ok-count-in-OpenBetween c x w =
    open_replied (lent w) c.args.worker _ _ c.args.out.now _ (ap (question_of (length c.args.out.now)) c.in-OpenBetween.is) _ c.open_between_in_place.ensures _ c.in_ok-count-in-OpenBetween.was

pub returns-in_err-count-in-OpenBetween : goal.returns-in_err-count-in-OpenBetween
returns-in_err-count-in-OpenBetween c x w =
    let p = err_from_is_err_and c.from_residual-in_err-count-in-OpenBetween.result c.from_residual-in_err-count-in-OpenBetween.ensures.1 in
    rw (p.1, p.2)
    (open_refused (lent w) c.args.worker _ _ c.args.out.now _ (ap (question_of (length c.args.out.now)) c.in-OpenBetween.is) _ c.open_between_in_place.ensures _ c.in_err-count-in-OpenBetween.was)

pub returns-in-NearestOpen : goal.returns-in-NearestOpen
returns-in-NearestOpen c x w =
    replied (lent w) c.args.worker c.args.out.now _ (ap (question_of (length c.args.out.now)) c.in-NearestOpen.is) refl (ap (λ (n : ℕ). done (n ∷ [])) c.nearest_in_place-nearest.ensures) refl
