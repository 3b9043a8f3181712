-- All deliveries over the whole batch, of the lists of demand 3 and, as these have the same effects, of those on a disk that keeps no order.
-- Assumes nothing.
use Prim.Native.Nat.{ℕ, ◌+◌}
use native.Mathlib.Omega.{arith}
use mathlib.Core.Path.{◌≡◌, refl, sym, ap, ◌∙◌}
use mathlib.Core.Bool.{Bool}
use mathlib.Core.List.{List, [], ◌∷◌, ◌++◌}
use Rattle.consumer.specs.Calls.{HandOut}
use Rattle.machine.specs.Calls.{Event}
use Rattle.crash_safety.specs.Runs.{run, fresh_world}
use Rattle.crash_safety.specs.Effects.{Effect, handing, settling, requeuing, renewing, restarting, nothing, effect_of}
use Rattle.crash_safety.specs.Demand3.{handed, counted, hand_outs}
use Rattle.crash_safety.specs.Batch.{offset_of, offsets_handed_out, different_offsets}
use Rattle.crash_safety.specs.InOrder.{told, effects_of, InOrder}
use Rattle.crash_safety.specs.Totals.{is_delivery, taken_after, taken_in, BatchTotal, TotalOnDisk}
use Rattle.crash_safety.proofs.Restarts.{all_made}
use Rattle.crash_safety.proofs.Demand3.{limits}
use Rattle.crash_safety.proofs.Taken.{few-taken, taken-few}
use Rattle.crash_safety.proofs.Batch.{total-bounded}
use Rattle.crash_safety.proofs.InOrder.{in_order}

pub batch-total : BatchTotal
unfolding BatchTotal
batch-total c n s items f e =
    record {
      total = λ p. omega (
        arith,
        rw (all_made c items (fresh_world s n)) at
            (total-bounded c.settings.policy (limits c p f).0 (limits c p f).1 (run c (fresh_world s n) items) (few-taken c n s items f e)),
      );
      taken = taken-few c n s items f e;
    }

-- ## by the effects alone
abbrev hands_in : (HandOut → Bool) → List Effect → ℕ
hands_in named [] = 0
hands_in named (x ∷ xs) = counted named (handed x) + hands_in named xs

abbrev offsets_in : List Effect → List ℕ
offsets_in [] = []
offsets_in (x ∷ xs) = offset_of (handed x) ++ offsets_in xs

abbrev takes_in : ℕ → List Effect → ℕ
takes_in n [] = n
takes_in n (x ∷ xs) = takes_in (taken_after n x) xs

hands-told : (named : HandOut → Bool) (x : Effect) (xs : List Effect) → hands_in named (told x xs) ≡ counted named (handed x) + hands_in named xs
hands-told named (handing o h) xs = refl
hands-told named (settling test) xs = refl
hands-told named (requeuing o) xs = refl
hands-told named renewing xs = refl
hands-told named (restarting a) xs = refl
hands-told named nothing xs = omega arith

offsets-told : (x : Effect) (xs : List Effect) → offsets_in (told x xs) ≡ offset_of (handed x) ++ offsets_in xs
offsets-told (handing o h) xs = refl
offsets-told (settling test) xs = refl
offsets-told (requeuing o) xs = refl
offsets-told renewing xs = refl
offsets-told (restarting a) xs = refl
offsets-told nothing xs = refl

takes_told : (n : ℕ) (x : Effect) (xs : List Effect) → takes_in n (told x xs) ≡ takes_in (taken_after n x) xs
takes_told n (handing o h) xs = refl
takes_told n (settling test) xs = refl
takes_told n (requeuing o) xs = refl
takes_told n renewing xs = refl
takes_told n (restarting a) xs = refl
takes_told n nothing xs = refl

hands-by : (named : HandOut → Bool) (es : List Event) → hand_outs named es ≡ hands_in named (effects_of es)
unfolding hand_outs effects_of
hands-by named [] = refl
hands-by named (e ∷ es) = rw (hands-told named (effect_of e) (effects_of es)) (ap (λ (k : ℕ). counted named (handed (effect_of e)) + k) (hands-by named es))

offsets-by : (es : List Event) → offsets_handed_out es ≡ offsets_in (effects_of es)
unfolding offsets_handed_out effects_of
offsets-by [] = refl
offsets-by (e ∷ es) = rw (offsets-told (effect_of e) (effects_of es)) (ap (λ (l : List ℕ). offset_of (handed (effect_of e)) ++ l) (offsets-by es))

takes-by : (es : List Event) (n : ℕ) → taken_in n es ≡ takes_in n (effects_of es)
unfolding taken_in effects_of
takes-by [] n = refl
takes-by (e ∷ es) n = takes-by es (taken_after n (effect_of e)) ∙ sym (takes_told n (effect_of e) (effects_of es))

-- events with the same effects have the same totals
module _ (es fs : List Event) (same : effects_of es ≡ effects_of fs) where
  same-hands : hand_outs is_delivery es ≡ hand_outs is_delivery fs
  same-hands = hands-by is_delivery es ∙ ap (hands_in is_delivery) same ∙ sym (hands-by is_delivery fs)

  same-offsets : offsets_handed_out es ≡ offsets_handed_out fs
  same-offsets = offsets-by es ∙ ap offsets_in same ∙ sym (offsets-by fs)

  same_taken : taken_in 0 es ≡ taken_in 0 fs
  same_taken = takes-by es 0 ∙ ap (takes_in 0) same ∙ sym (takes-by fs 0)

pub total-on-disk : TotalOnDisk
unfolding TotalOnDisk BatchTotal InOrder different_offsets
total-on-disk c n s items f e =
    let twin = in_order c n s items f e in
    let there = batch-total c n s twin.list f e in
    record {
      total = λ p. rw (same-hands _ _ twin.same, same-offsets _ _ twin.same, ← twin.restarts) (there.total p);
      taken = rw (same_taken _ _ twin.same) there.taken;
    }
