-- `count_in_place` meets its contract: an offset with a lease has no carried count. Assumes nothing.
-- a consumer with the parts that the arguments are
use Prim.Native.Nat.{ℕ}
use mathlib.Core.Path.{◌≡◌, sym, ap, ◌∙◌}
use mathlib.Core.List.{List, [], ◌∷◌}
use Rattle.types.specs.Refusal.{Result, done}
use Rattle.lease.proofs.Found.{found-count, no-count}
use Rattle.consumer.specs.State.{count_or0}
use Rattle.consumer.specs.Parts.{counting}
use Rattle.consumer.specs.View.{view}
use Rattle.consumer.specs.declared.Consumer.{Consumer}
use Rattle.consumer.proofs.CallsReturns.{table-whole}
use Rattle.consumer.proofs.Asked.{lease-counted, unleased-count, unwrapped}
use Rattle.consumer.proofs.in_place.count_in_place.Goals as goal
use Rattle.consumer.proofs.in_place.count_in_place.Goals.{Start}

abbrev made : Start → Consumer → Consumer
made s =
    counting s.args.len s.args.carried_len s.args.offsets.now s.args.slots.now s.args.deliveries.now s.args.carried_offsets.now s.args.carried_counts.now

answers : {m n : ℕ} → m ≡ n → ◌≡◌ {A = Result (List ℕ)} (done (m ∷ [])) (done (n ∷ []))
answers e = ap (λ (n : ℕ). done (n ∷ [])) e

pub returns-in-Some : goal.returns-in-Some
returns-in-Some c x w _ =
    answers
    (sym (lease-counted (view (made (goal.at.returns-in-Some c).Start x)) w.sound.valid c.args.offset c.in-Some.count
    (found-count _ (c.count_in_place-leased.ensures (made (goal.at.returns-in-Some c).Start x).table (table-whole w)) c.in-Some.is)))

pub returns : goal.returns
returns c x w _ =
    let k = made (goal.at.returns c).Start x in
    answers
    (c.unwrap_or.ensures ∙ unwrapped c.carried_in_place-carried.result ∙ ap count_or0 (c.carried_in_place-carried.ensures k.table (table-whole w))
    ∙ unleased-count (view k) w.sound.valid c.args.offset (no-count _ (c.count_in_place-leased.ensures k.table (table-whole w)) c.in_default.is))
