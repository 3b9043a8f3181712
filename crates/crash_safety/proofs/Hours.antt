-- In opening hours alone: what a claim's table and a nack's deadline say, in every state that a list leaves, whose hours are the
-- configuration's and were accepted. Assumes nothing.
use Prim.Native.Nat.{ℕ, ◌≤◌}
use native.Mathlib.Omega.{arith}
use mathlib.Core.Path.{◌≡◌, refl, sym, ap, subst, ◌∙◌}
use mathlib.Core.Bool.{true, ◌||◌}
use mathlib.Core.List.{List}
use mathlib.Core.Option.{Option, none, some}
use lib.Dec.{leb, eqb}
use Rattle.types.specs.Limits.{MAX, WORKERS, sat64}
use Rattle.types.specs.Refusal.{Refusal, refused, done, LastOffset, Settled, Closed, InFlight, Exhausted, CheckpointDue, Full, UnknownWorker, NotPermitted, numbered}
use Rattle.types.specs.Table.{first, Passed, answer}
use Rattle.types.proofs.Cases.{split}
use Rattle.types.proofs.Checked.{refused_not_done, done_inj}
use Rattle.types.proofs.Table.{guarded_cases}
use Rattle.cursor.specs.Cursor.{settled}
use Rattle.hours.specs.Hours.{Week, isOpen, next_opening, hours_rows}
use Rattle.hours.proofs.Openings.{accepted-opens, opening-after, opening-least, opening_open, always-opens}
use Rattle.lease.specs.Operations.{lease_of, running}
use Rattle.consumer.specs.State.{Configuration, State}
use Rattle.consumer.specs.Calls.{HandOut, hand_out, at_ceiling, at_threshold, is_full, claim_table, claimed, claim, nack_delay, nack}
use Rattle.consumer.specs.Rights.{claiming, bit_of, permits}
use Rattle.consumer.specs.Valid.{Valid}
use Rattle.consumer.proofs.Open.{claim_cases, nack_cases}
use Rattle.machine.specs.Transitions.{Phase, idle}
use Rattle.crash_safety.specs.Runs.{world, ends, fresh_world}
use Rattle.crash_safety.specs.Hours.{NextOpening, OpensWithin, InHours, InOpeningHours}
use Rattle.crash_safety.proofs.Law.{Ledger}
use Rattle.crash_safety.proofs.Invariant.{Inv}
use Rattle.crash_safety.proofs.Reached.{reached}

-- ## accepted hours
next-opening : (h : Option Week) → Passed (hours_rows h) → (now : ℕ) → now ≤ MAX → NextOpening h now (next_opening h now)
next-opening none p now fits = record { after = omega arith; none_before = λ t l m. absurd (omega arith); is_open = λ l. refl }
next-opening (some w) p now fits =
    record {
      after = opening-after w now fits;
      none_before = opening-least w now;
      is_open = opening_open w now (accepted-opens w p);
    }

opens-within : (h : Option Week) → Passed (hours_rows h) → (now : ℕ) → OpensWithin h now
opens-within none p now = record { clock = now; from = omega arith; within = omega arith; is_open = refl }
opens-within (some w) p now =
    let t = always-opens w now (accepted-opens w p) in
    record { clock = t.0; from = t.1; within = t.2; is_open = t.3 }

-- ## what a claim refused for the hours is told
module _ (s : State) (w o now clock : ℕ) where
  other : (r : Refusal) → ((numbered r).number ≡ 35 → ⊥) → ◌≡◌ {A = Option Refusal} (some r) (some (Closed clock)) → clock ≡ next_opening s.settings.hours now
  other r n q = let same : r ≡ Closed clock = cc in absurd (n (ap (λ (x : Refusal). (numbered x).number) same))

  never : ◌≡◌ {A = Option Refusal} none (some (Closed clock)) → clock ≡ next_opening s.settings.hours now
  never q = absurd (let z : ◌≡◌ {A = ℕ} 0 1 = cc in omega arith)

  closed-clock : first (claim_table s w o now) ≡ some (Closed clock) → clock ≡ next_opening s.settings.hours now
  closed-clock e =
      split (leb WORKERS w)
      (λ t. other UnknownWorker (λ z. omega arith) (rw t at e))
      (λ u₁. split (permits s.settings.rights w (bit_of claiming))
      (λ u₂. split (eqb o MAX)
      (λ t. other LastOffset (λ z. omega arith) (rw (u₁, u₂, t) at e))
      (λ t₁. split (settled s.cursor o)
      (λ t. other Settled (λ z. omega arith) (rw (u₁, u₂, t₁, t) at e))
      (λ t₂. split (isOpen s.settings.hours now)
      (λ h. split (running (lease_of s.table o) now)
      (λ t. other InFlight (λ z. omega arith) (rw (u₁, u₂, t₁, t₂, h, t) at e))
      (λ t₃. split (eqb s.table.next_generation MAX)
      (λ t. other Exhausted (λ z. omega arith) (rw (u₁, u₂, t₁, t₂, h, t₃, t) at e))
      (λ t₄. split (at_ceiling s || at_threshold s)
      (λ t. other CheckpointDue (λ z. omega arith) (rw (u₁, u₂, t₁, t₂, h, t₃, t₄, t) at e))
      (λ t₅. split (is_full s.table o)
      (λ t. other Full (λ z. omega arith) (rw (u₁, u₂, t₁, t₂, h, t₃, t₄, t₅, t) at e))
      (λ t₆. never (rw (u₁, u₂, t₁, t₂, h, t₃, t₄, t₅, t₆) at e))))))
      (λ t. same (rw (u₁, u₂, t₁, t₂, t) at e)))))
      (λ t. other NotPermitted (λ z. omega arith) (rw (u₁, t) at e)))
    where
      same : some (Closed (next_opening s.settings.hours now)) ≡ some (Closed clock) → clock ≡ next_opening s.settings.hours now
      same q = cc

-- ## a state of accepted hours
module _ (s : State) (v : Valid s) where
  abbrev h : Option Week
  h = s.settings.hours

  hands_out : (w o now : ℕ) (x : HandOut) → (claim s w o now).outcome ≡ done x → isOpen h now ≡ true
  hands_out w o now =
      claim_cases s w o now (λ a. (x : HandOut) → a.outcome ≡ done x → isOpen h now ≡ true)
      (λ r x e. refused_not_done e) (λ p x e. p.in-hours)

  told : (w o now clock : ℕ) → now ≤ MAX → (claim s w o now).outcome ≡ refused (Closed clock) → NextOpening h now clock
  unfolding claim
  told w o now clock fits =
      guarded_cases (claim_table s w o now) s (answer (done (hand_out s o)) (claimed s w o now)) (λ a. a.outcome ≡ refused (Closed clock) → NextOpening h now clock)
      (λ r e q.
      let same : r ≡ Closed clock = cc in
      let is : clock ≡ next_opening h now = closed-clock s w o now clock (e ∙ ap some same) in
      rw is (next-opening h v.accepted.hours now fits))
      (λ p q. refused_not_done (sym q))

  comes_back : (w o g now : ℕ) (d : Option ℕ) (deadline : ℕ) → (nack s w o g now d).outcome ≡ done deadline → NextOpening h (sat64 now (nack_delay s o d)) deadline
  comes_back w o g now d =
      nack_cases s w o g now d (λ a. (deadline : ℕ) → a.outcome ≡ done deadline → NextOpening h (sat64 now (nack_delay s o d)) deadline)
      (λ r deadline e. refused_not_done e)
      (λ p deadline e. subst (NextOpening h (sat64 now (nack_delay s o d))) (done_inj e) (next-opening h v.accepted.hours (sat64 now (nack_delay s o d)) (omega arith)))

  in-hours : InHours h s
  in-hours =
      record { hands_out = hands_out; told = told; comes_back = comes_back; capped = λ o d. omega arith; opens = opens-within h v.accepted.hours }

in_hours-after : (c : Configuration) (n : ℕ) (l : Ledger) (q : Phase) (a : List ℕ) (left : State) → q ≡ idle left → Inv c n l (world q a)
    → InHours c.settings.hours left
in_hours-after c n l q a left e =
    rw e
    (λ inv. subst (λ (h : Option Week). InHours h left) (ap (λ x. x.hours) inv.callable.settings) (in-hours left inv.callable.valid))

pub in_opening-hours : InOpeningHours
unfolding InOpeningHours
in_opening-hours c n s items f e left here =
    let r = reached c n s items f e in
    let w = ends c (fresh_world s n) items in
    in_hours-after c n r.ledger w.phase w.journal left here r.inv
