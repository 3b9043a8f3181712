-- What a server is told says what its list's events say: the same hand-outs, the same tokens taken away, and that no restart was refused.
-- Assumes nothing.
use Prim.Native.Nat.{ℕ}
use native.Mathlib.Omega.{arith}
use mathlib.Core.Path.{◌≡◌, refl, ap}
use mathlib.Core.Bool.{Bool, true, false, cond}
use mathlib.Core.List.{List, [], ◌∷◌}
use mathlib.Core.Option.{Option, none, some}
use lib.Dec.{eqb}
use lib.ListN.{length}
use borrow.Author.Tests.{ne_eqb}
use Rattle.types.specs.Refusal.{Refusal, Result, refused, done, numbered}
use Rattle.types.specs.Refusal as refusal
use Rattle.types.proofs.Cases.{split}
use Rattle.types.proofs.Refusal.{number_not_0}
use Rattle.delivery.specs.Policy.{Destination, Deliver, DeadLetter, disposition}
use Rattle.lease.specs.Operations.{next_count}
use Rattle.consumer.specs.State.{Configuration, State}
use Rattle.consumer.specs.Calls as consumer
use Rattle.consumer.specs.Calls.{HandOut}
use Rattle.consumer.proofs.Open.{claim_cases}
use Rattle.checkpoint.specs.Checkpoint as checkpoint
use Rattle.checkpoint.specs.Checkpoint.{Writing, is_last, BlockWritten}
use Rattle.starts.specs.Restart as restarts
use Rattle.machine.specs.Calls.{Ask, claim, ack, term, nack, progress, commit, look, Call, ask, begin, step, restart, Event, claimed, acked, termed, nacked, progressed, committed, looked, begun, stepped, restarted, failed}
use Rattle.machine.specs.Transitions.{Phase, idle, writing, off, After, asked, began_as, restarted_as, transition}
use Rattle.answers.specs.Numbers.{numbers_of, dead_letter, hand_out_values, no_values, one_value, bit_value, wrote_values, values, seen_numbers, numbers_in}
use Rattle.power_cut.specs.Cut.{Cut, old, new, torn, is_torn, cut_at, cut_on}
use Rattle.crash_safety.specs.Runs.{Item, call, step_on, cut, World, next, after, run}
use Rattle.crash_safety.specs.Effects.{Effect, handing, nothing, unless_refused, writes, effect_of}
use Rattle.crash_safety.specs.Book.{Book, note}
use Rattle.crash_safety.specs.Demand3.{handed, hand_outs, RestartsRight, restart_in}
use Rattle.crash_safety.specs.Batch.{offsets_handed_out}
use Rattle.crash_safety.specs.Workers.{refusal_in, refusal_of}
use Rattle.crash_safety.specs.Tokens.{given_up_by, given_up_in, number_of}
use Rattle.crash_safety.proofs.Items.{Shown, next_cases}
use Rattle.served.specs.Told.{Told, told, told_of, accepted, effect_told, handed_by, hand_outs_told, offsets_told, taken_by, given_up_told, AnsweredRestart, RestartsAnswered}
use Rattle.served.specs.Served.{left_by, answers_to}

-- ## the first number
coded : {A : Type 0} (f : A → List ℕ) (r : Result A) → (numbers_of (refusal.answered f r)).0 ≡ number_of (refusal_in r)
coded f (refused r) = refl
coded f (done a) = refl

pub number-seen : (e : Event) → (seen_numbers e).0 ≡ number_of (refusal_of e)
number-seen (claimed o now r) = coded hand_out_values r
number-seen (acked o g r) = coded no_values r
number-seen (termed o g r) = coded no_values r
number-seen (nacked o g now d r) = coded one_value r
number-seen (progressed o g now r) = coded one_value r
number-seen (committed bound r) = coded bit_value r
number-seen (looked q r) = coded values r
number-seen (begun r) = coded one_value r
number-seen (stepped r) = coded wrote_values r
number-seen (restarted r) = coded no_values r
number-seen (failed header) = refl

not_accepted : (r : Refusal) → accepted (numbers_of (numbered r)) ≡ false
not_accepted r = ne_eqb (numbered r).number 0 (number_not_0 r)

-- ## a call on the state does what its answer tells
told_so : {A : Type 0} (f : A → List ℕ) (r : Result A) (x : Effect) → cond (accepted (numbers_of (refusal.answered f r))) x nothing ≡ unless_refused r (λ u. x)
told_so f (refused r) x = rw (not_accepted r)
told_so f (done a) x = refl

nothing-told : (b : Bool) → cond b nothing nothing ≡ nothing
nothing-told true = refl
nothing-told false = refl

-- 0 for a delivery and 1 for a dead letter tell which it was
destined-back : (d : Destination) → cond (eqb (dead_letter d) 0) Deliver DeadLetter ≡ d
destined-back Deliver = refl
destined-back DeadLetter = refl

claim-told : (s : State) (w o now : ℕ)
    → effect_told (claim o now) (numbers_of (refusal.answered hand_out_values (consumer.claim s w o now).outcome)) ≡ effect_of (claimed o now (consumer.claim s w o now).outcome)
claim-told s w o now =
    claim_cases s w o now (λ x. effect_told (claim o now) (numbers_of (refusal.answered hand_out_values x.outcome)) ≡ effect_of (claimed o now x.outcome))
    (λ r. rw (not_accepted r))
    (λ p. ap
    (λ (d : Destination). handing o (record { offset = o; generation = s.table.next_generation; deliveries = next_count s.table o; destination = d }))
    (destined-back (disposition s.settings.policy (next_count s.table o))))

-- what is seen of an item does
abbrev done_by : Option After → Effect
done_by none = nothing
done_by (some t) = effect_of t.event

ask-told : (s : State) (a : List ℕ) (w : ℕ) (q : Ask) → effect_told q (numbers_in (asked s a w q)) ≡ done_by (asked s a w q)
ask-told s a w (claim o now) = claim-told s w o now
ask-told s a w (ack o g) = told_so no_values (consumer.ack s w o g).outcome _
ask-told s a w (term o g) = told_so no_values (consumer.ack s w o g).outcome _
ask-told s a w (nack o g now d) = told_so one_value (consumer.nack s w o g now d).outcome _
ask-told s a w (progress o g now) = nothing-told (accepted (numbers_in (asked s a w (progress o g now))))
ask-told s a w (commit bound) = told_so bit_value (consumer.commit s w bound).outcome _
ask-told s a w (look q) = nothing-told (accepted (numbers_in (asked s a w (look q))))

-- ## every item
-- what is told of a call
record Tells (q : Call) (x : Option After) : Type 0 where
  hands : handed_by q (numbers_in x) ≡ handed (done_by x)
  takes : (o : ℕ) → taken_by o q (numbers_in x) ≡ given_up_by o (done_by x)

-- neither a hand-out nor a token taken away
record Idles (x : Effect) : Type 0 where
  hands : none ≡ handed x
  takes : (o : ℕ) → false ≡ given_up_by o x

idles : Idles nothing
idles = record { hands = refl; takes = λ o. refl }

write-idles : (last : Bool) → Idles (writes last)
write-idles true = record { hands = refl; takes = λ o. refl }
write-idles false = idles

step-idles : (r : Result BlockWritten) → Idles (effect_of (stepped r))
step-idles (refused f) = idles
step-idles (done w) = write-idles w.last

cut-at-idles : (w : Writing) (a : List ℕ) (k : Cut) → Idles (done_by (cut_at w a k))
cut-at-idles w a old = idles
cut-at-idles w a new = write-idles (is_last w)
cut-at-idles w a (torn b) = split (is_torn b) (λ t. rw t idles) (λ t. rw t idles)

cut-idles : (w : Writing) (a : List ℕ) (k : Cut) → Idles (done_by (cut_on w a k))
cut-idles w a k = split (eqb (length a) w.state.size) (λ t. rw t (cut-at-idles w a k)) (λ t. rw t idles)

abbrev ToldOne : Item → Option After → Type 0
ToldOne (call q) x = Tells q x
ToldOne (step_on b) x = Idles (done_by x)
ToldOne (cut k) x = Idles (done_by x)

ask-tells : (s : State) (a : List ℕ) (w : ℕ) (q : Ask) → Tells (ask w q) (asked s a w q)
ask-tells s a w q =
    record { hands = ap handed (ask-told s a w q); takes = λ o. ap (given_up_by o) (ask-told s a w q) }

began-tells : (s : State) (a : List ℕ) (w : ℕ) (r : Result Writing) → Tells (begin w) (began_as s a r)
began-tells s a w (refused r) = record { hands = refl; takes = λ o. refl }
began-tells s a w (done x) = record { hands = refl; takes = λ o. refl }

restart-tells : (p : Phase) (a : List ℕ) (r : Result State) → Tells restart (restarted_as p a r)
restart-tells p a (refused r) = record { hands = refl; takes = λ o. not_accepted r }
restart-tells p a (done s) = record { hands = refl; takes = λ o. refl }

skipped : (i : Item) → restart_in i ≡ 0 → ToldOne i none
skipped (call (ask w q)) e = record { hands = refl; takes = λ o. refl }
skipped (call (begin w)) e = record { hands = refl; takes = λ o. refl }
skipped (call step) e = record { hands = refl; takes = λ o. refl }
skipped (call restart) e = absurd (omega arith)
skipped (step_on b) e = idles
skipped (cut k) e = idles

shown : (p : Phase) (a : List ℕ) → Shown ToldOne a p
shown (idle s) a = (λ w q f. ask-tells s a w q, λ w. began-tells s a w (checkpoint.begin s w))
shown (writing w) a =
    let from : (b : List ℕ) → Idles (effect_of (stepped (checkpoint.step w b).outcome)) = λ b. step-idles (checkpoint.step w b).outcome in
    (record { hands = (from a).hands; takes = (from a).takes }, λ b e. from b, cut-idles w a)
shown off a = tt

item-told : (c : Configuration) (w : World) (i : Item) → ToldOne i (next c w i)
item-told c w i =
    next_cases c ToldOne skipped w.phase w.journal
    (restart-tells w.phase w.journal (restarts.restart c w.journal))
    (shown w.phase w.journal) i

-- ## every list
pub record Same (ts : List Told) (es : List Event) : Type 0 where
  pub hands : (named : HandOut → Bool) → hand_outs_told named ts ≡ hand_outs named es
  pub offsets : offsets_told ts ≡ offsets_handed_out es
  pub takes : (o : ℕ) → given_up_told o ts ≡ given_up_in o es

same_none : Same [] []
unfolding hand_outs_told hand_outs offsets_told offsets_handed_out given_up_told given_up_in
same_none = record { hands = λ named. refl; offsets = refl; takes = λ o. refl }

-- an item in front
abbrev seen_of : Option After → List Event → List Event
seen_of none es = es
seen_of (some t) es = t.event ∷ es

module _ (ts : List Told) (es : List Event) (k : Same ts es) where
  told_more : (q : Call) (x : Option After) → Tells q x → Same (told q (numbers_in x) ∷ ts) (seen_of x es)
  unfolding hand_outs_told hand_outs offsets_told offsets_handed_out given_up_told given_up_in
  told_more q none t =
      record {
        hands = λ named. rw t.hands (omega (arith, k.hands named));
        offsets = rw t.hands k.offsets;
        takes = λ o. rw (t.takes o) (k.takes o);
      }
  told_more q (some x) t =
      record {
        hands = λ named. rw (t.hands, k.hands named);
        offsets = rw (t.hands, k.offsets);
        takes = λ o. rw (t.takes o, k.takes o);
      }

  told_none : (x : Option After) → Idles (done_by x) → Same ts (seen_of x es)
  unfolding hand_outs_told hand_outs offsets_told offsets_handed_out given_up_told given_up_in
  told_none none t = k
  told_none (some x) t =
      record {
        hands = λ named. rw (← t.hands) (omega (arith, k.hands named));
        offsets = rw (← t.hands) k.offsets;
        takes = λ o. rw (← t.takes o) (k.takes o);
      }

run_more : (c : Configuration) (w : World) (i : Item) (is : List Item) → run c w (i ∷ is) ≡ seen_of (next c w i) (run c (left_by w (next c w i)) is)
unfolding run
run_more c w i is = go (next c w i)
  where
    go : (x : Option After) → elim x [ none ↦ run c w is | some t ↦ t.event ∷ run c (after t) is ] ≡ seen_of x (run c (left_by w x) is)
    go none = refl
    go (some t) = refl

pub told_same : (c : Configuration) (is : List Item) (w : World) → Same (told_of is (answers_to c w is)) (run c w is)
unfolding told_of answers_to run
told_same c [] w = same_none
told_same c (call q ∷ is) w =
    let x : Option After = next c w (call q) in
    rw (run_more c w (call q) is) (told_more (told_of is (answers_to c (left_by w x) is)) (run c (left_by w x) is) (told_same c is (left_by w x)) q x (item-told c w (call q)))
told_same c (step_on b ∷ is) w =
    let x : Option After = next c w (step_on b) in
    rw (run_more c w (step_on b) is) (told_none (told_of is (answers_to c (left_by w x) is)) (run c (left_by w x) is) (told_same c is (left_by w x)) x (item-told c w (step_on b)))
told_same c (cut k ∷ is) w =
    let x : Option After = next c w (cut k) in
    rw (run_more c w (cut k) is) (told_none (told_of is (answers_to c (left_by w x) is)) (run c (left_by w x) is) (told_same c is (left_by w x)) x (item-told c w (cut k)))

-- ## restarts
restart-answered : (p : Phase) (a : List ℕ) (r : Result State) (b : Book) (es : List Event) → RestartsRight b (seen_of (restarted_as p a r) es)
    → (numbers_in (restarted_as p a r)).0 ≡ 0
unfolding RestartsRight
restart-answered p a (refused f) b es h = absurd h.0
restart-answered p a (done s) b es h = refl

module _ (c : Configuration) (w : World) (es : List Event) (b : Book) where
  call-answered : (q : Call) → RestartsRight b (seen_of (next c w (call q)) es) → AnsweredRestart q (numbers_in (next c w (call q)))
  unfolding next transition
  call-answered (ask v q) h = tt
  call-answered (begin v) h = tt
  call-answered step h = tt
  call-answered restart h = restart-answered w.phase w.journal (restarts.restart c w.journal) b es h

-- what is right of all is so of the rest
rest-right : (x : Option After) (b : Book) (es : List Event) → RestartsRight b (seen_of x es) → RestartsRight (note b (done_by x)) es
unfolding RestartsRight
rest-right none b es h = h
rest-right (some t) b es h = h.1

pub restarts-answered : (c : Configuration) (is : List Item) (w : World) (b : Book) → RestartsRight b (run c w is) → RestartsAnswered (told_of is (answers_to c w is))
unfolding told_of answers_to RestartsAnswered
restarts-answered c [] w b h = tt
restarts-answered c (call q ∷ is) w b h =
    let x : Option After = next c w (call q) in
    let es : List Event = run c (left_by w x) is in
    let all : RestartsRight b (seen_of x es) = rw (run_more c w (call q) is) at h in
    (call-answered c w es b q all, restarts-answered c is (left_by w x) (note b (done_by x)) (rest-right x b es all))
restarts-answered c (step_on a ∷ is) w b h =
    let x : Option After = next c w (step_on a) in
    restarts-answered c is (left_by w x) (note b (done_by x)) (rest-right x b (run c (left_by w x) is) (rw (run_more c w (step_on a) is) at h))
restarts-answered c (cut k ∷ is) w b h =
    let x : Option After = next c w (cut k) in
    restarts-answered c is (left_by w x) (note b (done_by x)) (rest-right x b (run c (left_by w x) is) (rw (run_more c w (cut k) is) at h))
