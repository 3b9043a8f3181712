-- The group numbers: each header wholly written uses up one, and nothing else does; so begin is refused 31 only after as many headers
-- as there are numbers. Assumes nothing.
use Prim.Native.Nat.{ℕ, suc, ◌+◌, ◌≤◌, ◌<◌}
use native.Mathlib.Omega.{arith}
use mathlib.Core.Path.{◌≡◌, refl, sym, ap, subst, ◌∙◌}
use mathlib.Core.Bool.{Bool, true, false, cond}
use mathlib.Core.List.{List, [], ◌∷◌}
use mathlib.Core.Option.{Option, none, some, none-ne-some}
use lib.Dec.{eqb, ltb, leb}
use lib.ListN.{length, replicate}
use borrow.Author.Tests.{eqb-false, eq-eqb, ne_eqb, ltb-true}
use Rattle.types.specs.Limits.{MAX32, WORKERS}
use Rattle.types.specs.Refusal.{Refusal, Result, refused, done, JournalFull, UnknownWorker, NotPermitted, numbered}
use Rattle.types.specs.Table.{Passed}
use Rattle.types.proofs.Cases.{split}
use Rattle.types.proofs.Checked.{done_inj}
use Rattle.consumer.specs.State.{Configuration, State}
use Rattle.consumer.specs.Rights.{permits}
use Rattle.consumer.specs.Calls as consumer
use Rattle.checkpoint.specs.Checkpoint as checkpoint
use Rattle.checkpoint.specs.Checkpoint.{Writing, is_last, next_place, next_block}
use Rattle.starts.specs.Restart.{start_table, fresh, start, restart}
use Rattle.starts.proofs.Open.{start-says}
use Rattle.starts.proofs.Zeros.{start-restart}
use Rattle.machine.specs.Calls.{Ask, claim, ack, term, nack, progress, commit, look, Event, claimed, acked, termed, nacked, progressed, committed, looked, begun, stepped, restarted, failed}
use Rattle.machine.specs.Transitions.{Phase, idle, writing, off, After, gives, left_as, asked, began_as, stepped_as, restarted_as}
use Rattle.power_cut.specs.Cut.{Cut, old, new, torn, is_torn, cut_at, cut_on}
use Rattle.journal.specs.Area.{write_at}
use Rattle.crash_safety.specs.Effects.{effect_of}
use Rattle.crash_safety.specs.Runs.{Item, World, world, keeps_journal, next, run, ends, fresh_world}
use Rattle.crash_safety.specs.Settled.{state_in}
use Rattle.crash_safety.specs.Halves.{headers, headers_in, NoneFull, NumbersUsed, NeverFull}
use Rattle.crash_safety.proofs.Law.{Ledger, empty_ledger, noted, Law, Along, folded}
use Rattle.crash_safety.proofs.Runs.{Made, Answered, along, at-end, fold_both, SaysBoth, KeepsBoth, Second, beside}
use Rattle.crash_safety.proofs.Items.{Shown, next_cases}
use Rattle.crash_safety.proofs.Invariant.{Saved, restored, Journal, is-ready, Inv}
use Rattle.crash_safety.proofs.Journals.{restart-finds, stored}
use Rattle.crash_safety.proofs.Writes.{more-journal, header-journal, torn-journal}
use Rattle.crash_safety.proofs.Kept.{item-kept}
use Rattle.crash_safety.proofs.Start.{begins_well}

-- ## headers before an event
abbrev counted : ℕ → Event → ℕ
counted h e = h + headers (effect_of e)

-- a begin after h headers is refused 31 only where they have used up the numbers
abbrev BeginRight : ℕ → Result ℕ → Type 0
BeginRight h (refused r) = r ≡ JournalFull → MAX32 ≤ h
BeginRight h (done n) = Unit {0}

abbrev OfBegin : ℕ → Event → Type 0
OfBegin h (claimed o now a) = Unit {0}
OfBegin h (acked o g a) = Unit {0}
OfBegin h (termed o g a) = Unit {0}
OfBegin h (nacked o g now d a) = Unit {0}
OfBegin h (progressed o g now a) = Unit {0}
OfBegin h (committed bound a) = Unit {0}
OfBegin h (looked q a) = Unit {0}
OfBegin h (begun a) = BeginRight h a
OfBegin h (stepped a) = Unit {0}
OfBegin h (restarted a) = Unit {0}
OfBegin h (failed header) = Unit {0}

-- 38 and 39 are not 31
number_31 : (r : Refusal) → r ≡ JournalFull → (numbered r).number ≡ 31
number_31 r e = ap (λ q. (numbered q).number) e

not_unknown : UnknownWorker ≡ JournalFull → ⊥
not_unknown e = let same : ◌≡◌ {A = ℕ} 38 31 = number_31 UnknownWorker e in omega arith

not_denied : NotPermitted ≡ JournalFull → ⊥
not_denied e = let same : ◌≡◌ {A = ℕ} 39 31 = number_31 NotPermitted e in omega arith

-- an answer to another call than a step writes no header
module _ {A : Type 0} (event : Result A → Event) (when-refused : (r : Refusal) → headers (effect_of (event (refused r))) ≡ 0)
    (when-done : (x : A) → headers (effect_of (event (done x))) ≡ 0) where
  no_header : (a : Result A) → headers (effect_of (event a)) ≡ 0
  no_header (refused r) = when-refused r
  no_header (done x) = when-done x

module _ (c : Configuration) (n : ℕ) (accepted : Passed (start_table c n)) where
  -- the number that a restart would expect next
  abbrev Numbers : Ledger → ℕ → World → Type 0
  Numbers l h w = (r : State) → restart c w.journal ≡ done r → r.next.number ≡ suc h

  module _ (l : Ledger) (h : ℕ) where
    abbrev Next : Option After → Type 0
    Next = Second noted counted OfBegin Numbers (l, h)

    -- what the journal holds says it
    by-journal : (a : List ℕ) (v : Saved) → Journal c n a v → (m : ℕ) → v.next.number ≡ suc m → (r : State) → restart c a ≡ done r
        → r.next.number ≡ suc m
    by-journal a v j m e r q =
        let same : restored c n v ≡ r = done_inj (sym (restart-finds c n a v accepted j) ∙ q) in
        sym (ap (λ (x : State). x.next.number) same) ∙ e

    module _ (a : List ℕ) (p : Phase) (inv : Inv c n l (world p a)) (k : Numbers l h (world p a)) where
      saved-number : inv.saved.next.number ≡ suc h
      saved-number = k (restored c n inv.saved) (restart-finds c n a inv.saved accepted inv.journal)

      -- nothing is written of a header
      held : (e : Event) (q : Phase) (a' : List ℕ) → OfBegin h e → headers (effect_of e) ≡ 0 → Journal c n a' inv.saved → Next (gives e q a')
      held e q a' b z j = record { says = b; keeps = λ r x. by-journal a' inv.saved j (h + headers (effect_of e)) (omega (arith, saved-number)) r x }

      still : (e : Event) (q : Phase) → OfBegin h e → headers (effect_of e) ≡ 0 → Next (gives e q a)
      still e q b z = held e q a b z inv.journal

      restart-numbers : Next (restarted_as p a (restart c a))
      restart-numbers = rw (restart-finds c n a inv.saved accepted inv.journal) (still (restarted (done (restored c n inv.saved))) (idle (restored c n inv.saved)) tt refl)

    -- ## calls on the state
    module _ (s : State) (a : List ℕ) (inv : Inv c n l (world (idle s) a)) (k : Numbers l h (world (idle s) a)) where
      ask-numbers : (w : ℕ) (q : Ask) → Next (asked s a w q)
      ask-numbers w (claim o now) = still a (idle s) inv k _ _ tt (no_header (claimed o now) (λ r. refl) (λ x. refl) (consumer.claim s w o now).outcome)
      ask-numbers w (ack o g) = still a (idle s) inv k _ _ tt (no_header (acked o g) (λ r. refl) (λ x. refl) (consumer.ack s w o g).outcome)
      ask-numbers w (term o g) = still a (idle s) inv k _ _ tt (no_header (termed o g) (λ r. refl) (λ x. refl) (consumer.ack s w o g).outcome)
      ask-numbers w (nack o g now d) = still a (idle s) inv k _ _ tt (no_header (nacked o g now d) (λ r. refl) (λ x. refl) (consumer.nack s w o g now d).outcome)
      ask-numbers w (progress o g now) = still a (idle s) inv k _ _ tt refl
      ask-numbers w (commit bound) = still a (idle s) inv k _ _ tt (no_header (committed bound) (λ r. refl) (λ x. refl) (consumer.commit s w bound).outcome)
      ask-numbers w (look q) = still a (idle s) inv k _ _ tt refl

      -- a begin is refused 31 where the number is above all that there are
      begin-numbers : (w : ℕ) → Next (began_as s a (checkpoint.begin s w))
      unfolding checkpoint.begin
      begin-numbers w =
          let number : s.next.number ≡ suc h = ap (λ x. x.number) inv.callable.next ∙ saved-number a (idle s) inv k in
          split (leb WORKERS w) (λ t. rw t (still a (idle s) inv k (begun (refused UnknownWorker)) (idle s) (λ q. absurd (not_unknown q)) refl)) (λ u.
          split (permits s.settings.rights w 32)
          (λ p. split (ltb MAX32 s.next.number)
          (λ t. rw (u, p, t) (still a (idle s) inv k (begun (refused JournalFull)) (idle s) (λ q. omega (arith, ltb-true MAX32 s.next.number t)) refl))
          (λ t. rw (u, p, t) (still a (idle s) inv k (begun (done (checkpoint.writes s))) (writing (checkpoint.writing s 0)) tt refl)))
          (λ p. rw (u, p) (still a (idle s) inv k (begun (refused NotPermitted)) (idle s) (λ q. absurd (not_denied q)) refl)))

    -- ## steps
    module _ (w : Writing) (a : List ℕ) (inv : Inv c n l (world (writing w) a)) (k : Numbers l h (world (writing w) a)) where
      abbrev longer : List ℕ
      longer = write_at a (next_place w) (next_block w)

      -- the next block wholly written, by a step or by a failure that left it new
      written : (e : Bool → Event) (q : Bool → Phase) → OfBegin h (e true) → OfBegin h (e false) → headers (effect_of (e true)) ≡ 1
          → headers (effect_of (e false)) ≡ 0 → (last : Bool) → is_last w ≡ last → Next (gives (e last) (q last) longer)
      written e q b₁ b₂ one zero true t =
          let number : w.state.next.number ≡ suc h = ap (λ x. x.number) inv.callable.0.next ∙ saved-number a (writing w) inv k in
          let full = header-journal c n inv.saved a w inv.journal (is-ready inv.callable.0) inv.callable.1 t in
          record { says = b₁; keeps = λ r x. by-journal longer (stored w.state) full (h + headers (effect_of (e true))) (omega (arith, number)) r x }
      written e q b₁ b₂ one zero false t =
          held a (writing w) inv k (e false) (q false) longer b₂ zero
          (more-journal c n inv.saved a w inv.journal (is-ready inv.callable.0) inv.callable.1 t)

      same_length : eqb (length a) w.state.size ≡ true
      same_length = eq-eqb (length a) w.state.size (inv.journal.size ∙ sym inv.callable.0.size)

      step-numbers : Next (stepped_as (checkpoint.step w a))
      unfolding checkpoint.step
      step-numbers =
          rw same_length
          (written (λ last. stepped (done (record { block = next_place w; last = last })))
          (λ last. left_as (cond last (checkpoint.finished (checkpoint.flushed w.state)) (checkpoint.going (checkpoint.writing w.state (suc w.written)))))
          tt tt refl refl (is_last w) refl)

      -- other memory is refused
      elsewhere-numbers : (b : List ℕ) → eqb (length b) (length a) ≡ false → Next (keeps_journal a (stepped_as (checkpoint.step w b)))
      unfolding checkpoint.step
      elsewhere-numbers b e =
          rw (ne_eqb (length b) w.state.size (λ q. eqb-false (length b) (length a) e (q ∙ inv.callable.0.size ∙ sym inv.journal.size)))
          (still a (writing w) inv k _ _ tt refl)

      cut-numbers : (x : Cut) → Next (cut_on w a x)
      cut-numbers x = rw same_length (go x)
        where
          go : (x : Cut) → Next (cut_at w a x)
          go old = still a (writing w) inv k (failed false) off tt refl
          go new = written failed (λ last. off) tt tt refl refl (is_last w) refl
          go (torn b) =
              split (is_torn b)
              (λ t. rw t (held a (writing w) inv k (failed false) off (write_at a (next_place w) b) tt refl
              (torn-journal c n inv.saved a w inv.journal (is-ready inv.callable.0) inv.callable.1 b t)))
              (λ t. rw t tt)

    -- ## each item
    shown : (p : Phase) (a : List ℕ) → Inv c n l (world p a) → Numbers l h (world p a) → Shown (λ i. Next) a p
    shown (idle s) a inv k = (λ w q e. ask-numbers s a inv k w q, begin-numbers s a inv k)
    shown (writing w) a inv k = (step-numbers w a inv k, elsewhere-numbers w a inv k, cut-numbers w a inv k)
    shown off a inv k = tt

    item-numbers : (w : World) (i : Item) → Inv c n l w → Numbers l h w → Next (next c w i)
    item-numbers w i inv k =
        next_cases c (λ j. Next) (λ j e. tt) w.phase w.journal
        (restart-numbers w.journal w.phase inv k)
        (shown w.phase w.journal inv k) i

  -- ## every list
  abbrev fold : Ledger × ℕ → Event → Ledger × ℕ
  fold = fold_both noted counted

  abbrev Says : Ledger × ℕ → Event → Type 0
  Says = SaysBoth (Law c.settings.policy) OfBegin

  abbrev Keeps : Ledger × ℕ → World → Type 0
  Keeps = KeepsBoth (Inv c n) Numbers

  each : (b : Ledger × ℕ) (w : World) (i : Item) → Keeps b w → Answered fold Says Keeps b (next c w i)
  each b w i k =
      beside noted counted (Law c.settings.policy) OfBegin (Inv c n) Numbers b (next c w i)
      (item-kept c n accepted b.0 w i k.0)
      (item-numbers b.0 b.1 w i k.0 k.1)

  begins-right : (items : List Item) (w : World) → Keeps (empty_ledger, 0) w → Along fold Says (empty_ledger, 0) (run c w items)
  begins-right items w k = along fold Says Keeps c each items (empty_ledger, 0) w k

  at_the_end : (items : List Item) (w : World) → Keeps (empty_ledger, 0) w → Keeps (folded fold (empty_ledger, 0) (run c w items)) (ends c w items)
  at_the_end items w k = at-end fold Says Keeps c each items (empty_ledger, 0) w k

  folded-headers : (es : List Event) (l : Ledger) (h : ℕ) → (folded fold (l, h) es).1 ≡ h + headers_in es
  unfolding folded headers_in
  folded-headers [] l h = omega arith
  folded-headers (e ∷ es) l h = folded-headers es (noted l e) (counted h e) ∙ omega arith

  not_full : (h : ℕ) (e : Event) → OfBegin h e → h < MAX32 → e ≡ begun (refused JournalFull) → ⊥
  not_full h e b few q =
      let full : JournalFull ≡ JournalFull → MAX32 ≤ h = subst (OfBegin h) q b in
      omega (arith, full refl)

  none_full : (es : List Event) (l : Ledger) (h : ℕ) → Along fold Says (l, h) es → h + headers_in es < MAX32 → NoneFull es
  unfolding Along NoneFull headers_in
  none_full [] l h k few = tt
  none_full (e ∷ es) l h k few =
      (not_full h e k.0.1 (omega arith), none_full es (noted l e) (counted h e) k.1 (omega arith))

-- the number of the state that is left is the journal's
left-number : (c : Configuration) (n : ℕ) (l : Ledger) (p : Phase) (a : List ℕ) (s : State) (inv : Inv c n l (world p a)) → state_in p ≡ some s
    → s.next.number ≡ inv.saved.next.number
left-number c n l (idle x) a s inv e = let q : x ≡ s = cc in rw (← q) (ap (λ y. y.number) inv.callable.next)
left-number c n l (writing w) a s inv e = let q : w.state ≡ s = cc in rw (← q) (ap (λ y. y.number) inv.callable.0.next)
left-number c n l off a s inv e = absurd (none-ne-some s e)

-- a fresh consumer's first number is 1
first-number : (c : Configuration) (n : ℕ) (s : State) → start c n ≡ done s → (r : State) → restart c (replicate n 0) ≡ done r
    → r.next.number ≡ 1
first-number c n s e r q =
    let same : s ≡ r = done_inj (sym e ∙ start-restart c n ∙ q) in
    let is : fresh c n ≡ s = (start-says c n s e).1 in
    ap (λ (x : State). x.next.number) (sym (is ∙ same))

pub numbers-used : NumbersUsed
unfolding NumbersUsed
numbers-used c n s items f e left here =
    let b = begins_well c n s f e in
    let w = fresh_world s n in
    let u = ends c w items in
    let g = folded (fold c n b.accepted) (empty_ledger, 0) (run c w items) in
    let k = at_the_end c n b.accepted items w (b.inv, first-number c n s e) in
    left-number c n g.0 u.phase u.journal left k.0 here
    ∙ saved-number c n b.accepted g.0 g.1 u.journal u.phase k.0 k.1
    ∙ ap suc (folded-headers c n b.accepted (run c w items) empty_ledger 0 ∙ omega arith)

pub never-full : NeverFull
unfolding NeverFull
never-full c n s items f e few =
    let b = begins_well c n s f e in
    none_full c n b.accepted (run c (fresh_world s n) items) empty_ledger 0
    (begins-right c n b.accepted items (fresh_world s n) (b.inv, first-number c n s e)) (omega arith)
