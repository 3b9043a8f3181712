-- The ceiling never falls. A checkpoint writes one that is 4,096 above the next generation, and the one before it is at most that; nothing else writes
-- one. On the disk it follows from the list in order. Assumes nothing.
use Prim.Native.Nat.{ℕ, suc, ◌+◌, ◌≤◌}
use native.Mathlib.Omega.{arith}
use mathlib.Core.Path.{◌≡◌, refl, sym, ap, ◌∙◌}
use mathlib.Core.Bool.{Bool, true, false, cond}
use mathlib.Core.List.{List, [], ◌∷◌}
use mathlib.Core.Option.{Option, none, some, none-ne-some}
use lib.Dec.{eqb}
use lib.ListN.{length}
use borrow.Author.Tests.{ne_eqb, eqb-false}
use Rattle.types.specs.Refusal.{Result, refused, done}
use Rattle.types.specs.Table.{Answer, Passed}
use Rattle.types.proofs.Cases.{split}
use Rattle.types.proofs.Checked.{done_inj}
use Rattle.journal.specs.Area.{write_at}
use Rattle.consumer.specs.State.{Configuration, State}
use Rattle.consumer.proofs.Open.{claim_cases, ack_cases, nack_cases, progress_cases, commit_cases}
use Rattle.checkpoint.specs.Checkpoint as checkpoint
use Rattle.checkpoint.specs.Checkpoint.{Writing, is_last, next_place, next_block}
use Rattle.checkpoint.proofs.Open.{begin-says}
use Rattle.starts.specs.Restart.{start_table, restart}
use Rattle.machine.specs.Calls.{Ask, claim, ack, term, nack, progress, commit, look, ask, begin, step, Event}
use Rattle.machine.specs.Calls as calls
use Rattle.machine.specs.Transitions.{Phase, idle, writing, off, After, left_as, asked, began_as, stepped_as, restarted_as, transition}
use Rattle.power_cut.specs.Cut.{Cut, old, new, torn, is_torn, cut_at, cut_on}
use Rattle.crash_safety.specs.Effects.{Effect, handing, settling, requeuing, renewing, restarting, nothing, effect_of}
use Rattle.crash_safety.specs.Runs.{Item, call, step_on, cut, World, world, keeps_journal, next, run, ends}
use Rattle.crash_safety.specs.Demand3.{is_restart}
use Rattle.crash_safety.specs.Settled.{state_in}
use Rattle.crash_safety.specs.Disk.{Write, disk, has_header}
use Rattle.crash_safety.specs.Unordered.{on_disk, run_on, ends_on}
use Rattle.crash_safety.specs.InOrder.{told, effects_of}
use Rattle.crash_safety.specs.Ceilings.{CeilingAtLeast, CeilingsAtLeast, NoLower, CeilingNeverFalls, CeilingOnDisk}
use Rattle.crash_safety.proofs.Law.{Ledger, noted, Law, Along, folded}
use Rattle.crash_safety.proofs.Runs.{Answered, along, at-end, fold_both, SaysBoth, KeepsBoth, Second, beside}
use Rattle.crash_safety.proofs.Items.{Shown, next_cases}
use Rattle.crash_safety.proofs.Restarts.{made, next-made}
use Rattle.crash_safety.proofs.Invariant.{Saved, restored, Journal, is-ready, Inv}
use Rattle.crash_safety.proofs.Journals.{restart-finds, stored}
use Rattle.crash_safety.proofs.Writes.{more-journal, header-journal, torn-journal}
use Rattle.crash_safety.proofs.Steps.{same_length}
use Rattle.crash_safety.proofs.Kept.{item-kept}
use Rattle.crash_safety.proofs.OnDisk.{at-end-on}
use Rattle.crash_safety.proofs.Unordered.{Standing, InvOn, kept_on, header-waits}
use Rattle.crash_safety.proofs.From.{ledger_of, begins-from}
use Rattle.crash_safety.proofs.InOrder.{Match, all}

-- ## what is kept beside the invariant
-- the ceiling is at most what the next checkpoint would write
abbrev Reaches : State → Type 0
Reaches s = s.ceiling ≤ s.table.next_generation + 4096

abbrev Reach : Phase → Type 0
Reach (idle s) = Reaches s
Reach (writing w) = Reaches w.state
Reach off = Unit {0}

abbrev same : ℕ → Event → ℕ
same g e = g

abbrev Says : ℕ → Event → Type 0
Says g e = CeilingAtLeast g (effect_of e)

-- an event of no restart says nothing
unsaid : (g : ℕ) (x : Effect) → is_restart x ≡ 0 → CeilingAtLeast g x
unsaid g (handing o h) z = tt
unsaid g (settling named) z = tt
unsaid g (requeuing o) z = tt
unsaid g renewing z = tt
unsaid g (restarting a) z = absurd (omega arith)
unsaid g nothing z = tt

module _ (c : Configuration) (n : ℕ) (accepted : Passed (start_table c n)) where
  -- a restart would answer no ceiling below g
  abbrev Low : ℕ → List ℕ → Type 0
  Low g a = (r : State) → restart c a ≡ done r → g ≤ r.ceiling

  abbrev Lasts : Ledger → ℕ → World → Type 0
  Lasts l g w = Low g w.journal × Reach w.phase

  by-journal : (g : ℕ) (a : List ℕ) (v : Saved) → Journal c n a v → g ≤ v.ceiling → Low g a
  by-journal g a v j m r e =
      let is : restored c n v ≡ r = done_inj (sym (restart-finds c n a v accepted j) ∙ e) in
      omega (arith, m, ap (λ (x : State). x.ceiling) is)

  module _ (l : Ledger) (g : ℕ) where
    -- what an item leaves
    abbrev Left : Option After → Type 0
    Left none = Unit {0}
    Left (some t) = Low g t.area × Reach t.phase

    module _ (a : List ℕ) (p : Phase) (inv : Inv c n l (world p a)) (low : Low g a) where
      saved_low : g ≤ inv.saved.ceiling
      saved_low = low (restored c n inv.saved) (restart-finds c n a inv.saved accepted inv.journal)

    module _ (s : State) (a : List ℕ) (low : Low g a) (k : Reaches s) where
      abbrev Kept : {A : Type 0} → Answer A State → Type 0
      Kept r = Low g a × Reaches r.state

      asks : (w : ℕ) (q : Ask) → Left (asked s a w q)
      asks w (claim o now) = claim_cases s w o now Kept (λ r. (low, k)) (λ p. (low, omega arith))
      asks w (ack o x) = ack_cases s w o x Kept (λ r. (low, k)) (λ p. (low, k))
      asks w (term o x) = ack_cases s w o x Kept (λ r. (low, k)) (λ p. (low, k))
      asks w (nack o x now d) = nack_cases s w o x now d Kept (λ r. (low, k)) (λ p. (low, omega arith))
      asks w (progress o x now) = progress_cases s w o x now Kept (λ r. (low, k)) (λ p. (low, k))
      asks w (commit bound) = commit_cases s w bound Kept (λ r. (low, k)) (λ f h. (low, k)) (λ p. (low, k))
      asks w (look x) = (low, k)

      begins : (w : ℕ) → Left (began_as s a (checkpoint.begin s w))
      begins w = go (checkpoint.begin s w) refl
        where
          go : (r : Result Writing) → checkpoint.begin s w ≡ r → Left (began_as s a r)
          go (refused f) e = (low, k)
          go (done r) e = (low, rw (← (begin-says s w r e).1) k)

    -- the next block wholly written, by a step or by a failure that left it new
    module _ (w : Writing) (a : List ℕ) (inv : Inv c n l (world (writing w) a)) (low : Low g a) (k : Reaches w.state) where
      abbrev s : State
      s = w.state

      abbrev longer : List ℕ
      longer = write_at a (next_place w) (next_block w)

      low-now : g ≤ inv.saved.ceiling
      low-now = saved_low a (writing w) inv low

      written_low : (last : Bool) → is_last w ≡ last → Low g longer
      written_low true t =
          let now = inv.callable.0 in
          by-journal g longer (stored s) (header-journal c n inv.saved a w inv.journal (is-ready now) inv.callable.1 t)
          (omega (arith, low-now, now.ceiling, k, now.valid.ceiling-fits))
      written_low false t =
          by-journal g longer inv.saved (more-journal c n inv.saved a w inv.journal (is-ready inv.callable.0) inv.callable.1 t) low-now

      left_reaches : (last : Bool) → Reach (left_as (cond last (checkpoint.finished (checkpoint.flushed s)) (checkpoint.going (checkpoint.writing s (suc w.written)))))
      left_reaches true = omega arith
      left_reaches false = k

      steps : Left (stepped_as (checkpoint.step w a))
      unfolding checkpoint.step
      steps = rw (same_length c n l a w inv) (written_low (is_last w) refl, left_reaches (is_last w))

      -- other memory is refused
      elsewhere : (b : List ℕ) → eqb (length b) (length a) ≡ false → Left (keeps_journal a (stepped_as (checkpoint.step w b)))
      unfolding checkpoint.step
      elsewhere b e =
          rw (ne_eqb (length b) s.size (λ q. eqb-false (length b) (length a) e (q ∙ inv.callable.0.size ∙ sym inv.journal.size)))
          (low, k)

      cuts : (x : Cut) → Left (cut_on w a x)
      cuts x = rw (same_length c n l a w inv) (go x)
        where
          go : (x : Cut) → Left (cut_at w a x)
          go old = (low, tt)
          go new = (written_low (is_last w) refl, tt)
          go (torn b) =
              split (is_torn b)
              (λ t. rw t (
                by-journal g (write_at a (next_place w) b) inv.saved
                    (torn-journal c n inv.saved a w inv.journal (is-ready inv.callable.0) inv.callable.1 b t) low-now,
                tt,
              ))
              (λ t. rw t tt)

    -- ## every item
    restarts-left : (p : Phase) (a : List ℕ) → Inv c n l (world p a) → Low g a → Left (restarted_as p a (restart c a))
    restarts-left p a inv low = rw (restart-finds c n a inv.saved accepted inv.journal) (low, omega arith)

    shown : (p : Phase) (a : List ℕ) → Inv c n l (world p a) → Low g a → Reach p → Shown (λ i. Left) a p
    shown (idle s) a inv low k = (λ w q e. asks s a low k w q, begins s a low k)
    shown (writing w) a inv low k = (steps w a inv low k, elsewhere w a inv low k, cuts w a inv low k)
    shown off a inv low k = tt

    item-left : (w : World) (i : Item) → Inv c n l w → Lasts l g w → Left (next c w i)
    item-left w i inv k =
        next_cases c (λ j. Left) (λ j e. tt) w.phase w.journal (restarts-left w.phase w.journal inv k.0)
        (shown w.phase w.journal inv k.0 k.1) i

    abbrev Said : Option After → Type 0
    Said none = Unit {0}
    Said (some t) = Says g t.event

    not_said : (x : Option After) → made x ≡ 0 → Said x
    not_said none z = tt
    not_said (some t) z = unsaid g (effect_of t.event) z

    item-said : (w : World) (i : Item) → Inv c n l w → Low g w.journal → Said (next c w i)
    unfolding next transition
    item-said w (call (ask v q)) inv low = not_said (next c w (call (ask v q))) (next-made c w (call (ask v q)))
    item-said w (call (begin v)) inv low = not_said (next c w (call (begin v))) (next-made c w (call (begin v)))
    item-said w (call step) inv low = not_said (next c w (call step)) (next-made c w (call step))
    item-said w (call calls.restart) inv low =
        rw (restart-finds c n w.journal inv.saved accepted inv.journal) (saved_low w.journal w.phase inv low)
    item-said w (step_on b) inv low = not_said (next c w (step_on b)) (next-made c w (step_on b))
    item-said w (cut k) inv low = not_said (next c w (cut k)) (next-made c w (cut k))

    item-second : (w : World) (i : Item) → Inv c n l w → Lasts l g w → Second noted same Says Lasts (l, g) (next c w i)
    item-second w i inv k = go (next c w i) (item-left w i inv k) (item-said w i inv k.0)
      where
        go : (x : Option After) → Left x → Said x → Second noted same Says Lasts (l, g) x
        go none left said = tt
        go (some t) left said = record { says = said; keeps = left }

  -- ## every list
  abbrev fold : Ledger × ℕ → Event → Ledger × ℕ
  fold = fold_both noted same

  abbrev SaysAll : Ledger × ℕ → Event → Type 0
  SaysAll = SaysBoth (Law c.settings.policy) Says

  abbrev KeepsAll : Ledger × ℕ → World → Type 0
  KeepsAll = KeepsBoth (Inv c n) Lasts

  each : (b : Ledger × ℕ) (w : World) (i : Item) → KeepsAll b w → Answered fold SaysAll KeepsAll b (next c w i)
  each b w i k =
      beside noted same (Law c.settings.policy) Says (Inv c n) Lasts b (next c w i) (item-kept c n accepted b.0 w i k.0)
      (item-second b.0 b.1 w i k.0 k.1)

  all_said : (es : List Event) (l : Ledger) (g : ℕ) → Along fold SaysAll (l, g) es → CeilingsAtLeast g es
  unfolding Along CeilingsAtLeast
  all_said [] l g h = tt
  all_said (e ∷ es) l g h = (h.0.1, all_said es (noted l e) g h.1)

  same-bound : (es : List Event) (l : Ledger) (g : ℕ) → (folded fold (l, g) es).1 ≡ g
  unfolding folded
  same-bound [] l g = refl
  same-bound (e ∷ es) l g = same-bound es (noted l e) g

  -- the state's ceiling is what a restart would answer
  state-ceiling : (l : Ledger) (p : Phase) (a : List ℕ) (inv : Inv c n l (world p a)) (x : State) → state_in p ≡ some x → x.ceiling ≡ inv.saved.ceiling
  state-ceiling l (idle s) a inv x e = let q : s ≡ x = cc in rw (← q) inv.callable.ceiling
  state-ceiling l (writing w) a inv x e = let q : w.state ≡ x = cc in rw (← q) inv.callable.0.ceiling
  state-ceiling l off a inv x e = absurd (none-ne-some x e)

  state-low : (l : Ledger) (p : Phase) (a : List ℕ) → Inv c n l (world p a) → (x : State) → state_in p ≡ some x → Low x.ceiling a
  state-low l p a inv x e = by-journal x.ceiling a inv.saved inv.journal (omega (arith, state-ceiling l p a inv x e))

  low-state : (g : ℕ) (l : Ledger) (p : Phase) (a : List ℕ) → Inv c n l (world p a) → Low g a → (y : State) → state_in p ≡ some y → g ≤ y.ceiling
  low-state g l p a inv low y e = omega (arith, state-ceiling l p a inv y e, saved_low l g a p inv low)

  -- from a world within the invariant whose ceiling is within reach: any bound below what a restart would answer lasts
  record Lasting (g : ℕ) (w : World) (after : List Item) : Type 0 where
    restarts : CeilingsAtLeast g (run c w after)
    ledger : Ledger
    inv : Inv c n ledger (ends c w after)
    low : Low g (ends c w after).journal
    reach : Reach (ends c w after).phase

  lasting : (g : ℕ) (l : Ledger) (w : World) (after : List Item) → Inv c n l w → Lasts l g w → Lasting g w after
  lasting g l w after inv k =
      let h = along fold SaysAll KeepsAll c each after (l, g) w (inv, k) in
      let z = at-end fold SaysAll KeepsAll c each after (l, g) w (inv, k) in
      let is = same-bound (run c w after) l g in
      record {
        restarts = all_said (run c w after) l g h;
        ledger = (folded fold (l, g) (run c w after)).0;
        inv = z.0;
        low = rw is at z.1.0;
        reach = z.1.1;
      }

  -- and from a state on, its ceiling does
  onward : (l : Ledger) (w : World) → Inv c n l w → Reach w.phase → (x : State) → state_in w.phase ≡ some x → (after : List Item)
      → Lasting x.ceiling w after
  onward l w inv reach x e after = lasting x.ceiling l w after inv (state-low l w.phase w.journal inv x e, reach)

ceiling-from : (c : Configuration) (n : ℕ) → Passed (start_table c n) → (l : Ledger) (w : World) → Inv c n l w → Reach w.phase
    → (before after : List Item) (x : State) → state_in (ends c w before).phase ≡ some x
    → NoLower x.ceiling (run c (ends c w before) after) (state_in (ends c (ends c w before) after).phase)
ceiling-from c n accepted l w inv reach before after x here =
    let first = lasting c n accepted 0 l w before inv (λ r q. omega arith, reach) in
    let mid = ends c w before in
    let k = onward c n accepted first.ledger mid first.inv first.reach x here after in
    let end = ends c mid after in
    record {
      restarts = k.restarts;
      state = λ y q. low-state c n accepted x.ceiling k.ledger end.phase end.journal k.inv k.low y q;
    }

pub ceiling-never-falls : CeilingNeverFalls
unfolding CeilingNeverFalls
ceiling-never-falls c a s before after f bytes e x here =
    let b = begins-from c a s f bytes e in
    ceiling-from c (length a) b.accepted (ledger_of s) (world (idle s) a) b.inv (omega (arith, b.inv.callable.floor)) before after x here

-- ## on the disk
-- the same of effects, those that do nothing apart
abbrev AllSaid : ℕ → List Effect → Type 0
AllSaid g [] = Unit {0}
AllSaid g (x ∷ xs) = CeilingAtLeast g x × AllSaid g xs

told-said : (g : ℕ) (x : Effect) (xs : List Effect) → CeilingAtLeast g x → AllSaid g xs → AllSaid g (told x xs)
told-said g (handing o h) xs k r = (k, r)
told-said g (settling named) xs k r = (k, r)
told-said g (requeuing o) xs k r = (k, r)
told-said g renewing xs k r = (k, r)
told-said g (restarting a) xs k r = (k, r)
told-said g nothing xs k r = r

said-told : (g : ℕ) (x : Effect) (xs : List Effect) → AllSaid g (told x xs) → CeilingAtLeast g x × AllSaid g xs
said-told g (handing o h) xs k = k
said-told g (settling named) xs k = k
said-told g (requeuing o) xs k = k
said-told g renewing xs k = k
said-told g (restarting a) xs k = k
said-told g nothing xs k = (tt, k)

effects_said : (g : ℕ) (es : List Event) → CeilingsAtLeast g es → AllSaid g (effects_of es)
unfolding CeilingsAtLeast effects_of
effects_said g [] h = tt
effects_said g (e ∷ es) h = told-said g (effect_of e) (effects_of es) h.0 (effects_said g es h.1)

said_effects : (g : ℕ) (es : List Event) → AllSaid g (effects_of es) → CeilingsAtLeast g es
unfolding CeilingsAtLeast effects_of
said_effects g [] h = tt
said_effects g (e ∷ es) h = let k = said-told g (effect_of e) (effects_of es) h in (k.0, said_effects g es k.1)

-- a state that is in force is the same in order
state-there : (c : Configuration) (n : ℕ) (l : Ledger) (p : Phase) (a : List ℕ) (ws : List Write) → Standing c n l p a ws → (w : World) → Match c n p a ws w
    → (x : State) → cond (has_header ws) none (state_in p) ≡ some x → state_in w.phase ≡ some x
unfolding has_header
state-there c n l (idle s) a [] st w m x e = rw m.phase e
state-there c n l (idle s) a (k ∷ ks) f w m x e = absurd (none-ne-some x (rw (header-waits c n l s a (k ∷ ks) f) at e))
state-there c n l (writing r) a ws u w m x e =
    rw m.phase (split (has_header ws) (λ t. absurd (none-ne-some x (rw t at e))) (λ t. rw t at e))
state-there c n l off a ws st w m x e =
    split (has_header ws) (λ t. absurd (none-ne-some x (rw t at e))) (λ t. absurd (none-ne-some x (rw t at e)))

pub ceiling-on-disk : CeilingOnDisk
unfolding CeilingOnDisk
ceiling-on-disk c a s before after f bytes e x here =
    let b = begins-from c a s f bytes e in
    let n : ℕ = length a in
    let P = Law c.settings.policy in
    let w = world (idle s) a in
    let d = on_disk (idle s) (disk a []) in
    let first = all c n b.accepted before (ledger_of s) d w b.inv (record { phase = refl; led = ledger_of s; inv = b.inv; same = refl }) in
    let mid = ends_on c d before in
    let l = folded noted (ledger_of s) (run_on c d before) in
    let inv = at-end-on noted P (InvOn c n) c (kept_on c n b.accepted) before (ledger_of s) d b.inv in
    let then = all c n b.accepted after l mid (ends c w first.list) inv first.matches in
    let end = ends_on c mid after in
    let m = folded noted l (run_on c mid after) in
    let last-inv = at-end-on noted P (InvOn c n) c (kept_on c n b.accepted) after l mid inv in
    let ordered = ceiling-from c n b.accepted (ledger_of s) w b.inv (omega (arith, b.inv.callable.floor)) first.list then.list x
    (state-there c n l mid.phase mid.disk.held mid.disk.pending inv (ends c w first.list) first.matches x here) in
    record {
      restarts = said_effects x.ceiling (run_on c mid after) (rw then.same (effects_said x.ceiling _ ordered.restarts));
      state = λ y q. ordered.state y
          (state-there c n m end.phase end.disk.held end.disk.pending last-inv (ends c (ends c w first.list) then.list) then.matches y q);
    }
