-- Commits over jobs that are held: the comparison with the commit from before request l; the tokens that a commit takes away, by the
-- invariant that says of a token which lease may have it (Holders.antt), here none; and a restart that goes back over it. Assumes nothing.
use Prim.Native.Nat.{ℕ, ◌<◌}
use native.Mathlib.Omega.{arith}
use mathlib.Core.Path.{◌≡◌, refl, sym, ap, subst, ◌∙◌}
use mathlib.Core.Bool.{Bool, true, false, cond, true≢false}
use mathlib.Core.List.{List, [], ◌∷◌}
use mathlib.Core.Option.{Option, none, some, none-ne-some}
use lib.Dec.{ltb, leb}
use borrow.Author.Tests.{ne_eqb, lt-ltb}
use Rattle.types.specs.Refusal.{Refusal, Result, refused, done, Fenced, Held, numbered}
use Rattle.types.specs.Table.{first, Passed, Answer, answer, guarded, unless_kept}
use Rattle.types.specs.Keyed.{Entry, lookup, any_below, drop_below}
use Rattle.types.proofs.Cases.{split}
use Rattle.types.proofs.Keyed.{lookup-drop-below}
use Rattle.cursor.specs.Cursor.{commit_up_to}
use Rattle.lease.specs.declared.Lease.{Lease}
use Rattle.lease.specs.Operations.{owns}
use Rattle.lease.specs.State.{with_leases, with_carried}
use Rattle.consumer.specs.State.{Configuration, State, with_both}
use Rattle.consumer.specs.Rights.{committing}
use Rattle.consumer.specs.Calls as consumer
use Rattle.consumer.specs.Calls.{call_rows, with_committed}
use Rattle.consumer.specs.Valid.{Valid}
use Rattle.consumer.proofs.Open.{commit_cases}
use Rattle.starts.specs.Restart.{start_table}
use Rattle.machine.specs.Calls.{Ask, commit, ask, restart, Event, committed}
use Rattle.machine.specs.Transitions.{Phase, idle, After, answered_as, asked}
use Rattle.crash_safety.specs.Effects.{Effect, handing, settling, requeuing, renewing, restarting, nothing, effect_of}
use Rattle.crash_safety.specs.Book.{Book, empty_book, note, book_after}
use Rattle.crash_safety.specs.Demand3.{Right}
use Rattle.crash_safety.specs.Runs.{Item, call, World, world, next, after, run, ends, fresh_world}
use Rattle.crash_safety.specs.Settled.{state_in}
use Rattle.crash_safety.specs.Workers.{operation_of, rows_for, refusal_of, token_in, or_else}
use Rattle.crash_safety.specs.Tokens.{Tokens, no_tokens, tokens_in}
use Rattle.crash_safety.specs.Halves.{headers, headers_in}
use Rattle.crash_safety.specs.Commits.{held_table, counts_dropped, commit_before, CommitsAsBefore, Not30, FencedAfter, TakenAway, FencedFromThenOn, OpenAgain}
use Rattle.crash_safety.proofs.Law.{Ledger, ledger, empty_ledger, noted, Law, folded}
use Rattle.crash_safety.proofs.Runs.{Made, at-end, fold_both}
use Rattle.crash_safety.proofs.Invariant.{Inv}
use Rattle.crash_safety.proofs.Kept.{item-kept}
use Rattle.crash_safety.proofs.Start.{begins_well}
use Rattle.crash_safety.proofs.Reached.{reached}
use Rattle.crash_safety.proofs.Workers.{some_inj, Asked, ask-made, fenced-answer}
use Rattle.crash_safety.proofs.Tokens.{Known, leases_of, none_below, nothing-given, tokens_seen, known-after, tokens-folded}
use Rattle.crash_safety.proofs.Holders.{Own, held_after}
use Rattle.crash_safety.proofs.Rows.{first_not}

-- ## as before
none_dropped : {A : Type 0} (bound : ℕ) (l : List (Entry A)) → any_below bound l ≡ false → drop_below bound l ≡ l
none_dropped bound [] h = refl
none_dropped bound (e ∷ l) h =
    split (ltb e.key bound)
    (λ t. absurd (true≢false (rw t at h)))
    (λ t. rw t (ap (λ m. e ∷ m) (none_dropped bound l (rw t at h))))

module _ (s : State) (w bound : ℕ) where
  -- both commits side by side: 38 or 39, Unchanged, 30 before, and an effect that no lease is in the way of
  side_by_side : (P : Answer Bool State → Answer Bool State → Type 0) → ((r : Refusal) → Not30 (some r) → P (answer (refused r) s) (answer (refused r) s))
      → P (answer (done false) s) (answer (done false) s) → P (answer (done true) (with_committed s bound)) (answer (refused Held) s)
      → (any_below bound s.table.leases ≡ false → P (answer (done true) (with_committed s bound)) (answer (done true) (counts_dropped s bound)))
      → P (consumer.commit s w bound) (commit_before s w bound)
  unfolding consumer.commit commit_before
  side_by_side P denied unchanged held effect = go (first (call_rows s w committing)) (first_not (call_rows s w committing) refl)
    where
      go : (x : Option Refusal) → Not30 x
          → P (unless_kept x s (cond (leb bound s.cursor.committed) (answer (done false) s) (answer (done true) (with_committed s bound))))
          (unless_kept x s (cond (leb bound s.cursor.committed) (answer (done false) s)
          (guarded (held_table s bound) s (answer (done true) (counts_dropped s bound)))))
      go (some r) h = denied r h
      go none h =
          split (leb bound s.cursor.committed) (λ t. rw t unchanged)
          (λ t. split (any_below bound s.table.leases) (λ u. rw (t, u) held) (λ u. rw (t, u) (effect u)))

  abbrev Compares : Answer Bool State → Answer Bool State → Type 0
  Compares now then =
      ((then.outcome ≡ refused Held → ⊥) → now ≡ then) × (then.outcome ≡ refused Held → now ≡ answer (done true) (with_committed s bound))

  -- an answer is no refusal
  not_held : (b : Bool) → ◌≡◌ {A = Result Bool} (done b) (refused Held) → ⊥
  not_held b e = let z : ◌≡◌ {A = ℕ} 0 1 = cc in omega arith

  compared : Compares (consumer.commit s w bound) (commit_before s w bound)
  compared =
      side_by_side Compares
      (λ r h. (λ n. refl, λ e. let same : r ≡ Held = cc in absurd (h (ap (λ q. (numbered q).number) same))))
      (λ n. refl, λ e. absurd (not_held false e))
      (λ n. absurd (n refl), λ e. refl)
      (λ h. (
        λ n. ap (λ l. answer (done true) (with_both s (commit_up_to s.cursor bound).state (with_carried (with_leases s.table l) (drop_below bound s.table.carried))))
            (none_dropped bound s.table.leases h),
        λ e. absurd (not_held true e),
      ))

pub commits_as_before : CommitsAsBefore
unfolding CommitsAsBefore
commits_as_before s w bound = record { same = (compared s w bound).0; instead = (compared s w bound).1 }

-- ## tokens
-- no lease has the token
abbrev pub Gone : ℕ → ℕ → ℕ → List (Entry Lease) → Type 0
Gone o g floor leases = Own (λ w. ⊥) o g floor leases

unowned : (o g floor : ℕ) (leases : List (Entry Lease)) → Gone o g floor leases → owns (lookup o leases) g ≡ false
unowned o g floor leases k = go (lookup o leases) refl
  where
    go : (x : Option Lease) → lookup o leases ≡ x → owns x g ≡ false
    go none e = refl
    go (some l) e = ne_eqb l.generation.0 g (k.own l e)

-- a commit that is not refused leaves no lease below its bound
none_left : (s : State) → Valid s → (a : List ℕ) (v bound : ℕ) (moved : Bool) (t : After) → asked s a v (commit bound) ≡ some t
    → t.event ≡ committed bound (done moved) → (o : ℕ) → o < bound → lookup o (leases_of t.phase) ≡ none
none_left s valid a v bound moved t =
    commit_cases s v bound
    (λ x. answered_as a (committed bound) x ≡ some t → t.event ≡ committed bound (done moved) → (o : ℕ) → o < bound → lookup o (leases_of t.phase) ≡ none)
    (λ r f e. absurd (none-ne-some r (sym (ap refusal_of (ap (λ (x : After). x.event) (some_inj f) ∙ e)))))
    (λ p h f e o b. rw (← some_inj f) (none_below s valid bound o h (lt-ltb o bound b)))
    (λ p f e o b. rw (← some_inj f) (lookup-drop-below o bound s.table.leases (lt-ltb o bound b)))

module _ (c : Configuration) (n : ℕ) where
  -- the floor may be raised to the next generation
  abbrev raised : Ledger → State → Ledger
  raised l s = ledger l.book l.redeliveries s.table.next_generation

  raise : (l : Ledger) (s : State) (a : List ℕ) → Inv c n l (world (idle s) a) → Inv c n (raised l s) (world (idle s) a)
  raise l s a inv =
      record {
        saved = inv.saved;
        journal = inv.journal;
        finds = inv.finds;
        callable = record {
          valid = inv.callable.valid;
          size = inv.callable.size;
          settings = inv.callable.settings;
          ceiling = inv.callable.ceiling;
          next = inv.callable.next;
          agrees = inv.callable.agrees;
          redeliveries = inv.callable.redeliveries;
          floor = omega arith;
        };
      }

  -- a call with a token that no lease has
  gone-fenced : (l : Ledger) (p : Phase) (a : List ℕ) (o g : ℕ) → Inv c n l (world p a) → Gone o g l.floor (leases_of p)
      → (w : ℕ) (q : Ask) → token_in q ≡ some (o, g) → (u : After) → Asked p a w q u
      → refusal_of u.event ≡ or_else (rows_for c w (operation_of q)) Fenced
  gone-fenced l p a o g inv k w q e u x =
      let here : Gone o g l.floor x.state.table.leases = rw x.there at k in
      fenced-answer c n l p a inv w q o g e u x (unowned o g l.floor x.state.table.leases here)

  -- and whatever comes first
  pub fenced-after : Passed (start_table c n) → (l : Ledger) (w : World) (o g : ℕ) → Inv c n l w → Gone o g l.floor (leases_of w.phase)
      → (between : List Item) → FencedAfter c w between o g
  fenced-after accepted l w o g inv gone between v q e u asks =
      let k = held_after (λ y. ⊥) o g c n accepted between l w (inv, gone) in
      let left : World = ends c w between in
      gone-fenced (folded noted l (run c w between)) left.phase left.journal o g k.0 k.1 v q e u
      (ask-made c left.phase left.journal v u q asks)

  module _ (accepted : Passed (start_table c n)) (l : Ledger) (s : State) (a : List ℕ) (inv : Inv c n l (world (idle s) a)) (v bound : ℕ) (moved : Bool)
      (t : After) (made : next c (world (idle s) a) (call (ask v (commit bound))) ≡ some t) (is : t.event ≡ committed bound (done moved)) where
    abbrev then : Ledger
    then = noted (raised l s) t.event

    kept_so : Made noted (Law c.settings.policy) (Inv c n) (raised l s) t
    kept_so = rw made at (item-kept c n accepted (raised l s) (world (idle s) a) (call (ask v (commit bound))) (raise l s a inv))

    floor-then : then.floor ≡ s.table.next_generation
    floor-then = ap (λ (y : Event). (noted (raised l s) y).floor) is

    none_then : (o : ℕ) → o < bound → lookup o (leases_of t.phase) ≡ none
    none_then o b =
        let x = ask-made c (idle s) a v t (commit bound) made in
        let same : s ≡ x.state = some_inj (ap state_in x.there) in
        none_left s inv.callable.valid a v bound moved t (rw (← same) at x.says) is o b

    gone : (o g : ℕ) → o < bound → g < s.table.next_generation → Gone o g then.floor (leases_of t.phase)
    gone o g b low =
        rw floor-then (record { below = low; own = λ m q z. none-ne-some m (sym (none_then o b) ∙ q) })

    -- whatever comes then
    fenced-then : (between : List Item) (o g : ℕ) → o < bound → g < s.table.next_generation → FencedAfter c (after t) between o g
    fenced-then between o g b low = fenced-after accepted then (after t) o g kept_so.keeps (gone o g b low) between

  -- a token that was given lies below the next generation
  given-used : (b : Ledger × Tokens) (s : State) (a : List ℕ) → Inv c n b.0 (world (idle s) a) → Known b.1 b.0.floor s.table.leases
      → (o g : ℕ) → b.1.given o g ≡ true → g < s.table.next_generation
  given-used b s a inv k o g d = omega (arith, k.given_below o g d, inv.callable.floor)

-- by who can be called after the list
taken_away : (c : Configuration) (n : ℕ) → Passed (start_table c n) → (b : Ledger × Tokens) (p : Phase) (a : List ℕ) → Inv c n b.0 (world p a)
    → Known b.1 b.0.floor (leases_of p) → (es : List Event) → b.1 ≡ tokens_in no_tokens es → (here : State) → p ≡ idle here
    → (v bound : ℕ) (moved : Bool) (t : After) → next c (world p a) (call (ask v (commit bound))) ≡ some t
    → t.event ≡ committed bound (done moved) → (between : List Item) → TakenAway c es here bound (after t) between
taken_away c n accepted b p a inv k es so here at v bound moved t made is between =
    let now : Inv c n b.0 (world (idle here) a) = rw at at inv in
    let known : Known b.1 b.0.floor here.table.leases = rw at at k in
    let asks : next c (world (idle here) a) (call (ask v (commit bound))) ≡ some t = rw at at made in
    let all = fenced-then c n accepted b.0 here a now v bound moved t asks is between in
    record {
      given = λ o g low d. all o g low (given-used c n b here a now known o g (rw so d));
      used = all;
    }

pub fenced-from-then-on : FencedFromThenOn
unfolding FencedFromThenOn
fenced-from-then-on c n s before between f e here at v bound moved t made is =
    let start = begins_well c n s f e in
    let es : List Event = run c (fresh_world s n) before in
    let left : World = ends c (fresh_world s n) before in
    let k = known-after c n start.accepted before (fresh_world s n) (start.inv, nothing-given 0 s.table.leases) in
    taken_away c n start.accepted (folded (fold_both noted tokens_seen) (empty_ledger, no_tokens) es) left.phase left.journal k.0 k.1
    es (tokens-folded es empty_ledger no_tokens) here at v bound moved t made is between

-- ## a restart that goes back over the commit
copy-stays : (b : Book) (x : Effect) → headers x ≡ 0 → (note b x).copy ≡ b.copy
copy-stays b (handing o h) e = refl
copy-stays b (settling named) e = refl
copy-stays b (requeuing o) e = refl
copy-stays b renewing e = absurd (omega arith)
copy-stays b (restarting (refused r)) e = refl
copy-stays b (restarting (done s)) e = refl
copy-stays b nothing e = refl

copy-folded : (es : List Event) (l : Ledger) → headers_in es ≡ 0 → (folded noted l es).book.copy ≡ l.book.copy
unfolding folded headers_in
copy-folded [] l h = refl
copy-folded (e ∷ es) l h = copy-folded es (noted l e) (omega arith) ∙ copy-stays l.book (effect_of e) (omega arith)

pub open_again : OpenAgain
unfolding OpenAgain
open_again c n s before between f e v bound moved t made is none_written u again =
    let r = reached c n s before f e in
    let first : World = ends c (fresh_world s n) before in
    let kept : Made noted (Law c.settings.policy) (Inv c n) r.ledger t =
    rw made at (item-kept c n r.accepted r.ledger first (call (ask v (commit bound))) r.inv) in
    let l : Ledger = folded noted (noted r.ledger t.event) (run c (after t) between) in
    let left : World = ends c (after t) between in
    let inv : Inv c n l left = at-end noted (Law c.settings.policy) (Inv c n) c (item-kept c n r.accepted) between (noted r.ledger t.event) (after t) kept.keeps in
    let found : Made noted (Law c.settings.policy) (Inv c n) l u = rw again at (item-kept c n r.accepted l left (call restart) inv) in
    let copy : l.book.copy ≡ (book_after empty_book (run c (fresh_world s n) before)).copy =
    copy-folded (run c (after t) between) (noted r.ledger t.event) none_written
    ∙ copy-stays r.ledger.book (effect_of t.event) (ap (λ (y : Event). headers (effect_of y)) is)
    ∙ ap (λ (b : Book). b.copy) r.books in
    subst (λ p. Right p (effect_of u.event)) copy found.says.0
