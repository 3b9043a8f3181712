-- What a call is answered that is turned away for its worker or its token; that a refused call keeps everything, and so can be left out
-- of a list. Assumes nothing.
use Prim.Native.Nat.{ℕ}
use mathlib.Core.Path.{◌≡◌, refl, sym, ap, ◌∙◌}
use mathlib.Core.Bool.{Bool, true, false, not, cond, ◌&&◌, true≢false}
use mathlib.Core.List.{List, [], ◌∷◌, ◌++◌}
use mathlib.Core.Option.{Option, none, some, none-ne-some}
use lib.Dec.{eqb}
use borrow.Author.Tests.{eqb-true, ne_eqb}
use Rattle.types.specs.Refusal.{Refusal, Result, refused, done, Fenced, ForeignToken}
use Rattle.types.specs.Table.{Row, ◌⇒◌, first, Answer, answer, unless_kept, guarded}
use Rattle.types.proofs.Cases.{split, both}
use Rattle.types.proofs.Table.{first-met-before, first-cut, first_skip, guarded-refused}
use Rattle.lease.specs.declared.Lease.{Lease}
use Rattle.lease.specs.Operations.{lease_of, is_none, owns, token_row}
use Rattle.consumer.specs.State.{Settings, Configuration, State}
use Rattle.consumer.specs.Rights.{Operation, claiming, settling, nacking, extending, checkpointing, bit_of, worker_rows}
use Rattle.consumer.specs.Calls as consumer
use Rattle.consumer.specs.Calls.{call_rows, held_by, token_rows, claim_rows, ack_rows, ack_table, nack_rows, nack_table, progress_rows, progress_table}
use Rattle.consumer.proofs.Open.{claim_cases, ack_cases, nack_cases, progress_cases, commit_cases}
use Rattle.checkpoint.specs.Checkpoint as checkpoint
use Rattle.checkpoint.specs.Checkpoint.{Writing, begin_rows}
use Rattle.starts.specs.Restart as restarts
use Rattle.machine.specs.Calls.{Ask, claim, ack, term, nack, progress, commit, look, Call, ask, begin, step, restart, u64, fits, Event, claimed, acked, termed, nacked, progressed, committed, looked, begun}
use Rattle.machine.specs.Transitions.{Phase, idle, writing, off, After, gives, on_state, answered_as, asked, began_as, stepped_as, restarted_as, transition}
use Rattle.power_cut.specs.Cut.{cut_on}
use Rattle.crash_safety.specs.Runs.{Item, call, step_on, cut, keeps_journal, World, world, next, after, run, ends, fresh_world}
use Rattle.crash_safety.specs.Workers.{operation_of, caller_of, made_by, rows_for, refusal_in, refusal_of, Heard, heard_of, heard, seen_in, is_refused_to, less_refused, thinned, LeftOutRefusals, Turned, NothingWithoutRight, token_in, or_else, NotOwn, fenced, foreign}
use Rattle.crash_safety.proofs.Law.{Ledger}
use Rattle.crash_safety.proofs.Runs.{run-made, run-skipped, ends-made, ends-skipped}
use Rattle.crash_safety.proofs.Items.{Shown, next_cases}
use Rattle.crash_safety.proofs.Invariant.{Inv}
use Rattle.crash_safety.proofs.Reached.{reached}

pub some_inj : {A : Type 0} {x y : A} → some x ≡ some y → x ≡ y
some_inj e = cc

-- ## a call that is made finds a state
pub record Found (p : Phase) (f : State → Option After) (t : After) : Type 0 where
  pub state : State
  pub there : p ≡ idle state
  pub says : f state ≡ some t

found : (b : Bool) (p : Phase) (f : State → Option After) (t : After) → cond b (on_state p f) none ≡ some t → Found p f t
found true (idle s) f t e = record { state = s; there = refl; says = e }
found true (writing r) f t e = absurd (none-ne-some t e)
found true off f t e = absurd (none-ne-some t e)
found false p f t e = absurd (none-ne-some t e)

abbrev pub Asked : Phase → List ℕ → ℕ → Ask → After → Type 0
Asked p a w q t = Found p (λ s. asked s a w q) t

module _ (c : Configuration) (p : Phase) (a : List ℕ) (w : ℕ) (t : After) where
  pub ask-made : (q : Ask) → next c (world p a) (call (ask w q)) ≡ some t → Asked p a w q t
  unfolding next transition
  ask-made q e = found (u64 w && fits q) p (λ s. asked s a w q) t e

  begin-made : next c (world p a) (call (begin w)) ≡ some t → Found p (λ s. began_as s a (checkpoint.begin s w)) t
  unfolding next transition
  begin-made e = found (u64 w) p (λ s. began_as s a (checkpoint.begin s w)) t e

-- ## calls with a token
-- a table's first refusal is the answer's
refused-by : {A S : Type 0} (ws : List Row) (s t : S) (x : A) → refusal_in (guarded ws s (answer (done x) t)).outcome ≡ first ws
refused-by ws s t x = go (first ws)
  where
    go : (o : Option Refusal) → refusal_in (unless_kept o s (answer (done x) t)).outcome ≡ o
    go none = refl
    go (some r) = refl

-- the rows behind those of the token
abbrev pub own_rows : State → Ask → List Row
own_rows s (claim o now) = []
own_rows s (ack o g) = ack_rows s o
own_rows s (term o g) = ack_rows s o
own_rows s (nack o g now d) = nack_rows s
own_rows s (progress o g now) = progress_rows s o now
own_rows s (commit bound) = []
own_rows s (look q) = []

module _ (s : State) (a : List ℕ) (w : ℕ) (t : After) where
  seen_so : {e : Event} {p : Phase} → gives e p a ≡ some t → refusal_of t.event ≡ refusal_of e
  seen_so f = ap (λ (x : After). refusal_of x.event) (sym (some_inj f))

  pub token-answer : (q : Ask) (o g : ℕ) → token_in q ≡ some (o, g) → asked s a w q ≡ some t
      → refusal_of t.event ≡ first (token_rows s w (operation_of q) o g ++ own_rows s q)
  unfolding consumer.ack consumer.nack consumer.progress
  token-answer (claim x now) o g e f = absurd (none-ne-some (o, g) e)
  token-answer (ack x y) o g e f =
      rw (← ap (λ (k : ℕ × ℕ). k.0) (some_inj e), ← ap (λ (k : ℕ × ℕ). k.1) (some_inj e)) (seen_so f ∙ refused-by (ack_table s w x y) s _ _)
  token-answer (term x y) o g e f =
      rw (← ap (λ (k : ℕ × ℕ). k.0) (some_inj e), ← ap (λ (k : ℕ × ℕ). k.1) (some_inj e)) (seen_so f ∙ refused-by (ack_table s w x y) s _ _)
  token-answer (nack x y now d) o g e f =
      rw (← ap (λ (k : ℕ × ℕ). k.0) (some_inj e), ← ap (λ (k : ℕ × ℕ). k.1) (some_inj e)) (seen_so f ∙ refused-by (nack_table s w x y) s _ _)
  token-answer (progress x y now) o g e f =
      rw (← ap (λ (k : ℕ × ℕ). k.0) (some_inj e), ← ap (λ (k : ℕ × ℕ). k.1) (some_inj e)) (seen_so f ∙ refused-by (progress_table s w x y now) s _ _)
  token-answer (commit bound) o g e f = absurd (none-ne-some (o, g) e)
  token-answer (look q) o g e f = absurd (none-ne-some (o, g) e)

-- 40
abbrev foreign_row : State → ℕ → ℕ → Row
foreign_row s w o = not (held_by w (lease_of s.table o)) ⇒ ForeignToken

-- by what the table says of the token
module _ (s : State) (w : ℕ) (op : Operation) (o g : ℕ) (rest : List Row) where
  pub fenced-first : owns (lease_of s.table o) g ≡ false → first (token_rows s w op o g ++ rest) ≡ or_else (call_rows s w op) Fenced
  fenced-first e = first-cut (call_rows s w op) (foreign_row s w o ∷ rest) (token_row s.table o g) (rw e)

  pub foreign-first : owns (lease_of s.table o) g ≡ true → held_by w (lease_of s.table o) ≡ false
      → first (token_rows s w op o g ++ rest) ≡ or_else (call_rows s w op) ForeignToken
  foreign-first e h =
      first_skip (call_rows s w op) (foreign_row s w o ∷ rest) (token_row s.table o g) (rw e)
      ∙ first-cut (call_rows s w op) rest (foreign_row s w o) (rw h)

  -- no lease of the worker has the token
  pub not_own : ((l : Lease) → lease_of s.table o ≡ some l → l.generation.0 ≡ g → l.worker ≡ w → ⊥)
      → NotOwn (call_rows s w op) (first (token_rows s w op o g ++ rest))
  not_own other = go (lease_of s.table o) refl
    where
      go : (x : Option Lease) → lease_of s.table o ≡ x → NotOwn (call_rows s w op) (first (token_rows s w op o g ++ rest))
      go none e = fenced (fenced-first (rw e))
      go (some l) e =
          split (eqb l.generation.0 g)
          (λ t. foreign (foreign-first (rw (e, t)) (rw (e, ne_eqb l.worker w (other l e (eqb-true l.generation.0 g t))))))
          (λ t. fenced (fenced-first (rw (e, t))))

-- a call with a token that no lease has, where the state's rights are the configuration's
pub fenced-answer : (c : Configuration) (n : ℕ) (l : Ledger) (p : Phase) (a : List ℕ) → Inv c n l (world p a)
    → (w : ℕ) (q : Ask) (o g : ℕ) → token_in q ≡ some (o, g) → (t : After) (x : Asked p a w q t) → owns (lease_of x.state.table o) g ≡ false
    → refusal_of t.event ≡ or_else (rows_for c w (operation_of q)) Fenced
fenced-answer c n l p a inv w q o g e t x m =
    let s : State = x.state in
    let here : Inv c n l (world (idle s) a) = rw x.there at inv in
    token-answer s a w t q o g e x.says
    ∙ fenced-first s w (operation_of q) o g (own_rows s q) m
    ∙ ap (λ (u : Settings). or_else (worker_rows u.rights w (bit_of (operation_of q))) Fenced) here.callable.settings

-- ## calls without the right
module _ (s : State) (a : List ℕ) (w : ℕ) (r : Refusal) (t : After) where
  abbrev Kept : Type 0
  Kept = Turned (world (idle s) a) r t

  turned : (e : Event) → refusal_of e ≡ some r → gives e (idle s) a ≡ some t → Kept
  turned e is f = rw (← some_inj f) (record { answered = is; kept = refl })

  module _ (ws : List Row) (front : first ws ≡ some r) where
    -- an answer whose table begins with rows that are met
    table_denied : {A : Type 0} (event : Result A → Event) → refusal_of (event (refused r)) ≡ some r → (vs : List Row) (x : Answer A State)
        → answered_as a event (guarded (ws ++ vs) s x) ≡ some t → Kept
    table_denied event is vs x f =
        turned (event (refused r)) is (rw (guarded-refused (ws ++ vs) s x r (first-met-before ws vs r front)) at f)

  ask_denied : (q : Ask) → first (call_rows s w (operation_of q)) ≡ some r → asked s a w q ≡ some t → Kept
  unfolding consumer.claim consumer.ack consumer.nack consumer.progress consumer.commit
  ask_denied (claim o now) e f = table_denied (call_rows s w claiming) e (claimed o now) refl (claim_rows s o now) _ f
  ask_denied (ack o g) e f = table_denied (call_rows s w settling) e (acked o g) refl (token_row s.table o g ∷ foreign_row s w o ∷ ack_rows s o) _ f
  ask_denied (term o g) e f = table_denied (call_rows s w settling) e (termed o g) refl (token_row s.table o g ∷ foreign_row s w o ∷ ack_rows s o) _ f
  ask_denied (nack o g now d) e f = table_denied (call_rows s w nacking) e (nacked o g now d) refl (token_row s.table o g ∷ foreign_row s w o ∷ nack_rows s) _ f
  ask_denied (progress o g now) e f =
      table_denied (call_rows s w extending) e (progressed o g now) refl (token_row s.table o g ∷ foreign_row s w o ∷ progress_rows s o now) _ f
  ask_denied (commit bound) e f = turned (committed bound (refused r)) refl (rw e at f)
  ask_denied (look q) e f = turned (looked q (refused r)) refl (rw e at f)

  begin_denied : first (call_rows s w checkpointing) ≡ some r → began_as s a (checkpoint.begin s w) ≡ some t → Kept
  unfolding checkpoint.begin
  begin_denied e f =
      turned (begun (refused r)) refl (rw (first-met-before (call_rows s w checkpointing) (begin_rows s) r e) at f)

-- whoever can be called, with the configuration's rights
module _ (c : Configuration) (n : ℕ) (l : Ledger) (p : Phase) (a : List ℕ) (inv : Inv c n l (world p a)) (r : Refusal) (t : After) where
  rows_of : (s : State) → p ≡ idle s → (w : ℕ) (op : Operation) → first (rows_for c w op) ≡ some r → first (call_rows s w op) ≡ some r
  rows_of s there w op h =
      let here : Inv c n l (world (idle s) a) = rw there at inv in
      rw here.callable.settings h

  -- worker and operation are the call's
  named : (w : ℕ) (o : Operation) (v : ℕ) (op : Operation) → ◌≡◌ {A = Option (ℕ × Operation)} (some (w, o)) (some (v, op)) → first (rows_for c v op) ≡ some r
      → first (rows_for c w o) ≡ some r
  named w o v op e h = rw (← ap (λ (k : ℕ × Operation). k.0) (some_inj e), ← ap (λ (k : ℕ × Operation). k.1) (some_inj e)) at h

  without-right : (q : Call) (v : ℕ) (op : Operation) → caller_of q ≡ some (v, op) → first (rows_for c v op) ≡ some r
      → next c (world p a) (call q) ≡ some t → Turned (world p a) r t
  without-right (ask w q) v op e h f =
      let x = ask-made c p a w t q f in
      rw x.there (ask_denied x.state a w r t q (rows_of x.state x.there w (operation_of q) (named w (operation_of q) v op e h)) x.says)
  without-right (begin w) v op e h f =
      let x = begin-made c p a w t f in
      rw x.there (begin_denied x.state a w r t (rows_of x.state x.there w checkpointing (named w checkpointing v op e h)) x.says)
  without-right step v op e h f = absurd (none-ne-some (v, op) e)
  without-right restart v op e h f = absurd (none-ne-some (v, op) e)

pub nothing-without-right : NothingWithoutRight
unfolding NothingWithoutRight
nothing-without-right c n s items f e q v op by r h t =
    let reach = reached c n s items f e in
    let w = ends c (fresh_world s n) items in
    without-right c n reach.ledger w.phase w.journal reach.inv r t q v op by h

-- ## refused calls left out
-- a refused call keeps everything
module _ (v : ℕ) (before : World) where
  abbrev KeepsAll : Item → Option After → Type 0
  KeepsAll i none = Unit {0}
  KeepsAll i (some t) = made_by v i ≡ true → not (is_none (refusal_of t.event)) ≡ true → after t ≡ before

module _ (v : ℕ) (s : State) (a : List ℕ) (w : ℕ) where
  abbrev Keeps : Ask → Option After → Type 0
  Keeps q = KeepsAll v (world (idle s) a) (call (ask w q))

  ask-keeps : (q : Ask) → Keeps q (asked s a w q)
  ask-keeps (claim o now) =
      claim_cases s w o now (λ x. Keeps (claim o now) (answered_as a (claimed o now) x)) (λ r m y. refl) (λ p m y. absurd (true≢false (sym y)))
  ask-keeps (ack o g) =
      ack_cases s w o g (λ x. Keeps (ack o g) (answered_as a (acked o g) x)) (λ r m y. refl) (λ p m y. absurd (true≢false (sym y)))
  ask-keeps (term o g) =
      ack_cases s w o g (λ x. Keeps (term o g) (answered_as a (termed o g) x)) (λ r m y. refl) (λ p m y. absurd (true≢false (sym y)))
  ask-keeps (nack o g now d) =
      nack_cases s w o g now d (λ x. Keeps (nack o g now d) (answered_as a (nacked o g now d) x)) (λ r m y. refl)
      (λ p m y. absurd (true≢false (sym y)))
  ask-keeps (progress o g now) =
      progress_cases s w o g now (λ x. Keeps (progress o g now) (answered_as a (progressed o g now) x)) (λ r m y. refl)
      (λ p m y. absurd (true≢false (sym y)))
  ask-keeps (commit bound) =
      commit_cases s w bound (λ x. Keeps (commit bound) (answered_as a (committed bound) x)) (λ r m y. refl)
      (λ p h m y. absurd (true≢false (sym y))) (λ p m y. absurd (true≢false (sym y)))
  ask-keeps (look q) = λ m y. refl

  began-keeps : (r : Result Writing) → KeepsAll v (world (idle s) a) (call (begin w)) (began_as s a r)
  began-keeps (refused r) = λ m y. refl
  began-keeps (done x) = λ m y. absurd (true≢false (sym y))

-- what nobody makes is no call of v
nobodys : (v : ℕ) (w : World) (i : Item) → made_by v i ≡ false → (x : Option After) → KeepsAll v w i x
nobodys v w i e none = tt
nobodys v w i e (some t) = λ m y. absurd (true≢false (sym m ∙ e))

shown : (v : ℕ) (p : Phase) (a : List ℕ) → Shown (KeepsAll v (world p a)) a p
shown v (idle s) a = (λ w q f. ask-keeps v s a w q, λ w. began-keeps v s a w (checkpoint.begin s w))
shown v (writing r) a =
    let w : World = world (writing r) a in (
      nobodys v w (call step) refl (stepped_as (checkpoint.step r a)),
      λ b e. nobodys v w (step_on b) refl (keeps_journal a (stepped_as (checkpoint.step r b))),
      λ k. nobodys v w (cut k) refl (cut_on r a k),
    )
shown v off a = tt

item-keeps : (v : ℕ) (c : Configuration) (w : World) (i : Item) → KeepsAll v w i (next c w i)
item-keeps v c w i =
    next_cases c (KeepsAll v w) (λ j e. tt) w.phase w.journal
    (nobodys v w (call restart) refl (restarted_as w.phase w.journal (restarts.restart c w.journal)))
    (shown v w.phase w.journal) i

refused-keeps : (v : ℕ) (c : Configuration) (w : World) (i : Item) (t : After) → next c w i ≡ some t
    → is_refused_to v (heard_of i t.event) ≡ true → after t ≡ w
refused-keeps v c w i t e h =
    let d = both (made_by v i) (not (is_none (refusal_of t.event))) h in
    (rw e at (item-keeps v c w i)) d.0 d.1

-- what is heard of an item and of the rest
module _ (c : Configuration) (w : World) (i : Item) (is : List Item) where
  heard-made : (t : After) → next c w i ≡ some t → heard c w (i ∷ is) ≡ heard_of i t.event ∷ heard c (after t) is
  unfolding heard
  heard-made t e = rw (e, heard)

  heard-skipped : next c w i ≡ none → heard c w (i ∷ is) ≡ heard c w is
  unfolding heard
  heard-skipped e = rw (e, heard)

  module _ (v : ℕ) where
    thinned-skipped : next c w i ≡ none → thinned v c w (i ∷ is) ≡ i ∷ thinned v c w is
    unfolding thinned
    thinned-skipped e = rw (e, thinned)

    thinned-made : (t : After) → next c w i ≡ some t
        → thinned v c w (i ∷ is) ≡ cond (is_refused_to v (heard_of i t.event)) (thinned v c (after t) is) (i ∷ thinned v c (after t) is)
    unfolding thinned
    thinned-made t e = rw (e, thinned)

seen-heard : (c : Configuration) (items : List Item) (w : World) → run c w items ≡ seen_in (heard c w items)
unfolding run heard
seen-heard c [] w = refl
seen-heard c (i ∷ is) w = go (next c w i) refl (seen-heard c is w) (λ t. seen-heard c is (after t))
  where
    go : (x : Option After) → next c w i ≡ x → run c w is ≡ seen_in (heard c w is)
        → ((t : After) → run c (after t) is ≡ seen_in (heard c (after t) is)) → run c w (i ∷ is) ≡ seen_in (heard c w (i ∷ is))
    go none e skip rest = run-skipped c w i is e ∙ skip ∙ ap seen_in (sym (heard-skipped c w i is e))
    go (some t) e skip rest =
        run-made c w i is t e ∙ ap (λ (es : List Event). t.event ∷ es) (rest t) ∙ ap seen_in (sym (heard-made c w i is t e))

-- both parts together, by one induction
record Thins (v : ℕ) (c : Configuration) (w : World) (items : List Item) : Type 0 where
  hears : heard c w (thinned v c w items) ≡ less_refused v (heard c w items)
  leaves : ends c w (thinned v c w items) ≡ ends c w items

thins_none : (v : ℕ) (c : Configuration) (w : World) → Thins v c w []
unfolding heard thinned less_refused ends
thins_none v c w = record { hears = refl; leaves = refl }

less_one : (v : ℕ) (h : Heard) (hs : List Heard) → less_refused v (h ∷ hs) ≡ cond (is_refused_to v h) (less_refused v hs) (h ∷ less_refused v hs)
unfolding less_refused
less_one v h hs = refl

module _ (v : ℕ) (c : Configuration) (w : World) (i : Item) (is : List Item) where
  thins-skipped : next c w i ≡ none → Thins v c w is → Thins v c w (i ∷ is)
  thins-skipped e skip =
      let thin : List Item = thinned v c w is in
      let is-thin : thinned v c w (i ∷ is) ≡ i ∷ thin = thinned-skipped c w i is v e in
      record {
        hears = ap (heard c w) is-thin ∙ heard-skipped c w i thin e ∙ skip.hears ∙ ap (less_refused v) (sym (heard-skipped c w i is e));
        leaves = ap (ends c w) is-thin ∙ ends-skipped c w i thin e ∙ skip.leaves ∙ sym (ends-skipped c w i is e);
      }

  module _ (t : After) (e : next c w i ≡ some t) (rest : Thins v c (after t) is) where
    abbrev thin : List Item
    thin = thinned v c (after t) is

    abbrev this : Heard
    this = heard_of i t.event

    whole : less_refused v (heard c w (i ∷ is)) ≡ cond (is_refused_to v this) (less_refused v (heard c (after t) is)) (this ∷ less_refused v (heard c (after t) is))
    whole = ap (less_refused v) (heard-made c w i is t e) ∙ less_one v this (heard c (after t) is)

    -- it stays
    thins-kept : is_refused_to v this ≡ false → Thins v c w (i ∷ is)
    thins-kept h =
        let is-thin : thinned v c w (i ∷ is) ≡ i ∷ thin = thinned-made c w i is v t e ∙ rw h in
        record {
          hears = ap (heard c w) is-thin ∙ heard-made c w i thin t e ∙ ap (λ (hs : List Heard). this ∷ hs) rest.hears ∙ sym (whole ∙ rw h);
          leaves = ap (ends c w) is-thin ∙ ends-made c w i thin t e ∙ rest.leaves ∙ sym (ends-made c w i is t e);
        }

    -- it is left out, and the rest goes on from the same place
    thins-left-out : is_refused_to v this ≡ true → Thins v c w (i ∷ is)
    thins-left-out h =
        let same : after t ≡ w = refused-keeps v c w i t e h in
        let is-thin : thinned v c w (i ∷ is) ≡ thin = thinned-made c w i is v t e ∙ rw h in
        record {
          hears = ap (heard c w) is-thin ∙ ap (λ (u : World). heard c u thin) (sym same) ∙ rest.hears ∙ sym (whole ∙ rw h);
          leaves = ap (ends c w) is-thin ∙ ap (λ (u : World). ends c u thin) (sym same) ∙ rest.leaves ∙ sym (ends-made c w i is t e);
        }

thins : (v : ℕ) (c : Configuration) (items : List Item) (w : World) → Thins v c w items
thins v c [] w = thins_none v c w
thins v c (i ∷ is) w = go (next c w i) refl (thins v c is w) (λ t. thins v c is (after t))
  where
    go : (x : Option After) → next c w i ≡ x → Thins v c w is → ((t : After) → Thins v c (after t) is) → Thins v c w (i ∷ is)
    go none e skip rest = thins-skipped v c w i is e skip
    go (some t) e skip rest =
        split (is_refused_to v (heard_of i t.event)) (thins-left-out v c w i is t e (rest t)) (thins-kept v c w i is t e (rest t))

pub left-out_refusals : LeftOutRefusals
unfolding LeftOutRefusals
left-out_refusals v c w items =
    let h = thins v c items w in
    record {
      whole = seen-heard c items w;
      hears = h.hears;
      sees = seen-heard c (thinned v c w items) w ∙ ap seen_in h.hears;
      leaves = h.leaves;
    }
