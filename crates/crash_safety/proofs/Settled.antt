-- Nothing forgotten: the book has no offset settled, on its page or on its copy, that no event settled, and every state agrees
-- with the book. Assumes nothing.
use Prim.Native.Nat.{ℕ}
use mathlib.Core.Path.{◌≡◌, refl, sym, ◌∙◌}
use mathlib.Core.Bool.{Bool, true, false, ◌||◌, or-true}
use mathlib.Core.List.{List, [], ◌∷◌}
use mathlib.Core.Option.{some, none-ne-some}
use Rattle.types.specs.Refusal.{refused, done}
use Rattle.cursor.specs.Cursor.{settled}
use Rattle.consumer.specs.State.{Configuration, State}
use Rattle.machine.specs.Calls.{Event}
use Rattle.machine.specs.Transitions.{Phase, idle, writing, off}
use Rattle.crash_safety.specs.Effects.{Effect, handing, settling, requeuing, renewing, restarting, nothing, effect_of}
use Rattle.crash_safety.specs.Book.{Book, empty_book, note, book_after}
use Rattle.crash_safety.specs.Runs.{world, fresh_world, run, ends}
use Rattle.crash_safety.specs.Settled.{settles, settled_in, state_in, NothingForgotten}
use Rattle.crash_safety.proofs.Law.{Ledger}
use Rattle.crash_safety.proofs.Invariant.{Inv}
use Rattle.crash_safety.proofs.Reached.{reached}

-- ## the book, for one offset
module _ (o : ℕ) where
  -- what is settled in the book was seen to be
  pub record Seen (seen : Bool) (b : Book) : Type 0 where
    pub page : b.page.settled o ≡ true → seen ≡ true
    pub copy : b.copy.settled o ≡ true → seen ≡ true

  later : (p q : Bool) → q ≡ true → (p || q) ≡ true
  later p q e = rw e (or-true p)

  either : (p q r : Bool) → (q ≡ true → r ≡ true) → (p || q) ≡ true → (p || r) ≡ true
  either true q r f e = refl
  either false q r f e = f e

  one : (seen : Bool) (b : Book) (x : Effect) → Seen seen b → Seen (settles x o || seen) (note b x)
  one seen b (handing x h) k = record { page = k.page; copy = k.copy }
  one seen b (settling named) k =
      record { page = either (named o) (b.page.settled o) seen k.page; copy = λ e. later (named o) seen (k.copy e) }
  one seen b (requeuing x) k = k
  one seen b renewing k = record { page = k.page; copy = k.page }
  one seen b (restarting (refused r)) k = k
  one seen b (restarting (done s)) k = record { page = k.copy; copy = k.copy }
  one seen b nothing k = k

  pub all : (es : List Event) (seen : Bool) (b : Book) → Seen seen b → (book_after b es).page.settled o ≡ true → (seen || settled_in es o) ≡ true
  unfolding book_after settled_in
  all [] seen b k e = rw (k.page e)
  all (e ∷ es) seen b k h =
      let x : Effect = effect_of e in
      moved (settles x o) seen (settled_in es o) (all es (settles x o || seen) (note b x) (one seen b x k) h)
    where
      moved : (p q r : Bool) → (p || q || r) ≡ true → (q || (p || r)) ≡ true
      moved true q r h = or-true q
      moved false q r h = h

-- ## every list
state-settled : (c : Configuration) (n : ℕ) (l : Ledger) (p : Phase) (a : List ℕ) (s : State) → Inv c n l (world p a) → state_in p ≡ some s
    → (o : ℕ) → settled s.cursor o ≡ l.book.page.settled o
state-settled c n l (idle x) a s inv e o = let q : x ≡ s = cc in rw (← q) (inv.callable.agrees.settles o)
state-settled c n l (writing w) a s inv e o = let q : w.state ≡ s = cc in rw (← q) (inv.callable.0.agrees.settles o)
state-settled c n l off a s inv e o = absurd (none-ne-some s e)

pub nothing_forgotten : NothingForgotten
unfolding NothingForgotten
nothing_forgotten c n s items f e left here o t =
    let r = reached c n s items f e in
    let w = ends c (fresh_world s n) items in
    all o (run c (fresh_world s n) items) false empty_book (record { page = λ q. q; copy = λ q. q })
    (rw (← r.books) (sym (state-settled c n r.ledger w.phase w.journal left r.inv here o) ∙ t))
