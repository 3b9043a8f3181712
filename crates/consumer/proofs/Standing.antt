-- What is shown of an offset: what each case of it owes its contract, and what a worker can't tell apart.
-- Assumes nothing.
use Prim.Native.Nat.{ℕ, zero, suc, ◌≤◌, ◌<◌}
use mathlib.Core.Path.{◌≡◌, refl, sym, ap, ◌∙◌}
use mathlib.Core.Bool.{Bool, true, false, not, cond, ◌&&◌}
use mathlib.Core.List.{List, [], ◌∷◌}
use mathlib.Core.Option.{Option, none, some}
use lib.Dec.{leb}
use lib.ListN.{get_or}
use borrow.Author.Tests.{lt-ltb, le-ltb}
use Rattle.std.specs.Prelude.{Some, None}
use Rattle.std.specs.Prelude as std
use Rattle.types.specs.Limits.{WORKERS}
use Rattle.types.specs.Refusal.{Refusal, UnknownWorker, NotPermitted, done}
use Rattle.types.specs.Table.{◌⇒◌, first, checked}
use Rattle.types.specs.Keyed.{lookup}
use Rattle.cursor.specs.Cursor.{settled}
use Rattle.lease.specs.Operations.{lease_of, is_none}
use Rattle.lease.specs.Lookup.{lease_in}
use Rattle.lease.specs.declared.Lease.{Lease}
use Rattle.consumer.specs.State.{State, count_or0}
use Rattle.consumer.specs.Rights.{looking, bit_of, SUPERVISOR, permits, worker_rows}
use Rattle.consumer.specs.Calls.{call_rows}
use Rattle.consumer.specs.Questions.{ViewOf, look}
use Rattle.consumer.specs.Standing.{Settled, Held, Waiting, View, bare, unsettled_as, in_full, supervises, view_of, standing_number, view_values, Alike}
use Rattle.consumer.specs.View.{standing_in, view_in}
use Rattle.consumer.specs.declared.views.Standing as code-standing
use Rattle.consumer.specs.declared.views.Standing.TheVariants as standings
use Rattle.consumer.specs.declared.views.View as code
use Rattle.consumer.specs.declared.views.View.TheVariants as views

-- ## the mark
-- a supervisor is one whom the rows of a worker let through with the mark for the right
marked : (a p : Bool) → (not a && p) ≡ is_none (first (a ⇒ UnknownWorker ∷ not p ⇒ NotPermitted ∷ []))
marked true p = refl
marked false true = refl
marked false false = refl

pub supervises-by : (rights : List ℕ) (w : ℕ) {r : Option Refusal} → r ≡ first (worker_rows rights w SUPERVISOR) → supervises rights w ≡ is_none r
supervises-by rights w e = marked (leb WORKERS w) (permits rights w SUPERVISOR) ∙ ap is_none (sym e)

-- ## the standing by the lease that was found
module _ (x : std.Option Lease) (l : Lease) (now : ℕ) (e : x ≡ Some l) where
  pub before-deadline : now < l.deadline → Held ≡ unsettled_as (lease_in x) now
  before-deadline h = rw (e, lt-ltb now l.deadline h)

  pub from-deadline : l.deadline ≤ now → Waiting ≡ unsettled_as (lease_in x) now
  from-deadline h = rw (e, le-ltb now l.deadline h)

  pub is-leased : (y : code-standing.Standing) (carried : Option ℕ) → standing_in y ≡ unsettled_as (lease_in x) now
      → view_in (views.Leased y (record { attempts = l.deliveries; generation = l.generation; deadline = l.deadline; holder = l.worker })) ≡ in_full (lease_in x) carried now
  is-leased y carried h = rw (h, e)

pub is_unleased : (x : std.Option Lease) (now : ℕ) → x ≡ None → {carried : Option ℕ} (n : Option ℕ) → carried ≡ n
    → view_in (views.Unleased (count_or0 n)) ≡ in_full (lease_in x) carried now
is_unleased x now e n h = rw (e, h)

-- ## the cases
module _ (s : State) (w o now : ℕ) where
  pub is-settled : settled s.cursor o ≡ true → bare Settled ≡ view_of s w o now
  is-settled e = rw e

  module _ (unsettled : settled s.cursor o ≡ false) where
    pub is_plain : supervises s.settings.rights w ≡ false → bare (unsettled_as (lease_of s.table o) now) ≡ view_of s w o now
    is_plain m = rw (unsettled, m)

    pub is-full : supervises s.settings.rights w ≡ true → in_full (lease_of s.table o) (lookup o s.table.carried) now ≡ view_of s w o now
    is-full m = rw (unsettled, m)

-- ## theorems
-- of a settled offset nothing but that is shown, whoever looks
pub settled-bare : (s : State) (w o now : ℕ) → settled s.cursor o ≡ true → view_of s w o now ≡ bare Settled
settled-bare s w o now e = sym (is-settled s w o now e)

-- a worker who is no supervisor is shown the same view of every offset by two consumers with equal rights, equal settled offsets and the
-- same offsets held at that clock, whatever else they hold
pub same_view : (now : ℕ) (s t : State) → Alike now s t → (w : ℕ) → supervises s.settings.rights w ≡ false
    → (o : ℕ) → view_of s w o now ≡ view_of t w o now
same_view now s t a w m o =
    let n : supervises t.settings.rights w ≡ false = ap (λ (r : List ℕ). supervises r w) (sym a.rights) ∙ m in
    rw (m, n, a.settled o, a.held o)

-- and so the question has the same answer, refusals included
pub same_answer : (now : ℕ) (s t : State) → Alike now s t → (w : ℕ) → supervises s.settings.rights w ≡ false
    → (o : ℕ) → look s w (ViewOf o now) ≡ look t w (ViewOf o now)
same_answer now s t a w m o =
    ap (λ (r : List ℕ). checked (worker_rows r w (bit_of looking)) (done (view_values (view_of s w o now)))) a.rights
    ∙ ap (λ (v : View). checked (call_rows t w looking) (done (view_values v))) (same_view now s t a w m o)

-- ## the very answer of the code
-- the numbers of a view tell which answer of the code it was
abbrev standing_from : ℕ → code-standing.Standing
standing_from zero = standings.Settled
standing_from (suc zero) = standings.Held
standing_from (suc (suc n)) = standings.Waiting

standing-told : (x : code-standing.Standing) → standing_from (standing_number (standing_in x)) ≡ x
standing-told standings.Settled = refl
standing-told standings.Held = refl
standing-told standings.Waiting = refl

abbrev pub view_from : List ℕ → code.View
view_from [] = views.Plain standings.Settled
view_from (x ∷ []) = views.Plain (standing_from x)
view_from (x ∷ n ∷ []) = views.Unleased n
view_from (x ∷ n ∷ g ∷ l) =
    views.Leased (standing_from x) (record { attempts = n; generation = record { 0 = g }; deadline = get_or l 0 0; holder = get_or l 1 0 })

pub values-tell : (r : code.View) → view_from (view_values (view_in r)) ≡ r
values-tell (views.Plain x) = ap views.Plain (standing-told x)
values-tell (views.Unleased n) = refl
values-tell (views.Leased x l) = ap (λ (y : code-standing.Standing). views.Leased y l) (standing-told x)

pub one-view : (r q : code.View) → view_in r ≡ view_in q → r ≡ q
one-view r q e = sym (values-tell r) ∙ ap (λ (v : View). view_from (view_values v)) e ∙ values-tell q

-- what the code answers such a worker for the two is one and the same
pub same-shown : (now : ℕ) (s t : State) → Alike now s t → (w : ℕ) → supervises s.settings.rights w ≡ false → (o : ℕ) (r q : code.View)
    → view_in r ≡ view_of s w o now → view_in q ≡ view_of t w o now → r ≡ q
same-shown now s t a w m o r q e f = one-view r q (e ∙ same_view now s t a w m o ∙ sym f)
