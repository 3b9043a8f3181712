-- Commits over jobs that are held: what was answered before is answered as before; no call is answered 30; the tokens that such
-- a commit takes away are refused 24 ever after, through restarts too; and a restart that goes back over it finds its jobs as the last
-- checkpoint before it had them.
-- SPEC.md, "Commit".
use Rattle.std.specs.Prelude.{ℕ, ◌<◌, ◌≡◌, Bool, true, false, cond, List, [], ◌∷◌, leb}
use Rattle.std.proofs.Math.Option.{Option, none, some}
use Rattle.types.specs.Refusal.{Refusal, refused, done, Fenced, Held, numbered}
use Rattle.types.specs.Table.{Row, ◌⇒◌, Answer, answer, guarded}
use Rattle.types.specs.Keyed.{any_below, drop_below}
use Rattle.cursor.specs.Cursor.{commit_up_to}
use Rattle.lease.specs.State.{with_carried}
use Rattle.consumer.specs.State.{Configuration, State, with_both}
use Rattle.consumer.specs.Rights.{committing}
use Rattle.consumer.specs.Calls as consumer
use Rattle.consumer.specs.Calls.{call_rows, with_committed}
use Rattle.consumer.specs.Valid.{Fits}
use Rattle.starts.specs.Restart.{start}
use Rattle.machine.specs.Calls.{Ask, commit, ask, restart, Event, committed}
use Rattle.machine.specs.Transitions.{idle, After}
use Rattle.crash_safety.specs.Effects.{effect_of}
use Rattle.crash_safety.specs.Book.{empty_book, book_after}
use Rattle.crash_safety.specs.Demand3.{Right}
use Rattle.crash_safety.specs.Runs.{Item, call, World, next, after, run, ends, fresh_world}
use Rattle.crash_safety.specs.Workers.{operation_of, rows_for, refusal_in, refusal_of, token_in, or_else}
use Rattle.crash_safety.specs.Tokens.{no_tokens, tokens_in}
use Rattle.crash_safety.specs.Halves.{headers_in}

-- ## the commit from before request l, for the comparison alone
-- 30
abbrev pub held_table : State → ℕ → List Row
held_table s bound = any_below bound s.table.leases ⇒ Held ∷ []

-- everything below the bound is settled, and no count stays there
abbrev pub counts_dropped : State → ℕ → State
counts_dropped s bound =
    with_both s (commit_up_to s.cursor bound).state (with_carried s.table (drop_below bound s.table.carried))

unfoldable pub commit_before : State → ℕ → ℕ → Answer Bool State
commit_before s w bound =
    guarded (call_rows s w committing) s
    (cond (leb bound s.cursor.committed) (answer (done false) s)
    (guarded (held_table s bound) s (answer (done true) (counts_dropped s bound))))

-- answer and state are those of before, but where that was 30: now all below the bound is settled, its leases and counts dropped
pub record AsBefore (s : State) (w bound : ℕ) : Type 0 where
  pub same : ((commit_before s w bound).outcome ≡ refused Held → ⊥) → consumer.commit s w bound ≡ commit_before s w bound
  pub instead : (commit_before s w bound).outcome ≡ refused Held → consumer.commit s w bound ≡ answer (done true) (with_committed s bound)

-- commits answer as before request l, but for 30. On every state
unfoldable pub CommitsAsBefore : Type 0
CommitsAsBefore = (s : State) (w bound : ℕ) → AsBefore s w bound

-- ## no 30
abbrev pub Not30 : Option Refusal → Type 0
Not30 none = Unit {0}
Not30 (some r) = (numbered r).number ≡ 30 → ⊥

-- no start, and no call on whatever state, record and area: a call that can be made is not answered 30
pub record Never30 (c : Configuration) : Type 0 where
  pub starts : (size : ℕ) → Not30 (refusal_in (start c size))
  pub calls : (w : World) (i : Item) (t : After) → next c w i ≡ some t → Not30 (refusal_of t.event)

-- no start and no call is answered 30
unfoldable pub NeverHeld : Type 0
NeverHeld = (c : Configuration) → Never30 c

-- ## tokens
-- whatever comes in between, every call with the token (o, g) is refused 24, where 38 and 39 don't stand in front
abbrev pub FencedAfter : Configuration → World → List Item → ℕ → ℕ → Type 0
FencedAfter c w between o g =
    (v : ℕ) (q : Ask) → token_in q ≡ some (o, g) → (u : After) → next c (ends c w between) (call (ask v q)) ≡ some u
    → refusal_of u.event ≡ or_else (rows_for c v (operation_of q)) Fenced

-- the tokens of offsets below the bound that a commit takes away, on a state that a list has left
pub record TakenAway (c : Configuration) (es : List Event) (s : State) (bound : ℕ) (w : World) (between : List Item) : Type 0 where
  -- those that a hand-out gave, the holders' among them
  pub given : (o g : ℕ) → o < bound → (tokens_in no_tokens es).given o g ≡ true → FencedAfter c w between o g
  -- all under a generation that was used up, be it that of a nack, which was handed to nobody
  pub used : (o g : ℕ) → o < bound → g < s.table.next_generation → FencedAfter c w between o g

-- a commit fences off every earlier token below its bound. A list, a commit that is not refused, and whatever comes
-- then
unfoldable pub FencedFromThenOn : Type 0
FencedFromThenOn =
    (c : Configuration) (size : ℕ) (s : State) (before between : List Item) → Fits c.settings → start c size ≡ done s
    → (here : State) → (ends c (fresh_world s size) before).phase ≡ idle here
    → (v bound : ℕ) (moved : Bool) (t : After) → next c (ends c (fresh_world s size) before) (call (ask v (commit bound))) ≡ some t
    → t.event ≡ committed bound (done moved)
    → TakenAway c (run c (fresh_world s size) before) here bound (after t) between

-- ## a restart that goes back over the commit
-- a restart over a commit finds the checkpoint before it. No header block was wholly written since: it is not refused,
-- and finds the settled offsets and the counts of the book's copy from before the commit
unfoldable pub OpenAgain : Type 0
OpenAgain =
    (c : Configuration) (size : ℕ) (s : State) (before between : List Item) → Fits c.settings → start c size ≡ done s
    → (v bound : ℕ) (moved : Bool) (t : After) → next c (ends c (fresh_world s size) before) (call (ask v (commit bound))) ≡ some t
    → t.event ≡ committed bound (done moved)
    → headers_in (run c (after t) between) ≡ 0
    → (u : After) → next c (ends c (after t) between) (call restart) ≡ some u
    → Right (book_after empty_book (run c (fresh_world s size) before)).copy (effect_of u.event)
