-- No stale token: what went wrong in the clinics can't. A token that a hand-out gave is refused 24 once its offset was handed out
-- again, nacked, settled, or a restart came; and one from before a restart is refused 24 ever after. (38 and 39 stand in front: a worker
-- who may not make the call is told that.) A nack gives its lease a generation that nobody is handed: the statement is about tokens that
-- were given, and the lease's worker, if he guesses such a generation, is accepted, as in the Rust. And the other way: until then the
-- token is accepted from the worker who claimed it, and refused 40 to every other.
-- SPEC.md, "Tokens".
use Rattle.std.specs.Prelude.{ℕ, ◌<◌, ◌≡◌, Bool, true, false, cond, ◌&&◌, ◌||◌, List, [], ◌∷◌, eqb}
use Rattle.std.proofs.Math.Option.{Option, none, some}
use Rattle.types.specs.Refusal.{Refusal, refused, done, Fenced, ForeignToken, numbered}
use Rattle.types.specs.Table.{Row}
use Rattle.types.specs.Lists.{times}
use Rattle.consumer.specs.State.{Configuration, State}
use Rattle.consumer.specs.Calls.{HandOut}
use Rattle.consumer.specs.Valid.{Fits}
use Rattle.starts.specs.Restart.{start}
use Rattle.machine.specs.Calls.{Ask, claim, ack, term, nack, progress, commit, look, ask, Event, claimed}
use Rattle.machine.specs.Transitions.{After}
use Rattle.crash_safety.specs.Effects.{Effect, handing, settling, requeuing, renewing, restarting, nothing, only, effect_of}
use Rattle.crash_safety.specs.Runs.{Item, call, next, after, run, ends, fresh_world}
use Rattle.crash_safety.specs.Workers.{operation_of, rows_for, May, refusal_of, token_in, or_else}

-- what the events tell of tokens, each an offset and a generation
pub record Tokens : Type 0 where
  -- a hand-out gave it
  pub given : ℕ → ℕ → Bool
  -- it was given before the last restart
  pub lost : ℕ → ℕ → Bool
  -- the generation of the offset's latest hand-out, unless the offset was nacked or settled or a restart came since
  pub held : ℕ → Option ℕ

abbrev pub no_tokens : Tokens
no_tokens = record { given = λ o g. false; lost = λ o g. false; held = λ o. none }

-- a hand-out gives its token, under which its offset is held
abbrev pub gives_out : Tokens → HandOut → Tokens
gives_out t h =
    record {
      given = λ o g. (eqb o h.offset && eqb g h.generation) || t.given o g;
      lost = t.lost;
      held = λ o. cond (eqb o h.offset) (some h.generation) (t.held o);
    }

-- the offsets that a test names are given up
abbrev pub givesUp : Tokens → (ℕ → Bool) → Tokens
givesUp t named = record { given = t.given; lost = t.lost; held = λ x. cond (named x) none (t.held x) }

-- a restart
abbrev pub loses_all : Tokens → Tokens
loses_all t = record { given = t.given; lost = t.given; held = λ x. none }

abbrev pub tokens_after : Tokens → Effect → Tokens
tokens_after t (handing o h) = gives_out t h
tokens_after t (settling named) = givesUp t named
tokens_after t (requeuing o) = givesUp t (only o)
tokens_after t renewing = t
tokens_after t (restarting (refused r)) = t
tokens_after t (restarting (done s)) = loses_all t
tokens_after t nothing = t

-- what events tell
unfoldable pub tokens_in : Tokens → List Event → Tokens
tokens_in t [] = t
tokens_in t (e ∷ es) = tokens_in (tokens_after t (effect_of e)) es

-- a call with the token (o, g): the refusal that it is answered, if any, where these rows stand in front of 24
pub record StaleRefused (t : Tokens) (o g : ℕ) (rows : List Row) (r : Option Refusal) : Type 0 where
  -- a token that was given and is not the one that its offset is held under
  pub stale : t.given o g ≡ true → (t.held o ≡ some g → ⊥) → r ≡ or_else rows Fenced
  pub lost : t.lost o g ≡ true → r ≡ or_else rows Fenced

-- a stale token is refused 24. Every call after every list, from every fresh consumer on a zeroed journal
unfoldable pub NoStaleToken : Type 0
NoStaleToken =
    (c : Configuration) (size : ℕ) (s : State) (items : List Item) → Fits c.settings → start c size ≡ done s
    → (w : ℕ) (q : Ask) (o g : ℕ) → token_in q ≡ some (o, g)
    → (t : After) → next c (ends c (fresh_world s size) items) (call (ask w q)) ≡ some t
    → StaleRefused (tokens_in no_tokens (run c (fresh_world s size) items)) o g (rows_for c w (operation_of q)) (refusal_of t.event)

-- ## both ways
-- an effect that takes a token of offset o away: the offset is handed out again, settled or nacked, or a restart comes
abbrev pub given_up_by : ℕ → Effect → Bool
given_up_by o (handing x h) = eqb o h.offset
given_up_by o (settling named) = named o
given_up_by o (requeuing x) = eqb o x
given_up_by o renewing = false
given_up_by o (restarting (refused r)) = false
given_up_by o (restarting (done s)) = true
given_up_by o nothing = false

unfoldable pub given_up_in : ℕ → List Event → Bool
given_up_in o [] = false
given_up_in o (e ∷ es) = given_up_by o (effect_of e) || given_up_in o es

-- the number of a refusal; 0 where there is none
abbrev pub number_of : Option Refusal → ℕ
number_of none = 0
number_of (some r) = (numbered r).number

-- what a call with a good token may be answered: not refused, or 29; 25 or 26; 28
abbrev pub beyond_token : Ask → List ℕ
beyond_token (claim o now) = []
beyond_token (ack o g) = 0 ∷ 29 ∷ []
beyond_token (term o g) = 0 ∷ 29 ∷ []
beyond_token (nack o g now d) = 0 ∷ 25 ∷ 26 ∷ []
beyond_token (progress o g now) = 0 ∷ 28 ∷ []
beyond_token (commit bound) = []
beyond_token (look q) = []

-- a call of worker w with a token of worker v, which was given up or is still held
pub record AnsweredByToken (c : Configuration) (v w : ℕ) (q : Ask) (up : Bool) (r : Option Refusal) : Type 0 where
  pub stale : up ≡ true → r ≡ or_else (rows_for c w (operation_of q)) Fenced
  pub others : up ≡ false → (w ≡ v → ⊥) → r ≡ or_else (rows_for c w (operation_of q)) ForeignToken
  pub own : up ≡ false → w ≡ v → May c w (operation_of q) → 0 < times (number_of r) (beyond_token q)

-- a token is good for its worker just until it is given up. A list, a claim of worker v that hands a token out,
-- whatever comes then, and a call with that token
unfoldable pub TokenBothWays : Type 0
TokenBothWays =
    (c : Configuration) (size : ℕ) (s : State) (before between : List Item) → Fits c.settings → start c size ≡ done s
    → (v o now : ℕ) (h : HandOut) (t : After) → next c (ends c (fresh_world s size) before) (call (ask v (claim o now))) ≡ some t
    → t.event ≡ claimed o now (done h)
    → (w : ℕ) (q : Ask) → token_in q ≡ some (h.offset, h.generation)
    → (u : After) → next c (ends c (after t) between) (call (ask w q)) ≡ some u
    → AnsweredByToken c v w q (given_up_in h.offset (run c (after t) between)) (refusal_of u.event)
