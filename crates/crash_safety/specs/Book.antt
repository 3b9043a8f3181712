-- Demand 3's book: settled offsets, counts by offset and a copy of both. It is a function of what is seen: the
-- calls with their arguments and answers, and whether a power failure left a header block new.
-- SPEC.md, "Book".
use Rattle.std.specs.Prelude.{ℕ, ◌≡◌, refl, Bool, false, cond, ◌||◌, List, [], ◌∷◌, eqb}
use Rattle.types.specs.Limits.{sat32}
use Rattle.types.specs.Refusal.{refused, done}
use Rattle.consumer.specs.State.{State}
use Rattle.machine.specs.Calls.{Event, restarted}
use Rattle.crash_safety.specs.Effects.{Effect, handing, settling, requeuing, renewing, restarting, nothing, effect_of}

-- which offsets are settled, and the count of each
pub record Page : Type 0 where
  pub settled : ℕ → Bool
  pub count : ℕ → ℕ

-- the page as it stands, and the copy that a restart goes back to
pub record Book : Type 0 where
  pub page : Page
  pub copy : Page

-- nothing is settled, nothing counted
abbrev pub blank : Page
blank = record { settled = λ o. false; count = λ o. 0 }

abbrev pub empty_book : Book
empty_book = record { page = blank; copy = blank }

-- a hand-out adds 1 to the offset's count, at most to 4294967295
abbrev pub with_hand_out : Page → ℕ → Page
with_hand_out p o = record { settled = p.settled; count = λ x. cond (eqb x o) (sat32 (p.count x) 1) (p.count x) }

-- offsets that a test names are settled, which drops their counts
abbrev pub settle : Page → (ℕ → Bool) → Page
settle p named = record { settled = λ x. named x || p.settled x; count = λ x. cond (named x) 0 (p.count x) }

-- another page beside the same copy
abbrev pub with_page : Book → Page → Book
with_page b p = record { page = p; copy = b.copy }

-- a header block wholly written renews the copy
abbrev pub renewed : Book → Book
renewed b = record { page = b.page; copy = b.page }

-- a restart goes back to it
abbrev pub went_back : Book → Book
went_back b = record { page = b.copy; copy = b.copy }

-- what the book makes of an effect; all that is not named here changes nothing
abbrev pub note : Book → Effect → Book
note b (handing o h) = with_page b (with_hand_out b.page o)
note b (settling named) = with_page b (settle b.page named)
note b (requeuing o) = b
note b renewing = renewed b
note b (restarting (refused r)) = b
note b (restarting (done s)) = went_back b
note b nothing = b

-- the state that a restart answers is not looked at
pub restart-unread : (b : Book) (s t : State) → note b (effect_of (restarted (done s))) ≡ note b (effect_of (restarted (done t)))
restart-unread b s t = refl

-- the book after events
unfoldable pub book_after : Book → List Event → Book
book_after b [] = b
book_after b (e ∷ es) = book_after (note b (effect_of e)) es
