-- What the calls on a cursor's words promise: the records of Answers.antt, of words.
-- SPEC.md, "Cursor".
use Rattle.std.specs.Prelude.{ℕ, ◌≡◌, Bool, true, false, List}
use Rattle.std.proofs.Math.Option.{Option, none, some}
use Rattle.types.specs.Refusal.{Refusal, Result, refused, done}
use Rattle.types.specs.Table.{Answer, answer, unless}
use Rattle.cursor.specs.Cursor.{Cursor}
use Rattle.cursor.specs.Layout.{view, Sound}

-- where nothing is new the very words stay
abbrev pub KeptUnlessNew : Result Bool → List ℕ → List ℕ → Type 0
KeptUnlessNew (done true) before after = Unit {0}
KeptUnlessNew (done false) before after = after ≡ before
KeptUnlessNew (refused r) before after = after ≡ before

pub record Updated (outcome : Result Bool) (before after : List ℕ) (right : Answer Bool Cursor) : Type 0 where
  pub is : answer outcome (view after) ≡ right
  pub sound : Sound after
  pub kept : KeptUnlessNew outcome before after

-- a call that always takes effect
pub record Becomes (after : List ℕ) (right : Cursor) : Type 0 where
  pub is : view after ≡ right
  pub sound : Sound after

-- one that makes a cursor of any words, which are sound then, or refuses and leaves the very words
abbrev pub SoundOrKept : Option Refusal → List ℕ → List ℕ → Type 0
SoundOrKept none before after = Sound after
SoundOrKept (some r) before after = after ≡ before

pub record Makes (fault : Option Refusal) (before after : List ℕ) (right : Result Cursor) : Type 0 where
  pub is : unless fault (done (view after)) ≡ right
  pub left : SoundOrKept fault before after
