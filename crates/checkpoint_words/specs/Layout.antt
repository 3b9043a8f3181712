-- Where each part of a writing record lies among its words: the consumer's words first, and after them what a checkpoint keeps while it
-- is written. The payload is lent beside them. The places are those of layout.rt.
-- SPEC.md, "Checkpoint".
use Rattle.std.specs.Prelude.{ℕ, ◌+◌, ◌≡◌, List, length}
use Rattle.words.specs.Columns.{word}
use Rattle.lease.specs.Layout.{Fits}
use Rattle.consumer.specs.View as consumer
use Rattle.consumer_words.specs.Layout.{consumer_in}
use Rattle.consumer_words.specs.Layout as consumers
use Rattle.checkpoint.specs.Checkpoint as checkpoint
use Rattle.checkpoint.specs.Writing as writing
use Rattle.checkpoint.specs.declared.Writing.{Writing}

-- ## places
-- the blocks that are written, and the lengths of the two snapshots in the payload
abbrev pub WRITTEN : ℕ
WRITTEN = consumers.WORDS

abbrev pub CURSOR-LEN : ℕ
CURSOR-LEN = WRITTEN + 1

abbrev pub ATTEMPT-LEN : ℕ
ATTEMPT-LEN = CURSOR-LEN + 1

-- all of them
abbrev pub WORDS : ℕ
WORDS = ATTEMPT-LEN + 1

-- the bytes of a payload
abbrev pub PAYLOAD : ℕ
PAYLOAD = 3606

-- ## the record
-- the words and a payload
abbrev pub writing_in : List ℕ → List ℕ → Writing
writing_in w p =
    record { consumer = consumer_in w; written = word WRITTEN w; payload = p; cursor_len = word CURSOR-LEN w; attempt_len = word ATTEMPT-LEN w }

-- what they show
abbrev pub view_writing : List ℕ → List ℕ → checkpoint.Writing
view_writing w p = writing.view_writing (writing_in w p)

-- ## what contracts require of words, and say of those that a call leaves
-- of those of a consumer that can be called
pub record Sound (w : List ℕ) : Type 0 where
  pub long : length w ≡ WORDS
  pub state : consumer.Sound (consumer_in w)
  pub fits : Fits (consumer_in w).table

-- of those of a record that is out, with its payload
pub record SoundWriting (w p : List ℕ) : Type 0 where
  pub long : length w ≡ WORDS
  pub writing : writing.SoundWriting (writing_in w p)
  pub fits : Fits (consumer_in w).table
