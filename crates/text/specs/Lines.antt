-- Lines in a buffer of which a part is still to be taken.
-- SPEC.md, "Programs".
use Rattle.std.specs.Prelude.{ℕ, ◌+◌, ◌-◌, ◌≤◌, ◌≡◌, Bool, true, false, cond, ◌||◌, Option, Some, None, List, eqb, ltb, length, take, drop, get_or}
use Rattle.text.specs.Words.{length_to}
use Rattle.text.specs.declared.lines.Input.{Input}
use Rattle.text.specs.declared.lines.Found.{Found}
use Rattle.text.specs.declared.lines.Found.TheVariants.{Line, TooLong, More, End}
use Rattle.text.specs.declared.lines.Taken.{Taken}

abbrev pub NEWLINE : ℕ
NEWLINE = 10

abbrev pub RETURN : ℕ
RETURN = 13

-- what is still to be taken lies in a buffer of n bytes
pub record Within (n : ℕ) (i : Input) : Type 0 where
  pub ordered : i.from ≤ i.to
  pub inside : i.to ≤ n

abbrev pub nothing : Input
nothing = record { from = 0; to = 0; long = None; ended = false }

abbrev pub unread : List ℕ → Input → List ℕ
unread buf i = take (i.to - i.from) (drop i.from buf)

-- the line that ends at a place; one that was too long is told by its first byte
abbrev pub line_in : Option ℕ → ℕ → ℕ → Found
line_in (Some first) from to = TooLong first
line_in None from to = Line from to

abbrev pub line_at : Input → ℕ → Found
line_at i to = line_in i.long i.from to

-- what is left from a place on
abbrev pub after : Input → ℕ → Input
after i from = record { from = from; to = i.to; long = None; ended = i.ended }

abbrev pub take_away : Found → Input → Taken
take_away f i = record { found = f; input = i }

-- the line so far is too long
abbrev pub is_long : Option ℕ → Bool
is_long (Some first) = true
is_long None = false

-- what no line end closes is a line, where nothing comes behind it
abbrev pub last_line : Input → Taken
last_line i =
    cond (ltb i.from i.to || is_long i.long) (take_away (line_at i i.to) (after i i.to)) (take_away End i)

-- nothing of a line that is too long
abbrev pub passing : Input → ℕ → Input
passing i first = record { from = 0; to = 0; long = Some first; ended = i.ended }

-- what more is read behind, in a buffer of so many bytes; `first` is the line's first byte
abbrev pub with_more_to : Option ℕ → Input → ℕ → ℕ → Input
with_more_to (Some begun) i len first = passing i begun
with_more_to None i len first = cond (ltb (i.to - i.from) len) i (passing i first)

abbrev pub for_more : Input → ℕ → ℕ → Input
for_more i len first = with_more_to i.long i len first

-- the next line
abbrev pub taken : List ℕ → Input → Taken
taken buf i =
    cond (ltb (length_to NEWLINE (unread buf i)) (i.to - i.from))
    (take_away (line_at i (i.from + length_to NEWLINE (unread buf i))) (after i (i.from + length_to NEWLINE (unread buf i) + 1)))
    (cond i.ended (last_line i) (take_away More (for_more i (length buf) (get_or buf i.from 0))))

-- a line lies in n bytes
abbrev pub Lies : ℕ → Found → Type 0
Lies n (Line from to) = (from ≤ to) × (to ≤ n)
Lies n (TooLong first) = Unit {0}
Lies n More = Unit {0}
Lies n End = Unit {0}

-- what taking a line answers
pub record Took (buf : List ℕ) (i : Input) (r : Taken) : Type 0 where
  pub is : r ≡ taken buf i
  pub lies : Lies (length buf) r.found
  pub left : Within (length buf) r.input

-- how much of a line stands before the carriage return that may end it
abbrev pub without_return : List ℕ → ℕ
without_return line =
    cond (eqb (length line) 0) 0
    (cond (eqb (get_or line (length line - 1) 0) RETURN) (length line - 1) (length line))

pub record Shortened (line : List ℕ) (r : ℕ) : Type 0 where
  pub is : r ≡ without_return line
  pub inside : r ≤ length line

-- what is still to be taken with bytes behind it that came; where none came, nothing comes any more
abbrev pub with_more : Input → ℕ → Input
with_more i came = record { from = 0; to = (i.to - i.from) + came; long = i.long; ended = eqb came 0 }

-- what reading more answers, and the buffer then: what was still to be taken comes first, and what came follows
pub record Refilled (before : List ℕ) (i : Input) (r : Input) (buf : List ℕ) : Type 0 where
  pub came : ℕ
  pub is : r ≡ with_more i came
  pub kept : take (length (unread before i)) (unread buf r) ≡ unread before i
  pub within : Within (length before) r
