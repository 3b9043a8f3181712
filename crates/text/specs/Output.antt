-- A buffer of bytes that are to be written out, filled up to a place, and what is put behind them: pieces of text, one behind the
-- other.
-- SPEC.md, "Programs".
use Rattle.std.specs.Prelude.{ℕ, zero, suc, ◌/◌, ◌%◌, ◌≡◌, cond, List, [], ◌∷◌, ◌++◌, ltb}
use Prim.Native.Char.{code}
use Prim.Native.String.{String, [] as end, ◌∷◌ as ◌then◌}
use Rattle.io.specs.Digits.{hex_digit_ascii}
use Rattle.types.specs.Refusal.{Result, refused, done}
use Rattle.types.specs.Table.{Answer}
use Rattle.raw.specs.Bytes.{write}
use Rattle.text.specs.declared.output.Output.{Output}

-- ## pieces of text
-- the bytes of a text
abbrev pub ascii : String → List ℕ
ascii end = []
ascii (c then s) = code c ∷ ascii s

-- the decimal digits of a number, as few as hold it; no number has more than its successor says
unfoldable pub decimal_in : ℕ → ℕ → List ℕ
decimal_in zero n = []
decimal_in (suc most) n = cond (ltb n 10) (hex_digit_ascii n ∷ []) (decimal_in most (n / 10) ++ (hex_digit_ascii (n % 10) ∷ []))

abbrev pub decimal : ℕ → List ℕ
decimal n = decimal_in (suc n) n

-- the two hexadecimal digits of a byte
abbrev pub hexadecimal : ℕ → List ℕ
hexadecimal byte = hex_digit_ascii (byte / 16) ∷ hex_digit_ascii (byte % 16) ∷ []

-- the pieces of each element of a list, by its place, counted from i, and its value
abbrev pub each : {A : Type 0} → (ℕ → A → List (List ℕ)) → ℕ → List A → List (List ℕ)
each f i [] = []
each f i (x ∷ xs) = f i x ++ each f (suc i) xs

-- ## the buffer
-- a place in a buffer
pub record Buffered : Type 0 where
  pub next : ℕ
  pub bytes : List ℕ

abbrev pub buffered : ℕ → List ℕ → Buffered
buffered n bs = record { next = n; bytes = bs }

-- a write that had room, or else another
abbrev pub or_else_at : Result ℕ → List ℕ → Buffered → Buffered
or_else_at (refused r) bs b = b
or_else_at (done n) bs b = buffered n bs

abbrev pub or_else : Answer ℕ (List ℕ) → Buffered → Buffered
or_else a b = or_else_at a.outcome a.state b

-- bytes behind those that are there; else at the start, once those are written out; else at once, which leaves nothing
abbrev pub put : ℕ → List ℕ → List ℕ → Buffered
put at bs out = or_else (write at bs out) (or_else (write 0 bs out) (buffered 0 out))

-- pieces one behind the other
unfoldable pub puts : List (List ℕ) → Buffered → Buffered
puts [] b = b
puts (p ∷ ps) b = puts ps (put b.next p b.bytes)

-- what is gathered for output
abbrev pub gathered : Output → Buffered
gathered o = buffered o.at o.bytes.now

-- what is gathered goes to the same output, and is gathered in the same lent buffer
pub record Same (before after : Output) : Type 0 where
  pub stdout : after.stdout ≡ before.stdout
  pub lent : after.bytes.ghost_name ≡ before.bytes.ghost_name

-- what is put behind what was gathered before
pub record Says (pieces : List (List ℕ)) (before after : Output) : Type 0 where
  pub is : gathered after ≡ puts pieces (gathered before)
  pub same : Same before after
