-- What a list of operations leaves in the lent list: how many numbers are written, and what stays. Which numbers these are is compared
-- with the original's answers, and not said here.
-- SPEC.md, "Programs".
use Rattle.std.specs.Prelude.{ℕ, ◌+◌, ◌*◌, ◌/◌, min, ◌≡◌, List, ◌++◌, length, set, take, drop}

-- an answer of five numbers stored from a place on, and a digest behind them
abbrev pub six_at : ℕ → (answer : List ℕ) → (digest : ℕ) → List ℕ → List ℕ
six_at at answer digest out = set (take at out ++ answer ++ drop (at + 5) out) (at + 5) digest

-- six numbers for each operation of five, as far as both lists go
abbrev pub written : List ℕ → List ℕ → ℕ
written ops out = 6 * min (length ops / 5) (length out / 6)

pub record RanIs (ops out : List ℕ) (r : ℕ) (out' : List ℕ) : Type 0 where
  pub count : r ≡ written ops out
  pub rest : drop r out' ≡ drop r out
