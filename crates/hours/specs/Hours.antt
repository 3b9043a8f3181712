-- Opening hours. A week has 336 half hours, 48 to a day, and each is open or not; they are counted from the Monday midnight
-- before clock 0 on, past the week's end too, so that every clock lies in one.
-- SPEC.md, "Hours".
use Rattle.std.specs.Prelude.{ℕ, zero, suc, ◌+◌, ◌*◌, ◌-◌, ◌/◌, ◌%◌, ◌^◌, min, Bool, true, false, cond, ◌||◌, List, [], ◌∷◌, leb, eqb, get_or}
use Rattle.std.proofs.Math.Option.{Option, none, some}
use Rattle.types.specs.Limits.{MAX}
use Rattle.types.specs.Refusal.{BadHours, NeverOpen}
use Rattle.types.specs.Table.{Row, ◌⇒◌}

-- a number for each weekday, Monday's first, whose bits 0 to 47 are its half hours, bit 0 the one from midnight; and the nanoseconds by
-- which clock 0 lies after Monday midnight
pub record Week : Type 0 where
  pub days : List ℕ
  pub shift : ℕ

abbrev pub week_of : List ℕ → ℕ → Week
week_of days shift = record { days = days; shift = shift }

-- nanoseconds of half an hour and of a week, and the half hours of a week
abbrev pub HALF_HOUR : ℕ
HALF_HOUR = 1800000000000

abbrev pub WEEK : ℕ
WEEK = 604800000000000

abbrev pub HALF_HOURS : ℕ
HALF_HOURS = 336

-- bit b of a number is set
abbrev pub bit : ℕ → ℕ → Bool
bit n b = eqb (n / 2 ^ b % 2) 1

-- half hour x is open
unfoldable pub open_half : List ℕ → ℕ → Bool
open_half days x = bit (get_or days (x / 48 % 7) 0) (x % 48)

-- the half hour that a clock lies in: it has its first nanosecond and not its end
abbrev pub half_at : Week → ℕ → ℕ
half_at w now = (now + w.shift) / HALF_HOUR

-- the clock at which a half hour begins
abbrev pub beginning : Week → ℕ → ℕ
beginning w x = x * HALF_HOUR - w.shift

abbrev pub open_at : Week → ℕ → Bool
open_at w now = open_half w.days (half_at w now)

-- the first open half hour from x on, of n to look at; where none of them is open, the one behind them
unfoldable pub firstOpen : List ℕ → ℕ → ℕ → ℕ
firstOpen days x zero = x
firstOpen days x (suc n) = cond (open_half days x) x (firstOpen days (suc x) n)

-- the first open clock from now on, a week looked through; MAX where it lies beyond
unfoldable pub opening : Week → ℕ → ℕ
opening w now = cond (open_at w now) now (min (beginning w (firstOpen w.days (half_at w now) HALF_HOURS)) MAX)

-- ## what a consumer may be given: without hours it is open always
abbrev pub isOpen : Option Week → ℕ → Bool
isOpen none now = true
isOpen (some w) now = open_at w now

abbrev pub next_opening : Option Week → ℕ → ℕ
next_opening none now = now
next_opening (some w) now = opening w now

-- one of the first n days has a bit above 47
abbrev pub anyAbove : List ℕ → ℕ → Bool
anyAbove days zero = false
anyAbove days (suc n) = leb (2 ^ 48) (get_or days n 0) || anyAbove days n

abbrev pub bad_hours : Option Week → Bool
bad_hours none = false
bad_hours (some w) = anyAbove w.days 7 || leb WEEK w.shift

-- no half hour of the week is open
abbrev pub never_open : Option Week → Bool
never_open none = false
never_open (some w) = eqb (firstOpen w.days 0 HALF_HOURS) HALF_HOURS

-- 33, 34
abbrev pub hours_rows : Option Week → List Row
hours_rows h = bad_hours h ⇒ BadHours ∷ never_open h ⇒ NeverOpen ∷ []
