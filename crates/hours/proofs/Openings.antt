-- The next opening: it is at or after the clock (`opening-after`), no clock before it is open (`opening-least`), it is open unless it is
-- given as MAX (`opening_open`), and it is within a week (`opening-soon`). A week that 33 and 34 let through has an open half hour
-- (`accepted-opens`), and so an opening from every clock on (`always-opens`). Assumes nothing.
use Prim.Native.Nat.{ℕ, ◌+◌, ◌*◌, ◌-◌, ◌/◌, ◌%◌, ◌≤◌, ◌<◌, min}
use native.Mathlib.Omega.{arith}
use mathlib.Core.Path.{◌≡◌, sym, ap, ◌∙◌}
use mathlib.Core.Bool.{true, false, true≢false}
use mathlib.Core.List.{List}
use mathlib.Core.Option.{Option, none, some}
use lib.Dec.{ltb}
use borrow.Author.Tests.{ltb-true, ltb-false, eqb-false}
use Rattle.types.specs.Limits.{MAX, sat64}
use Rattle.types.specs.Table.{Passed}
use Rattle.types.proofs.Cases.{split}
use Rattle.hours.specs.Hours.{Week, HALF_HOUR, WEEK, HALF_HOURS, open_half, half_at, beginning, open_at, firstOpen, opening, next_opening, hours_rows}
use Rattle.hours.specs.View.{closed_until}
use Rattle.hours.proofs.Search.{first-from, first-within, first-least, first_open_lem, first-is, open_again, first-again}

-- some half hour of the week is open
pub record Opens (w : Week) : Type 0 where
  pub half : ℕ
  pub within : half < HALF_HOURS
  pub is_open : open_half w.days half ≡ true

pub accepted-opens : (w : Week) → Passed (hours_rows (some w)) → Opens w
accepted-opens w p =
    let f : ℕ = firstOpen w.days 0 336 in
    let few = first-within w.days 336 0 in
    let less : firstOpen w.days 0 336 < 336 = omega (arith, eqb-false (firstOpen w.days 0 336) 336 p.1.0) in
    record { half = firstOpen w.days 0 336; within = less; is_open = first_open_lem w.days 336 0 less }

module _ (w : Week) (now : ℕ) where
  abbrev found : ℕ
  found = firstOpen w.days (half_at w now) HALF_HOURS

  pub opening-now : open_at w now ≡ true → opening w now ≡ now
  unfolding opening
  opening-now t = rw t

  opening-later : open_at w now ≡ false → opening w now ≡ min (beginning w found) MAX
  unfolding opening
  opening-later t = rw t

  -- a half hour that is closed isn't the one found
  later : open_at w now ≡ false → half_at w now < found
  later t =
      let l = first-from w.days 336 (half_at w now) in
      split (ltb (half_at w now) found) (λ s. ltb-true _ _ s)
      (λ s.
      let e : found ≡ half_at w now = omega (arith, ltb-false (half_at w now) found s) in
      absurd (true≢false (sym (first_open_lem w.days 336 (half_at w now) (omega arith)) ∙ ap (open_half w.days) e ∙ t)))

  pub opening-after : now ≤ MAX → now ≤ opening w now
  opening-after fits =
      split (open_at w now) (λ t. omega (arith, opening-now t)) (λ t. omega (arith, opening-later t, later t))

  pub opening-least : (t : ℕ) → now ≤ t → t < opening w now → open_at w t ≡ false
  opening-least t l m =
      split (open_at w now) (λ o. absurd (omega (arith, opening-now o)))
      (λ o. first-least w.days 336 (half_at w now) (half_at w t) (omega arith) (omega (arith, opening-later o, later o)))

  module _ (opens : Opens w) where
    -- the open half hour, from the clock's own on
    abbrev next : ℕ
    next = half_at w now + (opens.half + 336 - half_at w now % 336) % 336

    next_open : open_half w.days next ≡ true
    next_open = open_again w.days next opens.half (omega (arith, opens.within)) ∙ opens.is_open

    is_found : found < half_at w now + 336
    is_found =
        split (ltb found (half_at w now + 336)) (λ s. ltb-true _ _ s)
        (λ s.
        let big : half_at w now + 336 ≤ found = ltb-false found (half_at w now + 336) s in
        absurd (true≢false (sym next_open ∙ first-least w.days 336 (half_at w now) next (omega arith) (omega arith))))

    pub opening_open : opening w now < MAX → open_at w (opening w now) ≡ true
    opening_open m =
        split (open_at w now) (λ t. rw (opening-now t) t)
        (λ t.
        let at : half_at w (opening w now) ≡ found = omega (arith, opening-later t, later t) in
        ap (open_half w.days) at ∙ first_open_lem w.days 336 (half_at w now) is_found)

    pub opening-soon : opening w now ≤ now + WEEK
    opening-soon =
        split (open_at w now) (λ t. omega (arith, opening-now t)) (λ t. omega (arith, opening-later t, is_found))

    -- beyond MAX too: an open clock is at most a week away
    pub always-opens : (t : ℕ) × (now ≤ t) × (t ≤ now + WEEK) × (open_at w t ≡ true)
    always-opens =
        split (open_at w now) (λ o. (now, omega arith, omega arith, o))
        (λ o.
        let at : half_at w (beginning w found) ≡ found = omega (arith, later o) in (
          beginning w found,
          omega (arith, later o),
          omega (arith, is_found),
          ap (open_half w.days) at ∙ first_open_lem w.days 336 (half_at w now) is_found,
        ))

-- ## a later clock has no earlier opening
first-later : (days : List ℕ) (x y : ℕ) → x ≤ y → firstOpen days x 336 ≤ firstOpen days y 336
first-later days x y l =
    split (ltb (firstOpen days y 336) (firstOpen days x 336))
    (λ t.
    let less : firstOpen days y 336 < firstOpen days x 336 = ltb-true _ _ t in
    let from = first-from days 336 y in
    absurd (true≢false
    (sym (first_open_lem days 336 y (omega (arith, first-within days 336 x)))
    ∙ first-least days 336 x (firstOpen days y 336) (omega arith) less)))
    (λ t. ltb-false (firstOpen days y 336) (firstOpen days x 336) t)

module _ (w : Week) (now later-clock : ℕ) (l : now ≤ later-clock) (fits : later-clock ≤ MAX) where
  -- an open half hour is found no later than it is
  found-by : open_at w later-clock ≡ true → found w now ≤ half_at w later-clock
  found-by o =
      split (ltb (half_at w later-clock) (found w now))
      (λ t. absurd (true≢false (sym o ∙ first-least w.days 336 (half_at w now) (half_at w later-clock) (omega arith) (ltb-true _ _ t))))
      (λ t. ltb-false (half_at w later-clock) (found w now) t)

  pub opening-later-clock : opening w now ≤ opening w later-clock
  opening-later-clock =
      split (open_at w now)
      (λ t. omega (arith, opening-now w now t, opening-after w later-clock fits))
      (λ t.
      split (open_at w later-clock)
      (λ o. omega (arith, opening-later w now t, opening-now w later-clock o, found-by o))
      (λ o.
      omega (arith, opening-later w now t, opening-later w later-clock o, first-later w.days (half_at w now) (half_at w later-clock) (omega arith))))

-- ## with hours or without
pub next-after : (h : Option Week) (now : ℕ) → now ≤ MAX → now ≤ next_opening h now
next-after none now fits = omega arith
next-after (some w) now fits = opening-after w now fits

pub next-later : (h : Option Week) (now later-clock : ℕ) → now ≤ later-clock → later-clock ≤ MAX → next_opening h now ≤ next_opening h later-clock
next-later none now later-clock l fits = l
next-later (some w) now later-clock l fits = opening-later-clock w now later-clock l fits

-- the clock at which a half hour begins, so many half hours on
clock-of : (now shift d : ℕ) → 0 < d
    → min (((now + shift) / HALF_HOUR + d) * HALF_HOUR - shift) MAX ≡ sat64 now (d * HALF_HOUR - (now + shift) % HALF_HOUR)
clock-of now shift d p = omega arith

-- ## as the code finds it: in half hours of the week, from the time of the week on
abbrev pub time_of : Week → ℕ → ℕ
time_of w now = (now % WEEK + w.shift % WEEK) % WEEK

module _ (w : Week) (now : ℕ) where
  abbrev pub half : ℕ
  half = time_of w now / HALF_HOUR

  abbrev first : ℕ
  first = firstOpen w.days half HALF_HOURS

  weeks : half_at w now ≡ half + 336 * (half_at w now / 336)
  weeks = omega arith

  first-of-week : found w now ≡ first + 336 * (half_at w now / 336)
  first-of-week = ap (λ (x : ℕ). firstOpen w.days x 336) weeks ∙ first-again w.days 336 half (half_at w now / 336)

  pub open_now : first ≡ half → closed_until (some w) now ≡ none
  open_now e =
      split (open_at w now) (λ t. rw t) (λ t. absurd (omega (arith, weeks, first-of-week, later w now t)))

  pub open_later : (first ≡ half → ⊥) → closed_until (some w) now ≡ some (sat64 now ((first - half) * HALF_HOUR - time_of w now % HALF_HOUR))
  open_later d =
      split (open_at w now)
      (λ t.
      let e : found w now ≡ half_at w now = first-is w.days (half_at w now) 336 (half_at w now) (omega arith) (omega arith) t (λ k l m. absurd (omega arith)) in
      absurd (d (omega (arith, weeks, first-of-week))))
      (λ t.
      let e : found w now ≡ half_at w now + (first - half) = omega (arith, weeks, first-of-week, later w now t) in
      let far : 0 < first - half = omega (arith, later w now t) in
      let rest : time_of w now % HALF_HOUR ≡ (now + w.shift) % HALF_HOUR = omega arith in
      rw t (ap some (opening-later w now t ∙ rw (e, rest) (clock-of now w.shift (first - half) far))))
