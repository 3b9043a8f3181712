-- What the code's hours stand for, by whether any are given: its answers as those of the definitions. Assumes nothing.
use Prim.Native.Nat.{ℕ, ◌-◌, ◌*◌, ◌%◌, ◌≤◌, ◌<◌}
use mathlib.Core.Path.{◌≡◌, refl, sym, ap, ◌∙◌}
use mathlib.Core.Bool.{true, false}
use mathlib.Core.Option.{Option, none, some}
use Rattle.std.specs.Prelude as std
use Rattle.std.specs.Prelude.{Some, None}
use native.Mathlib.Omega.{arith}
use borrow.Author.Tests.{le-leb, lt-leb, eq-eqb, ne_eqb}
use Rattle.types.specs.Limits.{sat64}
use Rattle.types.specs.Refusal.{refused, done, BadHours, NeverOpen}
use Rattle.types.specs.Table.{checked}
use Rattle.types.proofs.Cases.{split}
use Rattle.hours.specs.Hours.{Week, week_of, open_at, HALF_HOUR, WEEK, HALF_HOURS, firstOpen, anyAbove, next_opening, hours_rows}
use Rattle.hours.specs.View.{view, closed_until, opening_of}
use Rattle.hours.specs.declared.Hours.{Hours}
use Rattle.hours.proofs.Openings as openings

-- the next opening, by what is answered at the clock
pub opening-or-now : (h : Option Week) (now : ℕ) (r : std.Option ℕ) → opening_of r ≡ closed_until h now → std.unwrap_or r now ≡ next_opening h now
opening-or-now none now None s = refl
opening-or-now none now (Some clock) s = absurd (let z : ◌≡◌ {A = ℕ} 0 1 = cc in omega arith)
opening-or-now (some w) now None s =
    split (open_at w now) (λ t. sym (openings.opening-now w now t)) (λ t. absurd (never_none (rw t at s)))
  where
    never_none : none ≡ some (next_opening (some w) now) → ⊥
    never_none e = let z : ◌≡◌ {A = ℕ} 0 1 = cc in omega arith
opening-or-now (some w) now (Some clock) s =
    split (open_at w now) (λ t. absurd (never-some (rw t at s))) (λ t. same (rw t at s))
  where
    never-some : some clock ≡ none → ⊥
    never-some e = let z : ◌≡◌ {A = ℕ} 0 1 = cc in omega arith

    same : some clock ≡ some (next_opening (some w) now) → clock ≡ next_opening (some w) now
    same e = cc

module _ (h : Hours) where
  abbrev pub week : Week
  week = week_of h.days h.shift

  without : h.given ≡ false → view h ≡ none
  without e = rw e

  given : h.given ≡ true → view h ≡ some week
  given e = rw e

  -- ## at a clock
  module _ (now : ℕ) where
    abbrev pub from : ℕ
    from = openings.half week now

    pub always : h.given ≡ false → none ≡ closed_until (view h) now
    always e = rw (without e)

    module _ (e : h.given ≡ true) (found : ℕ) (is : found ≡ firstOpen h.days from HALF_HOURS) where
      pub at_once : found ≡ from → none ≡ closed_until (view h) now
      at_once s = rw (given e) (sym (openings.open_now week now (sym is ∙ s)))

      pub later : (found ≡ from → ⊥) → (r : ℕ) → r ≡ sat64 now ((found - from) * HALF_HOUR - openings.time_of week now % HALF_HOUR)
          → some r ≡ closed_until (view h) now
      later d r s = rw (given e) (ap some (s ∙ rw is refl) ∙ sym (openings.open_later week now (λ t. d (is ∙ t))))

  -- ## 33, 34
  pub none_tested : h.given ≡ false → done tt ≡ checked {A = Unit {0}} (hours_rows (view h)) (done tt)
  none_tested e = rw (without e)

  module _ (e : h.given ≡ true) where
    pub bits_above : anyAbove h.days 7 ≡ true → refused BadHours ≡ checked {A = Unit {0}} (hours_rows (view h)) (done tt)
    bits_above a = rw (given e, a)

    module _ (a : anyAbove h.days 7 ≡ false) where
      pub shift-above : WEEK ≤ h.shift → refused BadHours ≡ checked {A = Unit {0}} (hours_rows (view h)) (done tt)
      shift-above s = rw (given e, a, le-leb WEEK h.shift s)

      module _ (s : h.shift < WEEK) where
        pub never : firstOpen h.days 0 HALF_HOURS ≡ HALF_HOURS → refused NeverOpen ≡ checked {A = Unit {0}} (hours_rows (view h)) (done tt)
        never f = rw (given e, a, lt-leb WEEK h.shift s, eq-eqb _ HALF_HOURS f)

        pub accepted : (firstOpen h.days 0 HALF_HOURS ≡ HALF_HOURS → ⊥) → done tt ≡ checked {A = Unit {0}} (hours_rows (view h)) (done tt)
        accepted f = rw (given e, a, lt-leb WEEK h.shift s, ne_eqb _ HALF_HOURS f)
