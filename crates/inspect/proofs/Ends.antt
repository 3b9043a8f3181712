-- The places and the walk agree: where the walk over the half in use ends, the header of the group that comes next is expected, and no
-- sound one stands there. So the groups that are listed end where the walk ends. Assumes nothing.
use Prim.Native.Nat.{ℕ, zero, suc, ◌+◌, ◌-◌, ◌≤◌, ◌<◌}
use native.Mathlib.Omega.{arith}
use mathlib.Core.Path.{◌≡◌, refl, ap}
use mathlib.Core.Bool.{false}
use mathlib.Core.List.{List}
use mathlib.Core.Option.{Option, none}
use borrow.Author.Tests.{lt-ltb, le-ltb, eq-eqb, ne_eqb}
use Rattle.types.specs.Limits.{MAX}
use Rattle.types.specs.Refusal.{Result, refused, done}
use Rattle.journal.specs.Area.{block_at}
use Rattle.journal.specs.Blocks.{body_count, payload_length}
use Rattle.journal.specs.Sound.{sound_header}
use Rattle.journal.specs.Walks.{Stop, stop, walk_from}
use Rattle.journal.proofs.Sound.{well_formed_counted, says-header}
use Rattle.journal.proofs.Walks.{Group, walk_ind, walk-ended}
use Rattle.starts.specs.Restart.{origin, limit, walk_of}
use Rattle.inspect.specs.Places.{end_of, place_at}
use Rattle.inspect.specs.declared.places.Place.{Place}
use Rattle.inspect.specs.declared.places.Place.TheVariants as places

-- what a walk that stopped says
abbrev number_of : Result Stop → ℕ
number_of (refused r) = 0
number_of (done s) = suc s.number

abbrev block_of : Result Stop → ℕ
block_of (refused r) = 0
block_of (done s) = suc s.block

-- the half that begins at block s
module _ (a : List ℕ) (s : ℕ) where
  -- what is expected at block i, which is block m of the half
  record Stands (i : ℕ) (p : Place) : Type 0 where
    m : ℕ
    at : s + m ≡ i
    is : place_at a s m ≡ p

  -- bodies j on, r of them behind it, and the header behind them
  bodies-on : (k i n t r j : ℕ) → k < MAX → j + r ≡ n → Stands (i + j) (places.Body k j n t)
      → Stands (i + suc n) (places.Header (suc k))
  unfolding place_at
  bodies-on k i n t zero j l f x =
      let q : k + 1 ≡ suc k = omega arith in
      record {
        m = suc x.m;
        at = omega (arith, x.at);
        is = rw (x.is, le-ltb j n (omega arith), ne_eqb k MAX (λ e. omega arith), q);
      }
  bodies-on k i n t (suc r) j l f x =
      bodies-on k i n t r (j + 1) l (omega arith)
      (record { m = suc x.m; at = omega (arith, x.at); is = rw (x.is, lt-ltb j n (omega arith)) })

  -- behind a sound group the next one is expected
  group_places : (k i e : ℕ) → k < MAX → Stands i (places.Header k) → Group a (end_of a s) k i e → Stands e (places.Header (suc k))
  unfolding place_at
  group_places k i e l x g =
      let b = block_at a i in
      let f = g.header.form in
      let c = well_formed_counted b f in
      let n : 1 + (body_count b - 1) ≡ body_count b = omega (arith, c.some-body) in
      let y : Stands (i + 1) (places.Body k 1 (body_count b) (payload_length b)) =
      record {
        m = suc x.m;
        at = omega (arith, x.at);
        is = rw (x.is, x.at, says-header (end_of a s) k i b g.header, f.count);
      } in
      rw (← g.behind) (bodies-on k i (body_count b) (payload_length b) (body_count b - 1) 1 l n y)

  stands-at-end : (last l : Option ℕ) (k i k' e : ℕ) → Stands i (places.Header k) → stop last k i ≡ stop l k' e
      → Stands e (places.Header k')
  stands-at-end last l k i k' e x q =
      let y : i ≡ e = omega (arith, ap block_of q) in
      let z : k ≡ k' = omega (arith, ap number_of q) in
      rw (← y, ← z) x

  -- a walk of groups whose numbers come from one below MAX
  places_end : (l : Option ℕ) (k' e first : ℕ) → first + end_of a s < MAX → (last : Option ℕ) (k i : ℕ)
      → Stands i (places.Header k) → k ≤ first + i → walk_from a (end_of a s) last k i ≡ stop l k' e
      → Stands e (places.Header k')
  places_end l k' e first h =
      walk_ind a (end_of a s)
      (λ last k i w. Stands i (places.Header k) → k ≤ first + i → w ≡ stop l k' e → Stands e (places.Header k'))
      (λ last k i t x n q. stands-at-end last l k i k' e x q)
      (λ last k i j t u x n q. absurd (let z : ◌≡◌ {A = ℕ} 0 1 = omega (arith, ap number_of q) in omega arith))
      (λ last k i y g ih x n q.
      ih (group_places k i y (omega (arith, g.header.fits)) x g) (omega (arith, g.behind)) q)

module _ (a : List ℕ) where
  -- what is said of the end of a walk over the half in use
  pub record EndsAt (k e : ℕ) : Type 0 where
    pub place : place_at a (origin a).block (e - (origin a).block) ≡ places.Header k
    pub no_header : sound_header (limit a) k e (block_at a e) ≡ false

  begins : Stands a (origin a).block (origin a).block (places.Header (origin a).number)
  unfolding place_at
  begins = record { m = 0; at = omega arith; is = rw (eq-eqb (origin a).block (origin a).block refl) }

  -- where the walk of a restart ends
  pub walk-ends-at : (l : Option ℕ) (k e : ℕ) → (origin a).number + limit a < MAX → walk_of a ≡ stop l k e → EndsAt k e
  walk-ends-at l k e h w =
      let s = (origin a).block in
      let n = (origin a).number in
      let x = places_end a s l k e n h none n s begins (omega arith) w in
      let y : e - s ≡ x.m = omega (arith, x.at) in
      record {
        place = rw y x.is;
        no_header = (walk-ended a (limit a) none n s l k e w).no_header;
      }
