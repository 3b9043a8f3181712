-- The row at which each test of the code stops. Assumes nothing.
use Prim.Native.Nat.{ℕ, ◌+◌, ◌-◌, ◌≤◌, ◌<◌, min}
use native.Mathlib.Omega.{arith}
use native.Mathlib.Decide.{dec_le}
use mathlib.Core.Path.{◌≡◌, refl, sym, ◌∙◌, ap}
use mathlib.Core.Bool.{true, false}
use mathlib.Core.List.{List, [], ◌∷◌, ◌++◌}
use lib.ListN.{length, take, drop}
use borrow.Author.Tests.{eq-eqb, ne_eqb, lt-ltb, le-ltb, le-leb, lt-leb}
use Rattle.raw.specs.Bytes.{all_zero}
use Rattle.crc.specs.Seal.{is_sealed}
use Rattle.journal.specs.Answers.{header_in}
use Rattle.journal.specs.Blocks.{bodies_for, kind_of, group_of, body_count, cursor_length, attempt_length, payload_length, index_of, used_of}
use Rattle.journal.specs.Sound.{zeros_at}
use Rattle.journal.specs.declared.Header.{Header}
use Rattle.inspect.specs.declared.faults.Fault.{Fault}
use Rattle.inspect.specs.declared.faults.Fault.TheVariants.{Length, Kind, Check, Number, Zeros, CursorLength, AttemptLength, Count, Fit, Index, Used}
use Rattle.std.specs.Prelude.{Ok, Err}
use Rattle.inspect.proofs.Verdicts.{passed, passes, no-fault}
use Rattle.types.proofs.Cases.{split}
use Rattle.inspect.specs.Verdicts.{Row, verdict, opening_table, sizes_table, header_rest_table, body_rest_table, opening_verdict, sizes_verdict, header_rest, body_rest, header_verdict, body_verdict}

module _ (kind k : ℕ) (b : List ℕ) where
  pub not_whole : (length b ≡ 512 → ⊥) → Err Length ≡ opening_verdict kind k b
  unfolding opening_verdict
  not_whole n = rw (ne_eqb (length b) 512 n)

  module _ (whole : length b ≡ 512) where
    pub other-kind : (kind_of b ≡ kind → ⊥) → Err Kind ≡ opening_verdict kind k b
    unfolding opening_verdict
    other-kind n = rw (eq-eqb (length b) 512 whole, ne_eqb (kind_of b) kind n)

    module _ (right : kind_of b ≡ kind) where
      pub unchecked : is_sealed b ≡ false → Err Check ≡ opening_verdict kind k b
      unfolding opening_verdict
      unchecked e = rw (eq-eqb (length b) 512 whole, eq-eqb (kind_of b) kind right, e)

      module _ (check : is_sealed b ≡ true) where
        pub other-number : (group_of b ≡ k → ⊥) → Err Number ≡ opening_verdict kind k b
        unfolding opening_verdict
        other-number n = rw (eq-eqb (length b) 512 whole, eq-eqb (kind_of b) kind right, check, ne_eqb (group_of b) k n)

        pub opening-sound : group_of b ≡ k → Ok tt ≡ opening_verdict kind k b
        unfolding opening_verdict
        opening-sound e = rw (eq-eqb (length b) 512 whole, eq-eqb (kind_of b) kind right, check, eq-eqb (group_of b) k e)

-- the sizes that a header says
module _ (hi i : ℕ) (b : List ℕ) (h : Header) (read : h ≡ header_in b) where
  cursor-len : cursor_length b ≡ h.cursor_len
  cursor-len = sym (ap (λ r. r.cursor_len) read)

  attempt_len_lem : attempt_length b ≡ h.attempt_len
  attempt_len_lem = sym (ap (λ r. r.attempt_len) read)

  pub cursor-short : h.cursor_len < 13 → Err CursorLength ≡ sizes_verdict hi i b
  unfolding sizes_verdict
  cursor-short l = rw (lt-ltb (cursor_length b) 13 (omega (arith, cursor-len)))

  module _ (c₁ : 13 ≤ h.cursor_len) where
    pub cursor-long : 2061 < h.cursor_len → Err CursorLength ≡ sizes_verdict hi i b
    unfolding sizes_verdict
    cursor-long l =
        rw (
          le-ltb (cursor_length b) 13 (omega (arith, cursor-len)),
          lt-ltb 2061 (cursor_length b) (omega (arith, cursor-len)),
        )

    module _ (c₂ : h.cursor_len ≤ 2061) where
      pub attempt_short : h.attempt_len < 9 → Err AttemptLength ≡ sizes_verdict hi i b
      unfolding sizes_verdict
      attempt_short l =
          rw (
            le-ltb (cursor_length b) 13 (omega (arith, cursor-len)),
            le-ltb 2061 (cursor_length b) (omega (arith, cursor-len)),
            lt-ltb (attempt_length b) 9 (omega (arith, attempt_len_lem)),
          )

      module _ (a₁ : 9 ≤ h.attempt_len) where
        pub attempt_long : 1545 < h.attempt_len → Err AttemptLength ≡ sizes_verdict hi i b
        unfolding sizes_verdict
        attempt_long l =
            rw (
              le-ltb (cursor_length b) 13 (omega (arith, cursor-len)),
              le-ltb 2061 (cursor_length b) (omega (arith, cursor-len)),
              le-ltb (attempt_length b) 9 (omega (arith, attempt_len_lem)),
              lt-ltb 1545 (attempt_length b) (omega (arith, attempt_len_lem)),
            )

        module _ (a₂ : h.attempt_len ≤ 1545) where
          counted : sizes_verdict hi i b ≡ verdict (drop 4 (sizes_table hi i b))
          unfolding sizes_verdict
          counted =
              rw (
                le-ltb (cursor_length b) 13 (omega (arith, cursor-len)),
                le-ltb 2061 (cursor_length b) (omega (arith, cursor-len)),
                le-ltb (attempt_length b) 9 (omega (arith, attempt_len_lem)),
                le-ltb 1545 (attempt_length b) (omega (arith, attempt_len_lem)),
              )

          -- n is the count that the lengths make
          module _ (n : ℕ) (made : n ≡ bodies_for (h.cursor_len + h.attempt_len)) where
            made-is : n ≡ bodies_for (payload_length b)
            made-is = rw (cursor-len, attempt_len_lem) made

            pub miscounted : (body_count b ≡ n → ⊥) → Err Count ≡ sizes_verdict hi i b
            miscounted x =
                sym (counted ∙ rw (ne_eqb (body_count b) (bodies_for (payload_length b)) (λ e. x (e ∙ sym made-is))))

            module _ (same : body_count b ≡ n) where
              pub unfit : (hi < i + 1 + body_count b) → Err Fit ≡ sizes_verdict hi i b
              unfit l =
                  sym (counted ∙ rw (eq-eqb (body_count b) (bodies_for (payload_length b)) (same ∙ made-is), lt-leb (i + 1 + body_count b) hi l))

              pub fit : (i + 1 + body_count b ≤ hi) → Ok tt ≡ sizes_verdict hi i b
              fit l =
                  sym (counted ∙ rw (eq-eqb (body_count b) (bodies_for (payload_length b)) (same ∙ made-is), le-leb (i + 1 + body_count b) hi l))

module _ (hi i : ℕ) (b : List ℕ) where
  pub no-zeros : zeros_at 2 2 b ≡ false → Err Zeros ≡ header_rest hi i b
  unfolding header_rest
  no-zeros e = rw e

  pub no-zeros-behind : zeros_at 2 2 b ≡ true → zeros_at 488 20 b ≡ false → Err Zeros ≡ header_rest hi i b
  unfolding header_rest
  no-zeros-behind e f = rw (e, f)

  pub to-sizes : zeros_at 2 2 b ≡ true → zeros_at 488 20 b ≡ true → sizes_verdict hi i b ≡ header_rest hi i b
  unfolding header_rest sizes_verdict
  to-sizes e f = rw (e, f)

module _ (j used : ℕ) (b : List ℕ) where
  pub other-index : (index_of b ≡ j → ⊥) → Err Index ≡ body_rest j used b
  unfolding body_rest
  other-index n = rw (ne_eqb (index_of b) j n)

  module _ (index : index_of b ≡ j) where
    pub other-used : (used_of b ≡ used → ⊥) → Err Used ≡ body_rest j used b
    unfolding body_rest
    other-used n = rw (eq-eqb (index_of b) j index, ne_eqb (used_of b) used n)

    module _ (bytes : used_of b ≡ used) where
      pub no-zeros-after : zeros_at (500 - used) (8 + used) b ≡ false → Err Zeros ≡ body_rest j used b
      unfolding body_rest
      no-zeros-after e = rw (eq-eqb (index_of b) j index, eq-eqb (used_of b) used bytes, e)

      pub body-sound : zeros_at (500 - used) (8 + used) b ≡ true → Ok tt ≡ body_rest j used b
      unfolding body_rest
      body-sound e = rw (eq-eqb (index_of b) j index, eq-eqb (used_of b) used bytes, e)

-- the zeros behind the bytes used, from the place where the code looks on
pub zeros-from : (b : List ℕ) (used from : ℕ) → from ≡ min (8 + used) 508
    → all_zero (take (508 - from) (drop from b)) ≡ zeros_at (500 - used) (8 + used) b
zeros-from b used from e =
    elim (dec_le used 500) [
      | yes h ↦
          let f : from ≡ 8 + used = omega arith in
          let r : 508 - (8 + used) ≡ 500 - used = omega arith in
          rw (f, r)
      | no h ↦
          let f : 508 - from ≡ 0 = omega arith in
          let r : 500 - used ≡ 0 = omega arith in
          rw (f, r)
    ]

-- ## The first tests, and the others where these find nothing
opens : (ws vs : List Row) → verdict ws ≡ Ok tt → verdict vs ≡ verdict (ws ++ vs)
opens [] vs e = refl
opens (w ∷ ws) vs e =
    let p = passed (w ∷ ws) e in
    rw p.0 (opens ws vs (passes ws p.1))

shuts : (ws vs : List Row) (f : Fault) → verdict ws ≡ Err f → Err f ≡ verdict (ws ++ vs)
shuts [] vs f e = absurd (no-fault (sym e))
shuts (w ∷ ws) vs f e =
    split w.test
    (λ t. let q : verdict (w ∷ ws) ≡ Err w.fault = rw t in rw t (sym e ∙ q))
    (λ n. let q : verdict (w ∷ ws) ≡ verdict ws = rw n in rw n (shuts ws vs f (sym q ∙ e)))

module _ (hi k i : ℕ) (b : List ℕ) where
  pub header_open : opening_verdict 1 k b ≡ Ok tt → header_rest hi i b ≡ header_verdict hi k i b
  unfolding opening_verdict header_rest header_verdict
  header_open e = opens (opening_table 1 k b) (header_rest_table hi i b) e

  pub header-shut : (f : Fault) → opening_verdict 1 k b ≡ Err f → Err f ≡ header_verdict hi k i b
  unfolding opening_verdict header_verdict
  header-shut f e = shuts (opening_table 1 k b) (header_rest_table hi i b) f e

module _ (k j used : ℕ) (b : List ℕ) where
  pub body_open : opening_verdict 2 k b ≡ Ok tt → body_rest j used b ≡ body_verdict k j used b
  unfolding opening_verdict body_rest body_verdict
  body_open e = opens (opening_table 2 k b) (body_rest_table j used b) e

  pub body-shut : (f : Fault) → opening_verdict 2 k b ≡ Err f → Err f ≡ body_verdict k j used b
  unfolding opening_verdict body_verdict
  body-shut f e = shuts (opening_table 2 k b) (body_rest_table j used b) f e
