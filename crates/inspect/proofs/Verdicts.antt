-- A block is sound by its verdict where `journal` has it sound, as a header and as a body: what is shown as sound is what a walk
-- takes for sound. Assumes nothing.
use Prim.Native.Nat.{ℕ, ◌+◌, ◌-◌}
use mathlib.Core.Path.{◌≡◌, refl, sym, ◌∙◌, ap}
use mathlib.Core.Bool.{Bool, true, false, not, true≢false}
use mathlib.Core.List.{List, [], ◌∷◌, ◌++◌}
use lib.Dec.{eqb}
use lib.ListN.{length}
use borrow.Author.Tests.{eqb-true, ltb-false, leb-true, eq-eqb, le-ltb, le-leb, not-false}
use Rattle.types.proofs.Cases.{split}
use Rattle.crc.specs.Seal.{is_sealed}
use Rattle.journal.specs.Blocks.{bodies_for, kind_of, group_of, body_count, cursor_length, attempt_length, payload_length, index_of, used_of}
use Rattle.journal.specs.Sound.{zeros_at, sound_header, sound_body}
use Rattle.journal.proofs.Sound.{Header, Body, kind-says, says-kind, header-says, says-header, body-says, says-body}
use Rattle.inspect.specs.declared.faults.Fault.{Fault}
use Rattle.std.specs.Prelude.{Ok, Err}
use Rattle.inspect.specs.Verdicts.{Verdict, Row, verdict, is_sound, opening_table, header_rest_table, body_rest_table, opening_verdict, header_verdict, body_verdict}

-- a fault is no soundness
pub no-fault : {f : Fault} → ◌≡◌ {A = Verdict} (Err f) (Ok tt) → ⊥
no-fault e = true≢false (sym (ap is_sound e))

-- every test of a table finds nothing
abbrev pub Passed : List Row → Type 0
Passed [] = Unit {0}
Passed (w ∷ ws) = (w.test ≡ false) × Passed ws

pub passed : (ws : List Row) → verdict ws ≡ Ok tt → Passed ws
passed [] e = tt
passed (w ∷ ws) e =
    split w.test
    (λ t. let q : verdict (w ∷ ws) ≡ Err w.fault = rw t in absurd (no-fault (sym q ∙ e)))
    (λ f. let q : verdict (w ∷ ws) ≡ verdict ws = rw f in (f, passed ws (sym q ∙ e)))

pub passes : (ws : List Row) → Passed ws → verdict ws ≡ Ok tt
passes [] p = refl
passes (w ∷ ws) p = rw p.0 (passes ws p.1)

-- so a block whose first tests find nothing has 512 bytes
pub opened : (kind k : ℕ) (b : List ℕ) → opening_verdict kind k b ≡ Ok tt → length b ≡ 512
unfolding opening_verdict
opened kind k b e = eqb-true (length b) 512 (not-false _ (passed (opening_table kind k b) e).0)

equal : (a b : ℕ) → not (eqb a b) ≡ false → a ≡ b
equal a b f = eqb-true a b (not-false (eqb a b) f)

equally : (a b : ℕ) → a ≡ b → not (eqb a b) ≡ false
equally a b e = rw (eq-eqb a b e)

-- two answers are the same where each is right if the other is
same_test : (v : Verdict) (t : Bool) → (v ≡ Ok tt → t ≡ true) → (t ≡ true → v ≡ Ok tt) → is_sound v ≡ t
same_test (Ok u) t f g = sym (f refl)
same_test (Err x) t f g = split t (λ e. absurd (no-fault (g e))) (λ e. sym e)

module _ (hi k i : ℕ) (b : List ℕ) where
  header-passed : Passed (opening_table 1 k b ++ header_rest_table hi i b) → Header hi k i b
  header-passed p =
      let z = p.1.1.1.1 in
      let s = z.1.1 in
      record {
        form = record {
          head = says-kind 1 b (record {
            whole = equal (length b) 512 p.0;
            kind-is = equal (kind_of b) 1 p.1.0;
            check = not-false (is_sealed b) p.1.1.0;
          });
          zeros = not-false (zeros_at 2 2 b) z.0;
          rest = not-false (zeros_at 488 20 b) z.1.0;
          lengths = record {
            cursor-low = ltb-false (cursor_length b) 13 s.0;
            cursor_high = ltb-false 2061 (cursor_length b) s.1.0;
            attempt_low = ltb-false (attempt_length b) 9 s.1.1.0;
            attempt_high = ltb-false 1545 (attempt_length b) s.1.1.1.0;
          };
          count = equal (body_count b) (bodies_for (payload_length b)) s.1.1.1.1.0;
        };
        number = equal (group_of b) k p.1.1.1.0;
        fits = leb-true (i + 1 + body_count b) hi (not-false _ s.1.1.1.1.1.0);
      }

  header-passes : Header hi k i b → Passed (opening_table 1 k b ++ header_rest_table hi i b)
  header-passes h =
      let f = h.form in
      let o = kind-says 1 b f.head in (
        equally (length b) 512 o.whole,
        (
          equally (kind_of b) 1 o.kind-is,
          (
            rw o.check,
            (
              equally (group_of b) k h.number,
              (
                rw f.zeros,
                (
                  rw f.rest,
                  (
                    le-ltb (cursor_length b) 13 f.lengths.cursor-low,
                    (
                      le-ltb 2061 (cursor_length b) f.lengths.cursor_high,
                      (
                        le-ltb (attempt_length b) 9 f.lengths.attempt_low,
                        (
                          le-ltb 1545 (attempt_length b) f.lengths.attempt_high,
                          (
                            equally (body_count b) (bodies_for (payload_length b)) f.count,
                            (
                              rw (le-leb (i + 1 + body_count b) hi h.fits),
                              tt,
                            ),
                          ),
                        ),
                      ),
                    ),
                  ),
                ),
              ),
            ),
          ),
        ),
      )

  -- a header is sound by its verdict where the walk takes it
  pub sound-header : is_sound (header_verdict hi k i b) ≡ sound_header hi k i b
  unfolding header_verdict
  sound-header =
      same_test (header_verdict hi k i b) (sound_header hi k i b)
      (λ e. says-header hi k i b (header-passed (passed (opening_table 1 k b ++ header_rest_table hi i b) e)))
      (λ t. passes (opening_table 1 k b ++ header_rest_table hi i b) (header-passes (header-says hi k i b t)))

module _ (k j used : ℕ) (b : List ℕ) where
  body-passed : Passed (opening_table 2 k b ++ body_rest_table j used b) → Body k j used b
  body-passed p =
      let s = p.1.1.1.1 in
      record {
        kind = says-kind 2 b (record {
          whole = equal (length b) 512 p.0;
          kind-is = equal (kind_of b) 2 p.1.0;
          check = not-false (is_sealed b) p.1.1.0;
        });
        number = equal (group_of b) k p.1.1.1.0;
        index = equal (index_of b) j s.0;
        bytes = equal (used_of b) used s.1.0;
        rest = not-false (zeros_at (500 - used) (8 + used) b) s.1.1.0;
      }

  body-passes : Body k j used b → Passed (opening_table 2 k b ++ body_rest_table j used b)
  body-passes s =
      let o = kind-says 2 b s.kind in (
        equally (length b) 512 o.whole,
        (
          equally (kind_of b) 2 o.kind-is,
          (
            rw o.check,
            (
              equally (group_of b) k s.number,
              (
                equally (index_of b) j s.index,
                (
                  equally (used_of b) used s.bytes,
                  (
                    rw s.rest,
                    tt,
                  ),
                ),
              ),
            ),
          ),
        ),
      )

  -- and a body likewise
  pub sound-body : is_sound (body_verdict k j used b) ≡ sound_body k j used b
  unfolding body_verdict
  sound-body =
      same_test (body_verdict k j used b) (sound_body k j used b)
      (λ e. says-body k j used b (body-passed (passed (opening_table 2 k b ++ body_rest_table j used b) e)))
      (λ t. passes (opening_table 2 k b ++ body_rest_table j used b) (body-passes (body-says k j used b t)))
