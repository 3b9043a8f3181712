-- Which blocks are sound: those that are written are, and a block whose check fails, one of kind 2 and one of zeros
-- are no sound headers; and what a sound block says, part by part. Assumes nothing.
use Prim.Native.Nat.{ℕ, zero, suc, ◌+◌, ◌-◌, ◌≤◌, ◌<◌, ◌^◌, min}
use native.Mathlib.Omega.{arith}
use native.Mathlib.Decide.{dec_le}
use mathlib.Core.Path.{◌≡◌, refl, sym, ◌∙◌}
use mathlib.Core.Bool.{Bool, true, false, ◌&&◌, and-false, true≢false}
use mathlib.Core.List.{List, [], ◌∷◌}
use lib.Dec.{leb, eqb}
use lib.ListN.{length, take, drop}
use borrow.Author.Tests.{eqb-true, leb-true, eq-eqb, ne_eqb, le-leb}
use Rattle.types.proofs.Cases.{split, both}
use Rattle.raw.specs.Bytes.{all_zero}
use Rattle.crc.specs.Seal.{is_sealed}
use Rattle.journal.specs.Blocks.{
  bodies_for,
  Counted,
  header_block,
  body_block,
  kind_of,
  group_of,
  body_count,
  cursor_length,
  attempt_length,
  payload_length,
  index_of,
  used_of,
}
use Rattle.journal.specs.Sound.{zeros_at, is_kind, has_header_kind, well_formed, sound_but_fit, sound_header, sound_body}
use Rattle.journal.proofs.Blocks.{
  header-length,
  header-kind,
  header-sealed,
  header-zeros,
  header-rest,
  header-count,
  header-number,
  header-cursor,
  header_attempt,
  body-length,
  body-kind,
  body-sealed,
  body-index,
  body-used,
  body-number,
  body-rest,
}

-- a test is false where it cannot be true
refuted : (t : Bool) → (t ≡ true → ⊥) → false ≡ t
refuted t n = split t (λ e. absurd (n e)) (λ e. sym e)

pub differ : {t : Bool} → t ≡ true → t ≡ false → ⊥
differ e f = true≢false (sym e ∙ f)

-- ## Zeros
-- a part of zeros is zeros
pub zeros-take : (n : ℕ) (b : List ℕ) → all_zero b ≡ true → all_zero (take n b) ≡ true
zeros-take zero b e = refl
zeros-take (suc n) [] e = refl
zeros-take (suc n) (x ∷ b) e =
    let z = both (eqb x 0) (all_zero b) e in
    rw z.0 (zeros-take n b z.1)

pub zeros-drop : (n : ℕ) (b : List ℕ) → all_zero b ≡ true → all_zero (drop n b) ≡ true
zeros-drop zero b e = e
zeros-drop (suc n) [] e = refl
zeros-drop (suc n) (x ∷ b) e = zeros-drop n b (both (eqb x 0) (all_zero b) e).1

-- ## No headers
-- a block is of no kind but its own, and of none where its check fails
pub other-kind : (kind : ℕ) (b : List ℕ) → (kind_of b ≡ kind → ⊥) → is_kind kind b ≡ false
unfolding is_kind
other-kind kind b n = rw (ne_eqb (kind_of b) kind n, and-false (eqb (length b) 512))

pub unchecked : (kind : ℕ) (b : List ℕ) → is_sealed b ≡ false → is_kind kind b ≡ false
unfolding is_kind
unchecked kind b e = rw (e, and-false (eqb (length b) 512 && eqb (kind_of b) kind))

pub zero-headless : (b : List ℕ) → all_zero b ≡ true → has_header_kind b ≡ false
zero-headless b z = other-kind 1 b (λ q. omega (arith, zero-kind b z))
  where
    zero-kind : (l : List ℕ) → all_zero l ≡ true → kind_of l ≡ 0
    zero-kind [] e = refl
    zero-kind (x ∷ l) e = eqb-true x 0 (both (eqb x 0) (all_zero l) e).0

module _ (hi k i : ℕ) (b : List ℕ) where
  pub headless : has_header_kind b ≡ false → sound_header hi k i b ≡ false
  unfolding sound_header well_formed
  headless e = rw e

  -- a block whose check fails, one of kind 2 and one of zeros
  pub unchecked-header : is_sealed b ≡ false → sound_header hi k i b ≡ false
  unchecked-header e = headless (unchecked 1 b e)

  pub body-header : kind_of b ≡ 2 → sound_header hi k i b ≡ false
  body-header e = headless (other-kind 1 b (λ q. omega arith))

  pub zero-header : all_zero b ≡ true → sound_header hi k i b ≡ false
  zero-header z = headless (zero-headless b z)

-- ## What a sound block says
pub record Kind (kind : ℕ) (b : List ℕ) : Type 0 where
  pub whole : length b ≡ 512
  pub kind-is : kind_of b ≡ kind
  pub check : is_sealed b ≡ true

pub kind-says : (kind : ℕ) (b : List ℕ) → is_kind kind b ≡ true → Kind kind b
unfolding is_kind
kind-says kind b e =
    let c = both (eqb (length b) 512 && eqb (kind_of b) kind) (is_sealed b) e in
    let d = both (eqb (length b) 512) (eqb (kind_of b) kind) c.0 in
    record { whole = eqb-true (length b) 512 d.0; kind-is = eqb-true (kind_of b) kind d.1; check = c.1 }

pub says-kind : (kind : ℕ) (b : List ℕ) → Kind kind b → is_kind kind b ≡ true
unfolding is_kind
says-kind kind b s = rw (s.check, eq-eqb (length b) 512 s.whole, eq-eqb (kind_of b) kind s.kind-is)

-- the test as the code makes it
pub kind-test : (kind : ℕ) (b : List ℕ) → length b ≡ 512 → kind_of b ≡ kind → is_sealed b ≡ is_kind kind b
unfolding is_kind
kind-test kind b w k = rw (eq-eqb (length b) 512 w, eq-eqb (kind_of b) kind k)

pub no_kind : (kind : ℕ) (b : List ℕ) → (Kind kind b → ⊥) → false ≡ is_kind kind b
no_kind kind b n = refuted (is_kind kind b) (λ e. n (kind-says kind b e))

-- lengths of a cursor snapshot and of an attempt snapshot that a header may have
pub record Lengths (lc la : ℕ) : Type 0 where
  pub cursor-low : 13 ≤ lc
  pub cursor_high : lc ≤ 2061
  pub attempt_low : 9 ≤ la
  pub attempt_high : la ≤ 1545

pub record WellFormed (b : List ℕ) : Type 0 where
  pub head : has_header_kind b ≡ true
  pub zeros : zeros_at 2 2 b ≡ true
  pub rest : zeros_at 488 20 b ≡ true
  pub lengths : Lengths (cursor_length b) (attempt_length b)
  pub count : body_count b ≡ bodies_for (payload_length b)

pub well_formed_says : (b : List ℕ) → well_formed b ≡ true → WellFormed b
unfolding well_formed
well_formed_says b e =
    let n = both _ (eqb (body_count b) (bodies_for (payload_length b))) e in
    let a₂ = both _ (leb (attempt_length b) 1545) n.0 in
    let a₁ = both _ (leb 9 (attempt_length b)) a₂.0 in
    let c₂ = both _ (leb (cursor_length b) 2061) a₁.0 in
    let c₁ = both _ (leb 13 (cursor_length b)) c₂.0 in
    let z₂ = both _ (zeros_at 488 20 b) c₁.0 in
    let z₁ = both (has_header_kind b) (zeros_at 2 2 b) z₂.0 in
    record {
      head = z₁.0;
      zeros = z₁.1;
      rest = z₂.1;
      lengths = record {
        cursor-low = leb-true 13 (cursor_length b) c₁.1;
        cursor_high = leb-true (cursor_length b) 2061 c₂.1;
        attempt_low = leb-true 9 (attempt_length b) a₁.1;
        attempt_high = leb-true (attempt_length b) 1545 a₂.1;
      };
      count = eqb-true (body_count b) (bodies_for (payload_length b)) n.1;
    }

-- so it counts 1 to 8 bodies
pub well_formed_counted : (b : List ℕ) → WellFormed b → Counted (body_count b) (payload_length b)
well_formed_counted b f =
    record {
      count = f.count;
      some-body = omega (arith, f.count, f.lengths);
      most = omega (arith, f.count, f.lengths);
    }

pub says_well_formed : (b : List ℕ) → WellFormed b → well_formed b ≡ true
unfolding well_formed
says_well_formed b f =
    rw (
      f.head,
      f.zeros,
      f.rest,
      le-leb 13 (cursor_length b) f.lengths.cursor-low,
      le-leb (cursor_length b) 2061 f.lengths.cursor_high,
      le-leb 9 (attempt_length b) f.lengths.attempt_low,
      le-leb (attempt_length b) 1545 f.lengths.attempt_high,
      eq-eqb (body_count b) (bodies_for (payload_length b)) f.count,
    )

pub no-form : (b : List ℕ) → (WellFormed b → ⊥) → false ≡ well_formed b
no-form b n = refuted (well_formed b) (λ e. n (well_formed_says b e))

-- the body count by the lengths that were read
pub count-read : (b : List ℕ) (n lc la : ℕ) → n ≡ bodies_for (lc + la) → lc ≡ cursor_length b → la ≡ attempt_length b
    → n ≡ bodies_for (payload_length b)
count-read b n lc la e c a = rw (← c, ← a) e

-- a header sound in all but its fit
pub but_fit-says : (k : ℕ) (b : List ℕ) → sound_but_fit k b ≡ true → WellFormed b × (group_of b ≡ k)
but_fit-says k b e =
    let n = both (well_formed b) (eqb (group_of b) k) e in
    (well_formed_says b n.0, eqb-true (group_of b) k n.1)

pub record Header (hi k i : ℕ) (b : List ℕ) : Type 0 where
  pub form : WellFormed b
  pub number : group_of b ≡ k
  pub fits : i + 1 + body_count b ≤ hi

module _ (hi k i : ℕ) (b : List ℕ) where
  pub header-says : sound_header hi k i b ≡ true → Header hi k i b
  unfolding sound_header
  header-says e =
      let f = both (well_formed b && eqb (group_of b) k) (leb (i + 1 + body_count b) hi) e in
      let n = both (well_formed b) (eqb (group_of b) k) f.0 in
      record {
        form = well_formed_says b n.0;
        number = eqb-true (group_of b) k n.1;
        fits = leb-true (i + 1 + body_count b) hi f.1;
      }

  pub says-header : Header hi k i b → sound_header hi k i b ≡ true
  unfolding sound_header
  says-header h =
      rw (says_well_formed b h.form, eq-eqb (group_of b) k h.number) (le-leb (i + 1 + body_count b) hi h.fits)

  pub no_header : (Header hi k i b → ⊥) → false ≡ sound_header hi k i b
  no_header n = refuted (sound_header hi k i b) (λ e. n (header-says e))

pub record Body (k j used : ℕ) (b : List ℕ) : Type 0 where
  pub kind : is_kind 2 b ≡ true
  pub number : group_of b ≡ k
  pub index : index_of b ≡ j
  pub bytes : used_of b ≡ used
  pub rest : zeros_at (500 - used) (8 + used) b ≡ true

module _ (k j used : ℕ) (b : List ℕ) where
  pub body-says : sound_body k j used b ≡ true → Body k j used b
  unfolding sound_body
  body-says e =
      let r = both _ (zeros_at (500 - used) (8 + used) b) e in
      let u = both _ (eqb (used_of b) used) r.0 in
      let i = both _ (eqb (index_of b) j) u.0 in
      let n = both (is_kind 2 b) (eqb (group_of b) k) i.0 in
      record {
        kind = n.0;
        number = eqb-true (group_of b) k n.1;
        index = eqb-true (index_of b) j i.1;
        bytes = eqb-true (used_of b) used u.1;
        rest = r.1;
      }

  pub says-body : Body k j used b → sound_body k j used b ≡ true
  unfolding sound_body
  says-body s =
      rw (
        s.kind,
        eq-eqb (group_of b) k s.number,
        eq-eqb (index_of b) j s.index,
        eq-eqb (used_of b) used s.bytes,
      )
      s.rest

  -- the last test, at the place where the zeros begin
  pub body-test : (from : ℕ) → from ≡ min (8 + used) 508
      → is_kind 2 b ≡ true → group_of b ≡ k → index_of b ≡ j → used_of b ≡ used
      → all_zero (take (508 - from) (drop from b)) ≡ sound_body k j used b
  unfolding sound_body
  body-test from e s n i u =
      rw (s, eq-eqb (group_of b) k n, eq-eqb (index_of b) j i, eq-eqb (used_of b) used u)
      (elim (dec_le used 500) [
        | yes h ↦
            let f : from ≡ 8 + used = omega arith in
            let r : 508 - (8 + used) ≡ 500 - used = omega arith in
            rw (f, r)
        | no h ↦
            let f : 508 - from ≡ 0 = omega arith in
            let r : 500 - used ≡ 0 = omega arith in
            rw (f, r)
      ])

  pub no_body : (Body k j used b → ⊥) → false ≡ sound_body k j used b
  no_body n = refuted (sound_body k j used b) (λ e. n (body-says e))

-- ## What is written is sound
module _ (k ceiling lc la : ℕ) where
  pub header-has-kind : has_header_kind (header_block k ceiling lc la) ≡ true
  header-has-kind =
      says-kind 1 (header_block k ceiling lc la) (record {
        whole = header-length k ceiling lc la;
        kind-is = header-kind k ceiling lc la;
        check = header-sealed k ceiling lc la;
      })

  module _ (allowed : Lengths lc la) where
    pub header_well_formed : well_formed (header_block k ceiling lc la) ≡ true
    header_well_formed =
        let c : cursor_length (header_block k ceiling lc la) ≡ lc = header-cursor k ceiling lc la (omega arith) in
        let a : attempt_length (header_block k ceiling lc la) ≡ la = header_attempt k ceiling lc la (omega arith) in
        says_well_formed (header_block k ceiling lc la) (record {
          head = header-has-kind;
          zeros = header-zeros k ceiling lc la;
          rest = header-rest k ceiling lc la;
          lengths = rw (c, a) allowed;
          count = rw (c, a) (header-count k ceiling lc la (omega arith));
        })

    pub header-sound : (hi i : ℕ) → k < 256 ^ 4 → i + 1 + bodies_for (lc + la) ≤ hi
        → sound_header hi k i (header_block k ceiling lc la) ≡ true
    header-sound hi i n h =
        says-header hi k i (header_block k ceiling lc la) (record {
          form = well_formed_says (header_block k ceiling lc la) header_well_formed;
          number = header-number k ceiling lc la n;
          fits = omega (arith, header-count k ceiling lc la (omega arith));
        })

module _ (k j : ℕ) (chunk : List ℕ) (few : length chunk ≤ 500) where
  pub body-other-kind : has_header_kind (body_block k j chunk) ≡ false
  body-other-kind = other-kind 1 (body_block k j chunk) (λ q. omega (arith, body-kind k j chunk few))

  pub body-sound : k < 256 ^ 4 → j < 256 → sound_body k j (length chunk) (body_block k j chunk) ≡ true
  body-sound n m =
      says-body k j (length chunk) (body_block k j chunk) (record {
        kind = says-kind 2 (body_block k j chunk) (record {
          whole = body-length k j chunk few;
          kind-is = body-kind k j chunk few;
          check = body-sealed k j chunk few;
        });
        number = body-number k j chunk few n;
        index = body-index k j chunk few m;
        bytes = body-used k j chunk few;
        rest = body-rest k j chunk few;
      })
