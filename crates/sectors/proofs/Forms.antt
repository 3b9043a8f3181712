-- What sector 0 says, test by test, from the comparisons that the code makes; that what is laid down is read back; and what is right of
-- a file that is sound. Assumes nothing.
use Prim.Native.Nat.{ℕ, ◌*◌, ◌/◌, ◌%◌, ◌≤◌}
use native.Mathlib.Omega.{arith}
use mathlib.Core.Path.{◌≡◌, refl, ap}
use mathlib.Core.Bool.{true, false, cond, not, ◌||◌}
use mathlib.Core.List.{List, ◌++◌}
use Rattle.std.specs.Prelude.{Result, Ok, Err}
use lib.Dec.{ltb, eqb}
use lib.ListN.{take, replicate}
use lib.Seq.{take_at}
use borrow.Author.Tests.{eq-eqb, ne_eqb, eqb-true, ltb-false, le-ltb, not-false}
use Rattle.types.proofs.Cases.{split, neither}
use Rattle.raw.specs.Bytes.{le, unle, number_at}
use Rattle.raw.proofs.Bytes.{unle-le}
use Rattle.crc.specs.Seal.{sealed, is_sealed}
use Rattle.crc.proofs.Seal.{length-sealed, sealed_ok}
use Rattle.consumer.specs.State.{bad_area}
use Rattle.sectors.specs.File.{
  SECTOR,
  magic,
  version_of,
  size_of,
  blocks_of,
  journals_of,
  wrong_blocks,
  wrong_journals,
  file_bytes,
  layout,
  form_of,
  sector_zero,
  ReadsBack,
  SoundIs,
  SoundSays,
}
use Rattle.sectors.specs.declared.Layout.{Layout}
use Rattle.sectors.specs.declared.FormError.{FormError}
use Rattle.sectors.specs.declared.FormError.TheVariants.{Magic, Version, SectorBytes, Blocks, Journals, Check, Length}

-- ## the tests, one after the other
module _ (s : List ℕ) (n : ℕ) where
  pub other-magic : (number_at 8 0 s ≡ unle magic → ⊥) → Err Magic ≡ form_of s n
  unfolding form_of
  other-magic h = rw (ne_eqb (number_at 8 0 s) (unle magic) h)

  module _ (m : number_at 8 0 s ≡ unle magic) where
    pub other-version : (version_of s ≡ 1 → ⊥) → Err (Version (version_of s)) ≡ form_of s n
    unfolding form_of
    other-version h = rw (eq-eqb (number_at 8 0 s) (unle magic) m, ne_eqb (version_of s) 1 h)

    module _ (v : version_of s ≡ 1) where
      pub other-size : (size_of s ≡ SECTOR → ⊥) → Err (SectorBytes (size_of s)) ≡ form_of s n
      unfolding form_of
      other-size h = rw (eq-eqb (number_at 8 0 s) (unle magic) m, eq-eqb (version_of s) 1 v, ne_eqb (size_of s) SECTOR h)

      module _ (z : size_of s ≡ SECTOR) where
        -- the rest of the tests
        abbrev rest : Result Layout FormError
        rest =
            cond (wrong_blocks (blocks_of s)) (Err (Blocks (blocks_of s)))
            (cond (wrong_journals (journals_of s)) (Err (Journals (journals_of s)))
            (cond (not (is_sealed (take 512 s))) (Err Check)
            (cond (not (eqb n (file_bytes (blocks_of s) (journals_of s)))) (Err (Length (file_bytes (blocks_of s) (journals_of s))))
            (Ok (layout (blocks_of s) (journals_of s))))))

        pub rest-is : rest ≡ form_of s n
        unfolding form_of
        rest-is = rw (eq-eqb (number_at 8 0 s) (unle magic) m, eq-eqb (version_of s) 1 v, eq-eqb (size_of s) SECTOR z)

        pub other-blocks : wrong_blocks (blocks_of s) ≡ true → Err (Blocks (blocks_of s)) ≡ form_of s n
        other-blocks h = rw h at rest-is

        module _ (b : wrong_blocks (blocks_of s) ≡ false) where
          pub other-journals : wrong_journals (journals_of s) ≡ true → Err (Journals (journals_of s)) ≡ form_of s n
          other-journals h = rw (b, h) at rest-is

          module _ (j : wrong_journals (journals_of s) ≡ false) where
            pub other-check : is_sealed (take 512 s) ≡ false → Err Check ≡ form_of s n
            other-check h = rw (b, j, h) at rest-is

            module _ (k : is_sealed (take 512 s) ≡ true) where
              pub other_length : (n ≡ file_bytes (blocks_of s) (journals_of s) → ⊥) → Err (Length (file_bytes (blocks_of s) (journals_of s))) ≡ form_of s n
              other_length h = rw (b, j, k, ne_eqb n (file_bytes (blocks_of s) (journals_of s)) h) at rest-is

              pub all_right : n ≡ file_bytes (blocks_of s) (journals_of s) → Ok (layout (blocks_of s) (journals_of s)) ≡ form_of s n
              all_right h = rw (b, j, k, eq-eqb n (file_bytes (blocks_of s) (journals_of s)) h) at rest-is

pub same_bytes : {b b' j j' : ℕ} → b ≡ b' → j ≡ j' → file_bytes b j ≡ file_bytes b' j'
same_bytes p q = rw (p, q)

pub same-layout : {b b' j j' : ℕ} → b ≡ b' → j ≡ j' → ◌≡◌ {A = Result Layout FormError} (Ok (layout b j)) (Ok (layout b' j'))
same-layout p q = rw (p, q)

-- ## what the tests of the numbers say
pub record FewBlocks (b : ℕ) : Type 0 where
  pub even : b % 2 ≡ 0
  pub many : 18 ≤ b
  pub few : b ≤ 128

pub right-blocks : (b : ℕ) → wrong_blocks b ≡ false → FewBlocks b
right-blocks b e =
    let h = neither (not (eqb (b % 2) 0) || ltb b 18) (ltb 128 b) e in
    let o = neither (not (eqb (b % 2) 0)) (ltb b 18) h.0 in
    record { even = eqb-true (b % 2) 0 (not-false _ o.0); many = ltb-false b 18 o.1; few = ltb-false 128 b h.1 }

pub right-journals : (j : ℕ) → wrong_journals j ≡ false → j ≤ 65535
right-journals j e = ltb-false 65535 j (neither (eqb j 0) (ltb 65535 j) e).1

-- a start takes an area of so many blocks
blocks-taken : (b : ℕ) → FewBlocks b → bad_area (512 * b) ≡ false
unfolding bad_area
blocks-taken b f =
    let some : eqb (512 * b) 0 ≡ false = ne_eqb (512 * b) 0 (λ e. omega (arith, f.many)) in
    let whole : eqb (512 * b % 512) 0 ≡ true = eq-eqb (512 * b % 512) 0 (omega arith) in
    let short : ltb 65536 (512 * b) ≡ false = le-ltb 65536 (512 * b) (omega (arith, f.few)) in
    let count : 512 * b / 512 ≡ b = omega arith in
    rw (some, whole, short, count, eq-eqb (b % 2) 0 f.even, le-ltb b 18 f.many)

-- ## a file that is sound
pub sound-says : SoundSays
unfolding SoundSays form_of
sound-says s n b j e =
    split (eqb (number_at 8 0 s) (unle magic))
    (λ m. split (eqb (version_of s) 1)
    (λ v. split (eqb (size_of s) SECTOR)
    (λ z. split (wrong_blocks (blocks_of s))
    (λ p. absurd (never (rw (m, v, z, p) at e)))
    (λ p. split (wrong_journals (journals_of s))
    (λ q. absurd (never (rw (m, v, z, p, q) at e)))
    (λ q. split (is_sealed (take 512 s))
    (λ k. split (eqb n (file_bytes (blocks_of s) (journals_of s)))
    (λ l. right p q (eqb-true n (file_bytes (blocks_of s) (journals_of s)) l) (rw (m, v, z, p, q, k, l) at e))
    (λ l. absurd (never (rw (m, v, z, p, q, k, l) at e))))
    (λ k. absurd (never (rw (m, v, z, p, q, k) at e))))))
    (λ z. absurd (never (rw (m, v, z) at e))))
    (λ v. absurd (never (rw (m, v) at e))))
    (λ m. absurd (never (rw m at e)))
  where
    -- what is wrong is not sound
    never : {f : FormError} → ◌≡◌ {A = Result Layout FormError} (Err f) (Ok (layout b j)) → ⊥
    never e = cc

    right : wrong_blocks (blocks_of s) ≡ false → wrong_journals (journals_of s) ≡ false → n ≡ file_bytes (blocks_of s) (journals_of s)
        → ◌≡◌ {A = Result Layout FormError} (Ok (layout (blocks_of s) (journals_of s))) (Ok (layout b j)) → SoundIs b j n
    right p q l same =
        let form : layout (blocks_of s) (journals_of s) ≡ layout b j = cc in
        let blocks : blocks_of s ≡ b = ap (λ (x : Layout). x.blocks) form in
        let journals : journals_of s ≡ j = ap (λ (x : Layout). x.journals) form in
        let f = right-blocks b (rw blocks at p) in
        record {
          blocks = f.few;
          journals = right-journals j (rw journals at q);
          length = rw (blocks, journals) at l;
          taken = blocks-taken b f;
        }

-- ## what is laid down
pub reads-back : ReadsBack
unfolding ReadsBack form_of sector_zero
reads-back b j p q =
    let blocks : unle (le 4 b) ≡ b = unle-le 4 b (omega (arith, (right-blocks b p).few)) in
    let journals : unle (le 4 j) ≡ j = unle-le 4 j (omega (arith, right-journals j q)) in
    let body : List ℕ = magic ++ (le 4 1 ++ (le 4 SECTOR ++ (le 4 b ++ (le 4 j ++ replicate 484 0)))) in
    let check : is_sealed (take 512 (sealed body ++ replicate 3584 0)) ≡ true = rw (take_at (sealed body) (replicate 3584 0) 512 (length-sealed body)) (sealed_ok body) in
    rw (blocks, journals, p, q, check, eq-eqb (file_bytes b j) (file_bytes b j) refl)
