-- The premise of `versions-free-restart` is met: the two journals differ in the versions of their groups alone. Assumes nothing.
use Rattle.std.specs.Prelude.{ℕ, zero, suc, ◌+◌, ◌-◌, ◌*◌, ◌≤◌, ◌<◌, ◌≡◌, refl, List, [], ◌∷◌, ◌++◌, length, take, drop, replicate}
use Rattle.std.proofs.Common.{arith, sym, ap, ◌∙◌}
use Rattle.std.proofs.Math.Bool.{xor}
use Rattle.std.proofs.Math.Seq.{drop-append-add}
use Rattle.crc.specs.Crc32c.{bits, unbits, polynomial, crc}
use Rattle.cursor.specs.Snapshot.{encode_cursor}
use Rattle.attempt.specs.Snapshot.{encode_attempts}
use Rattle.journal.specs.Area.{block_at}
use Rattle.journal.specs.Blocks.{header_block, body_block, chunk_of}
use Rattle.starts.specs.Versions.{Source, payload_in, InBoth, SameButVersion, same, body, OtherVersions}
use Rattle.examples.specs.Versions.{first, second, groups, journal}

one-body : (n : ℕ) → n ≡ 1 → (P : ℕ → Type 0) → P 0 → (j : ℕ) → j < n → P j
one-body n e P p zero h = p
one-body n e P p (suc j) h = absurd (omega (arith, e))

abbrev Body : List ℕ → ℕ → Source → ℕ → Type 0
Body a v g j = block_at a (g.place + suc j) ≡ body_block g.number (suc j) (chunk_of (suc j) (payload_in v g))

unfoldable first-both : InBoth (journal 1 2) (journal 2 1)
unfolding encode_cursor encode_attempts block_at header_block body_block bits unbits polynomial crc xor
first-both =
    record {
      group = first;
      measured = record { number_fits = omega arith; cursor-low = omega arith; cursor_high = omega arith; counts-fit = ((omega arith, omega arith), ((omega arith, omega arith), tt)); few = omega arith };
      one = 1;
      one_known = refl;
      stands = record { header = refl; bodies = one-body _ refl (Body (journal 1 2) 1 first) refl };
      other = 2;
      other-known = refl;
      stands_too = record { header = refl; bodies = one-body _ refl (Body (journal 2 1) 2 first) refl };
    }

unfoldable second-both : InBoth (journal 1 2) (journal 2 1)
unfolding encode_cursor encode_attempts block_at header_block body_block bits unbits polynomial crc xor
second-both =
    record {
      group = second;
      measured = record {
        number_fits = omega arith;
        cursor-low = omega arith;
        cursor_high = omega arith;
        counts-fit = ((omega arith, omega arith), ((omega arith, omega arith), ((omega arith, omega arith), tt)));
        few = omega arith;
      };
      one = 2;
      one_known = refl;
      stands = record { header = refl; bodies = one-body _ refl (Body (journal 1 2) 2 second) refl };
      other = 1;
      other-known = refl;
      stands_too = record { header = refl; bodies = one-body _ refl (Body (journal 2 1) 1 second) refl };
    }

-- zeros behind the groups
zeros-behind : (a : List ℕ) (j : ℕ) → length a ≡ 2048 → 4 ≤ j → block_at (a ++ replicate 7168 0) j ≡ take 512 (drop (512 * j - 2048) (replicate 7168 0))
unfolding block_at
zeros-behind a j e h =
    let at : 512 * j ≡ length a + (512 * j - 2048) = omega (arith, e) in
    ap (take 512) (ap (λ k. drop k (a ++ replicate 7168 0)) at ∙ drop-append-add a (replicate 7168 0) (512 * j - 2048))

each : (i : ℕ) → SameButVersion (journal 1 2) (journal 2 1) i
unfolding first-both second-both encode_cursor encode_attempts block_at header_block body_block bits unbits polynomial crc xor
each zero = same refl
each (suc zero) = body first-both 0 (omega arith) refl
each (suc (suc zero)) = same refl
each (suc (suc (suc zero))) = body second-both 0 (omega arith) refl
each (suc (suc (suc (suc j)))) =
    same (zeros-behind (groups 2 1) (suc (suc (suc (suc j)))) refl (omega arith) ∙ sym (zeros-behind (groups 1 2) (suc (suc (suc (suc j)))) refl (omega arith)))

pub versions-free-met : OtherVersions (journal 1 2) (journal 2 1)
unfolding encode_cursor encode_attempts header_block body_block bits unbits polynomial crc xor
versions-free-met = record { size = refl; blocks = each }
