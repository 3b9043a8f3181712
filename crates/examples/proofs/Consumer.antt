-- Settled example 13 holds, and the premise of `version-free-restart` is met by the foreign journal in either version. Assumes nothing.
use Rattle.std.specs.Prelude.{ℕ, zero, suc, ◌+◌, ◌-◌, ◌*◌, ◌≤◌, ◌<◌, ◌≡◌, refl, List, [], ◌∷◌, ◌++◌, length, take, drop, replicate}
use Rattle.std.proofs.Common.{arith, sym, ap, ◌∙◌}
use Rattle.std.proofs.Math.Bool.{xor}
use Rattle.std.proofs.Math.Seq.{drop-append-add}
use Rattle.crc.specs.Crc32c.{bits, unbits, polynomial, crc}
use Rattle.crc.specs.Seal.{is_sealed}
use Rattle.cursor.specs.Snapshot.{encode_cursor}
use Rattle.attempt.specs.Snapshot.{encode_attempts}
use Rattle.journal.specs.Area.{block_at}
use Rattle.journal.specs.Blocks.{header_block, body_block}
use Rattle.journal.specs.Sound.{is_kind, well_formed, sound_header, sound_body}
use Rattle.journal.specs.Walks.{group_at, walk_over, walk_from}
use Rattle.consumer.specs.State.{bad_area}
use Rattle.consumer.specs.Calls.{claim}
use Rattle.starts.specs.Restart.{start, origin}
use Rattle.starts.specs.Versions.{Measured, Stands, OtherVersion}
use Rattle.examples.specs.Consumer.{Example13, source, group_in, in_version, Body}

pub example_13 : Example13
unfolding bad_area start claim
example_13 = record { started = refl; always = λ c size w now p h. rw (p.0, p.1.0, h) }

-- ## The two journals
one-body : (n : ℕ) → n ≡ 1 → (P : ℕ → Type 0) → P 0 → (j : ℕ) → j < n → P j
one-body n e P p zero h = p
one-body n e P p (suc j) h = absurd (omega (arith, e))

-- the same zeros behind the group
zeros-behind : (a : List ℕ) (j : ℕ) → length a ≡ 1024 → 2 ≤ j → block_at (a ++ replicate 8192 0) j ≡ take 512 (drop (512 * j - 1024) (replicate 8192 0))
unfolding block_at
zeros-behind a j e h =
    let at : 512 * j ≡ length a + (512 * j - 1024) = omega (arith, e) in
    ap (take 512) (ap (λ k. drop k (a ++ replicate 8192 0)) at ∙ drop-append-add a (replicate 8192 0) (512 * j - 1024))

stands_1 : Stands (in_version 1) 1 source
unfolding encode_cursor encode_attempts block_at header_block body_block bits unbits polynomial crc xor
stands_1 = record { header = refl; bodies = one-body _ refl (Body 1) refl }

stands_2 : Stands (in_version 2) 2 source
unfolding encode_cursor encode_attempts block_at header_block body_block bits unbits polynomial crc xor
stands_2 = record { header = refl; bodies = one-body _ refl (Body 2) refl }

pub source_measured : Measured source
unfolding encode_cursor
source_measured =
    record {
      number_fits = omega arith;
      cursor-low = omega arith;
      cursor_high = omega arith;
      counts-fit = ((omega arith, omega arith), ((omega arith, omega arith), ((omega arith, omega arith), ((omega arith, omega arith), tt))));
      few = omega arith;
    }

pub version-free-met : OtherVersion (in_version 1) (in_version 2) 1 2 source
unfolding origin encode_cursor encode_attempts block_at header_block body_block is_kind well_formed sound_header sound_body group_at walk_over walk_from is_sealed bits unbits polynomial crc xor
version-free-met =
    record {
      size = refl;
      last = refl;
      one = stands_1;
      other = stands_2;
      before = λ j l h. absurd (omega arith);
      after = λ j h. zeros-behind (group_in 2) j refl h ∙ sym (zeros-behind (group_in 1) j refl h);
    }
