-- A snapshot in version 2 written pair by pair: what is left to write and what was written give the whole. Assumes nothing.
use Prim.Native.Nat.{ℕ, ◌+◌, ◌*◌, ◌≤◌}
use native.Mathlib.Omega.{arith}
use mathlib.Core.Path.{◌≡◌, refl, sym, ap, ◌∙◌}
use mathlib.Core.Bool.{true}
use mathlib.Core.List.{List, ◌∷◌}
use lib.ListN.{length, take, drop}
use Rattle.types.specs.Limits.{PAIRS}
use Rattle.types.specs.Refusal.{done}
use Rattle.types.specs.Table.{answer}
use Rattle.types.specs.Keyed.{Entry, entry}
use Rattle.raw.specs.Bytes.{le, overwrite}
use Rattle.raw.proofs.Bytes.{overwrite-append, length-overwrite, write-room}
use Rattle.crc.specs.Crc32c.{crc}
use Rattle.attempt.specs.Snapshot.{pairs_bytes, body_bytes, encode_into2, offset_at, attempt_at}
use Rattle.attempt.proofs.Snapshot.{length-body}
use Rattle.attempt.proofs.Writing.{put_from, put_all, encoded}

-- ## the pairs
-- what the pairs that are left give, written from pair i of n on
abbrev pub putting : (n at i : ℕ) → List (Entry ℕ) → List ℕ → List ℕ
putting n at i l out = put_from true n at i l out

pub putting-more : (n at i : ℕ) (offset attempt : ℕ) (l m : List (Entry ℕ)) (out after : List ℕ) → m ≡ entry offset attempt ∷ l
    → after ≡ overwrite (at + attempt_at true n i) (le 4 attempt) (overwrite (at + offset_at true i) (le 8 offset) out)
    → putting n at (i + 1) l after ≡ putting n at i m out
putting-more n at i offset attempt l m out after e w = rw (e, w)

pub putting-all : (n at : ℕ) (l : List (Entry ℕ)) (out : List ℕ) → length l ≡ n → at + (5 + 12 * n) ≤ length out
    → putting n at 0 l out ≡ overwrite (at + 5) (pairs_bytes true l) out
putting-all = put_all true

-- ## the whole
module _ (l : List (Entry ℕ)) (n at : ℕ) (bs o₁ o₂ o₃ : List ℕ) (size : length l ≡ n) (few : n ≤ PAIRS) (room : at + (9 + 12 * n) ≤ length bs)
    (opened : o₁ ≡ overwrite at (2 ∷ le 4 n) bs) (pairs : o₂ ≡ overwrite (at + 5) (pairs_bytes true l) o₁)
    (closed : o₃ ≡ overwrite (at + (5 + 12 * n)) (le 4 (crc (take (5 + 12 * n) (drop at o₂)))) o₂) where
  body : o₂ ≡ overwrite at (body_bytes 2 l) bs
  body = pairs ∙ rw (opened, size) (overwrite-append at (2 ∷ le 4 n) (pairs_bytes true l) bs (omega arith))

  long : length o₂ ≡ length bs
  long = ap length body ∙ length-overwrite at (body_bytes 2 l) bs (omega (arith, length-body 2 l, size))

  pub pairs-encoded : answer (done (at + (9 + 12 * n))) o₃ ≡ encode_into2 l at bs
  pairs-encoded =
      let check = crc (take (5 + 12 * n) (drop at o₂)) in
      let seal = ap (answer (done (at + (5 + 12 * n) + 4))) closed ∙ sym (write-room (at + (5 + 12 * n)) (le 4 check) o₂ (omega (arith, long))) in
      encoded 2 l n at bs size few o₂ o₃ check (5 + 12 * n) room refl body refl seal
