-- Laws of sealed bytes: they pass their test, whatever passes it is sealed, and how they are written. Assumes nothing.
use Prim.Native.Nat.{ℕ, ◌+◌, ◌-◌, ◌<◌, ◌≤◌}
use native.Mathlib.Omega.{arith}
use mathlib.Core.Path.{◌≡◌, refl, sym, ◌∙◌}
use mathlib.Core.Bool.{true, false, false≢true}
use mathlib.Core.List.{List, []}
use lib.Dec.{leb, eqb}
use lib.ListN.{length, take, drop, length-append, length-drop, drop_of_length-le}
use lib.Seq.{take_all, take_at, drop_at}
use borrow.Author.Tests.{le-leb, lt-leb, leb-true, leb-false, eqb-true, eq-eqb}
use Rattle.types.specs.Refusal.{Result}
use Rattle.types.specs.Table.{answer}
use Rattle.types.proofs.Cases.{split}
use Rattle.raw.specs.Bytes.{IsBytes, le, number_at, overwrite, write}
use Rattle.raw.proofs.Bytes.{bytes-append, bytes_le, unle-le, written_read, overwritten, wrote-behind}
use Rattle.crc.specs.Crc32c.{crc}
use Rattle.crc.specs.Seal.{sealed, is_sealed}
use Rattle.crc.proofs.Crc.{crc_lt}

pub length-sealed : (b : List ℕ) → length (sealed b) ≡ length b + 4
length-sealed b = length-append b (le 4 (crc b))

pub bytes-sealed : (b : List ℕ) → IsBytes b → IsBytes (sealed b)
bytes-sealed b h = bytes-append b (le 4 (crc b)) h (bytes_le 4 (crc b))

pub unsealed_short : (b : List ℕ) → length b < 4 → is_sealed b ≡ false
unfolding is_sealed
unsealed_short b h = rw (lt-leb 4 (length b) h)

-- the test as the code makes it
pub sealed-test : (b : List ℕ) → 4 ≤ length b → eqb (number_at 4 (length b - 4) b) (crc (take (length b - 4) b)) ≡ is_sealed b
unfolding is_sealed
sealed-test b h =
    let l : length (drop (length b - 4) b) ≤ 4 = simp length-drop (omega arith) in
    rw (le-leb 4 (length b) h, take_all 4 (drop (length b - 4) b) l)

pub sealed_ok : (b : List ℕ) → is_sealed (sealed b) ≡ true
unfolding is_sealed
sealed_ok b =
    let check : List ℕ = le 4 (crc b) in
    let n : ℕ = length (sealed b) - 4 in
    let at : length b ≡ n = omega (arith, length-sealed b) in
    rw (le-leb 4 (length (sealed b)) (omega (arith, length-sealed b)), drop_at b check n at, take_at b check n at, unle-le 4 (crc b) (crc_lt b))
    (eq-eqb (crc b) (crc b) refl)

pub sealed-of : (b : List ℕ) → IsBytes b → is_sealed b ≡ true → b ≡ sealed (take (length b - 4) b)
sealed-of b h t =
    split (leb 4 (length b))
    (λ q.
    let long : 4 ≤ length b = leb-true 4 (length b) q in
    let n : ℕ = length b - 4 in
    let check : number_at 4 n b ≡ crc (take n b) = eqb-true (number_at 4 n b) (crc (take n b)) (sealed-test b long ∙ t) in
    let end : drop (n + 4) b ≡ [] = drop_of_length-le b {i = n + 4} (omega arith) in
    sym (written_read 4 n b h (omega arith)) ∙ rw (check, end))
    (λ q. absurd (false≢true (sym (unsealed_short b (leb-false 4 (length b) q)) ∙ t)))

-- the check of bytes that were written, put behind them
pub sealed-put : (body : List ℕ) (n at : ℕ) (bs o₁ o₂ : List ℕ) (check : ℕ) {o : Result ℕ} → length body ≡ n
    → at + (n + 4) ≤ length bs → o₁ ≡ overwrite at body bs → check ≡ crc (take n (drop at o₁))
    → answer o o₂ ≡ write (at + n) (le 4 check) o₁ → o₂ ≡ overwrite at (sealed body) bs
sealed-put body n at bs o₁ o₂ check size room put sum seal =
    let there : take n (drop at o₁) ≡ body = rw (put, ← size) (overwritten at body bs (omega arith)) in
    wrote-behind (at + n) (le 4 check) o₁ seal at body bs (rw size) put (omega arith) ∙ rw (sum, there)
