-- An answer that is stored leaves what lies behind it. Assumes nothing.
use Prim.Native.Nat.{ℕ, ◌+◌, ◌≤◌}
use native.Mathlib.Omega.{arith}
use mathlib.Core.Path.{◌≡◌, refl, ap, ◌∙◌}
use mathlib.Core.List.{List, ◌++◌}
use lib.ListN.{length, set, take, drop, length-append}
use lib.Seq.{drop-set-lt, length-take-le}
use Rattle.std.proofs.lemmas.Slice.{drop-append-drop}
use Rattle.operations.specs.Runs.{six_at}

pub six-rest : (k at : ℕ) (answer : List ℕ) (digest : ℕ) (out : List ℕ) {after : List ℕ} → length answer ≡ 5 → at + 6 ≤ length out → after ≡ six_at at answer digest out → at + 6 ≤ k
    → drop k after ≡ drop k out
six-rest k at answer digest out five room s h =
    let ahead : List ℕ = take at out ++ answer in
    let size : length ahead ≡ at + 5 = length-append (take at out) answer ∙ omega (arith, length-take-le at out (omega arith), five) in
    ap (drop k) s
    ∙ drop-set-lt k (ahead ++ drop (at + 5) out) (at + 5) digest (omega arith)
    ∙ drop-append-drop (at + 5) out ahead k (omega arith) size
