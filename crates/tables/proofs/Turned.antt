-- Two parts of a list that are turned round one by one, and then together: they have changed places. Assumes nothing.
use Prim.Native.Nat.{ℕ, ◌+◌, ◌-◌, ◌≤◌}
use native.Mathlib.Omega.{arith}
use mathlib.Core.Path.{◌≡◌, sym, ap, ◌∙◌}
use mathlib.Core.List.{List, ◌++◌, reverse, reverse-append, reverse-reverse}
use lib.ListN.{length, take, drop, length-append, length-drop, length-reverse}
use lib.Seq.{take_at, drop_at, take-take, drop-drop, length-take-le}
use borrow.Rule.Slice.PartMut.{put_mid}
use Rattle.std.proofs.lemmas.Slice.{take-put_mid, drop-put_mid}
use Rattle.std.proofs.lemmas.List.{drop-take}
use Rattle.tables.specs.Slots.{set_aside}

pub turned : {A : Type 0} (n k : ℕ) (l x y z : List A) → k ≤ n → n ≤ length l → x ≡ reverse (take k l) → y ≡ reverse (take (n - k) (drop k (x ++ drop k l)))
    → z ≡ reverse (take n (put_mid k (n - k) (x ++ drop k l) y)) → z ++ drop n (put_mid k (n - k) (x ++ drop k l) y) ≡ set_aside n 0 k l
turned {A} n k l x y z h m e f g =
    let all : k + (n - k) ≡ n = omega arith in
    let none : k - 0 ≡ k = omega arith in
    let lx : length x ≡ k = ap length e ∙ length-reverse (take k l) ∙ length-take-le k l (omega arith) in
    let behind : drop k (x ++ drop k l) ≡ drop k l = drop_at x (drop k l) k lx in
    let y' : y ≡ reverse (take (n - k) (drop k l)) = f ∙ ap (λ (t : List A). reverse (take (n - k) t)) behind in
    let ly : length y ≡ n - k = ap length y' ∙ length-reverse (take (n - k) (drop k l)) ∙ length-take-le (n - k) (drop k l) (simp length-drop (omega arith)) in
    let long : k ≤ length (x ++ drop k l) = simp length-append (omega (arith, lx)) in
    let front : take n (put_mid k (n - k) (x ++ drop k l) y) ≡ x ++ y =
    take-put_mid k (n - k) (x ++ drop k l) y n (omega (arith, ly)) long ∙ ap (λ (t : List A). t ++ y) (take_at x (drop k l) k lx) in
    let rest : drop n (put_mid k (n - k) (x ++ drop k l) y) ≡ drop n l =
    drop-put_mid k (n - k) (x ++ drop k l) y n (omega arith) long ly
    ∙ ap (λ (i : ℕ). drop i (x ++ drop k l)) (sym all)
    ∙ sym (drop-drop (n - k) k (x ++ drop k l))
    ∙ ap (drop (n - k)) behind
    ∙ drop-drop (n - k) k l
    ∙ ap (λ (i : ℕ). drop i l) all in
    let second : reverse y ≡ drop k (take n l) =
    ap reverse y' ∙ reverse-reverse (take (n - k) (drop k l)) ∙ sym (drop-take k (n - k) l) ∙ ap (λ (i : ℕ). drop k (take i l)) all in
    let first : reverse x ≡ take k (take n l) = ap reverse e ∙ reverse-reverse (take k l) ∙ sym (take-take k n l h) in
    let both : z ≡ drop k (take n l) ++ take k (take n l) =
    g ∙ ap reverse front ∙ reverse-append x y ∙ ap (λ (t : List A). t ++ reverse x) second ∙ ap (λ (t : List A). drop k (take n l) ++ t) first in
    ap (λ (t : List A). t ++ drop n (put_mid k (n - k) (x ++ drop k l) y)) both
    ∙ ap (λ (t : List A). (drop k (take n l) ++ take k (take n l)) ++ t) rest
    ∙ ap (λ (i : ℕ). (drop k (take n l) ++ take i (take n l)) ++ drop n l) (sym none)
