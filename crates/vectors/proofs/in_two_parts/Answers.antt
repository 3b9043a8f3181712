-- `vectors::in_two_parts` meets its contract: the check can be taken in parts. Assumes nothing.
use Prim.Native.Nat.{ℕ, ◌/◌, ◌-◌, ◌≤◌}
use native.Mathlib.Omega.{arith}
use mathlib.Core.Path.{◌≡◌, sym, ap, ◌∙◌}
use mathlib.Core.List.{List}
use lib.ListN.{length, take, drop, take-append-drop, length-drop}
use lib.Seq.{length-take-le, take_all}
use borrow.Author.Rules.{rules}
use Rattle.crc.specs.Crc32c.{crc, crc_from}
use Rattle.crc.proofs.Crc.{crc-append}
use Rattle.vectors.proofs.in_two_parts.Goals as goal

two-parts : (b : List ℕ) (k : ℕ) → crc_from (crc (take k b)) (take (length b - k) (drop k b)) ≡ crc b
two-parts b k =
    let l : length (drop k b) ≤ length b - k = simp length-drop (omega arith) in
    rw (take_all (length b - k) (drop k b) l, crc-append, take-append-drop)

pub slice_bounds-crc32c-end : goal.slice_bounds-crc32c-end
slice_bounds-crc32c-end c =
    let b = c.args.bytes.now in
    sym (length-take-le (length b / 2) b (omega arith))

pub returns : goal.returns
returns c =
    let b = c.args.bytes.now in
    c.crc32c_append.ensures
    ∙ ap (λ (n : ℕ). crc_from n (take (length b - length b / 2) (drop (length b / 2) b))) c.crc32c.ensures
    ∙ two-parts b (length b / 2)
