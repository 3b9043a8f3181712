-- `of_snapshots` meets its contract: both lists as far as they are said to go, and as they go. Assumes nothing.
-- ---- both lists: how many numbers they are with their lengths, and the byte at a place
use Prim.Native.Nat.{ℕ, suc, ◌+◌, min}
use native.Mathlib.Omega.{arith}
use mathlib.Core.Path.{◌≡◌, refl, sym, ap, ◌∙◌}
use mathlib.Core.List.{List, ◌++◌}
use lib.ListN.{length, take, get_or, length-take, length-append}
use lib.Seq.{length-take-le}
use borrow.Author.Rules.{rules}
use Rattle.answers.proofs.Places.{first_shorter, same_numbers}
use Rattle.answers.proofs.of_snapshots.Goals as goal

module _ (cursor attempts : List ℕ) (n k n' k' : ℕ) (front : n' ≡ min n (length cursor)) (behind : k' ≡ min k (length attempts)) where
  count : n' + k' + 2 ≡ suc (suc (length (take n cursor ++ take k attempts)))
  count = simp (length-append, length-take) (omega arith)

  same_byte : (i b : ℕ) → b ≡ get_or (take n' cursor ++ take k' attempts) i 0 → b ≡ get_or (take n cursor ++ take k attempts) i 0
  same_byte i b e =
      e
      ∙ ap (λ (l : List ℕ). get_or (l ++ take k' attempts) i 0) (ap (λ (m : ℕ). take m cursor) front ∙ first_shorter n cursor)
      ∙ ap (λ (l : List ℕ). get_or (take n cursor ++ l) i 0) (ap (λ (m : ℕ). take m attempts) behind ∙ first_shorter k attempts)

pub slice_bounds-front-end : goal.slice_bounds-front-end
slice_bounds-front-end c =
    sym (length-take-le _ c.args.cursor.now (omega (arith, c.shorter-n.ensures)))

pub slice_bounds-behind-end : goal.slice_bounds-behind-end
slice_bounds-behind-end c =
    sym (length-take-le _ c.args.attempts.now (omega (arith, c.shorter-k.ensures)))

pub returns : goal.returns
returns c =
    let a = c.args in
    let n = c.shorter-n.ensures in
    let m = c.shorter-k.ensures in
    same_numbers (count a.cursor.now a.attempts.now a.lengths.cursor_len a.lengths.attempt_len _ _ n m) refl refl
    (same_byte a.cursor.now a.attempts.now a.lengths.cursor_len a.lengths.attempt_len _ _ n m 0 _ c.byte_in.ensures)
    (same_byte a.cursor.now a.attempts.now a.lengths.cursor_len a.lengths.attempt_len _ _ n m 1 _ c.byte_in-2.ensures)
    (same_byte a.cursor.now a.attempts.now a.lengths.cursor_len a.lengths.attempt_len _ _ n m 2 _ c.byte_in-3.ensures)
