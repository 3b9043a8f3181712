-- Laws of lines in a buffer: each way to take one answers as the definition says, and what is taken and what is left lie in the
-- buffer; and reading more keeps what was still to be taken. Assumes nothing.
use Prim.Native.Nat.{ℕ, ◌+◌, ◌-◌, ◌<◌, ◌≤◌}
use native.Mathlib.Omega.{arith}
use mathlib.Core.Path.{◌≡◌, refl, sym, ap, ◌∙◌}
use mathlib.Core.Bool.{Bool, true, false, cond, ◌||◌}
use mathlib.Core.List.{List, ◌++◌, append_assoc}
use Rattle.std.proofs.lemmas.List.{take-append-le}
use Rattle.std.proofs.lemmas.List.Edits.{take-paste}
use Rattle.std.specs.Prelude.{Some, None}
use lib.Dec.{ltb}
use lib.ListN.{length, take, drop, get_or, length-take, length-drop}
use lib.Seq.{paste, take-add, take-take, drop_at}
use borrow.Author.Tests.{lt-ltb, le-ltb}
use Rattle.types.proofs.Cases.{split}
use Rattle.text.specs.Words.{length_to}
use Rattle.text.specs.Lines.{NEWLINE, Within, unread, line_in, line_at, after, take_away, is_long, with_more_to, last_line, passing, for_more, Lies, Took, with_more, Refilled}
use Rattle.text.specs.declared.lines.Input.{Input}
use Rattle.text.specs.declared.lines.Found.TheVariants.{More}

module _ (n : ℕ) where
  either : (b : Bool) (i j : Input) → Within n i → Within n j → Within n (cond b i j)
  either true i j v w = v
  either false i j v w = w

  module _ (i : Input) (w : Within n i) where
    line_lies : (to : ℕ) → i.from ≤ to → to ≤ n → Lies n (line_at i to)
    line_lies to h l = elim i.long as (λ o. Lies n (line_in o i.from to)) [ Some first ↦ tt | None ↦ (h, l) ]

    after-within : (from : ℕ) → from ≤ i.to → Within n (after i from)
    after-within from h = record { ordered = h; inside = w.inside }

    passing-within : (first : ℕ) → Within n (passing i first)
    passing-within first = record { ordered = omega arith; inside = omega arith }

    more_within : (len first : ℕ) → Within n (for_more i len first)
    more_within len first =
        elim i.long as (λ o. Within n (with_more_to o i len first)) [
          | Some begun ↦ passing-within begun
          | None ↦ either (ltb (i.to - i.from) len) _ _ w (passing-within first)
        ]

module _ (buf : List ℕ) (i : Input) (w : Within (length buf) i) where
  pub took_line : (k : ℕ) → k ≡ length_to NEWLINE (unread buf i) → k < i.to - i.from
      → Took buf i (take_away (line_at i (i.from + k)) (after i (i.from + k + 1)))
  took_line k e h =
      record {
        is = rw (← e, lt-ltb k (i.to - i.from) h);
        lies = line_lies (length buf) i w (i.from + k) (omega arith) (omega (arith, w.inside));
        left = after-within (length buf) i w (i.from + k + 1) (omega arith);
      }

  module _ (k : ℕ) (e : k ≡ length_to NEWLINE (unread buf i)) (h : i.to - i.from ≤ k) where
    pub took_last : i.ended ≡ true → Took buf i (last_line i)
    took_last t =
        record {
          is = rw (← e, le-ltb k (i.to - i.from) h, t);
          lies = split (ltb i.from i.to || is_long i.long) (λ b. rw b (line_lies (length buf) i w i.to w.ordered w.inside)) (λ b. rw b tt);
          left = split (ltb i.from i.to || is_long i.long) (λ b. rw b (after-within (length buf) i w i.to (omega arith))) (λ b. rw b w);
        }

    pub took_more : i.ended ≡ false → Took buf i (take_away More (for_more i (length buf) (get_or buf i.from 0)))
    took_more f =
        record {
          is = rw (← e, le-ltb k (i.to - i.from) h, f);
          lies = tt;
          left = more_within (length buf) i w (length buf) (get_or buf i.from 0);
        }

-- the bytes from a place up to another
between : (buf : List ℕ) (a b : ℕ) → a ≤ b → a ≤ length buf → drop a (take b buf) ≡ take (b - a) (drop a buf)
between buf a b h l =
    let e : b ≡ a + (b - a) = omega arith in
    ap (λ (n : ℕ). drop a (take n buf)) e
    ∙ rw (take-add a (b - a)) (drop_at (take a buf) (take (b - a) (drop a buf)) a (simp length-take (omega arith)))

-- bytes that came to the front: others stand behind them, or they were copied there
module _ (buf : List ℕ) (from to : ℕ) (h : from ≤ to) (l : to ≤ length buf) where
  enough : to - from ≤ length (drop from buf)
  enough = simp length-drop (omega arith)

  pub before-others : (ys zs : List ℕ) → take (to - from) (take (to - from) (drop from buf) ++ ys ++ zs) ≡ drop from (take to buf)
  before-others ys zs =
      let n = to - from in
      let xs = take n (drop from buf) in
      let e : n ≤ length xs = simp length-take (omega (arith, enough)) in
      rw (append_assoc xs ys zs) (take-append-le n xs (ys ++ zs) e)
      ∙ take-take n n (drop from buf) (omega arith)
      ∙ sym (between buf from to h (omega arith))

  pub copied-there : take (to - from) (paste buf 0 (drop from buf) (to - from)) ≡ drop from (take to buf)
  copied-there =
      let n = to - from in
      let e : n ≡ 0 + n = omega arith in
      ap (λ (m : ℕ). take m (paste buf 0 (drop from buf) n)) e
      ∙ take-paste buf 0 (drop from buf) n (omega arith) enough
      ∙ sym (between buf from to h (omega arith))

module _ (buf : List ℕ) (i : Input) (w : Within (length buf) i) where
  length-unread : length (unread buf i) ≡ i.to - i.from
  length-unread = simp (length-take, length-drop) (omega (arith, w.ordered, w.inside))

  -- a buffer with what was still to be taken at its front
  pub refilled : (out : List ℕ) (came : ℕ) → (i.to - i.from) + came ≤ length buf
      → take (i.to - i.from) out ≡ drop i.from (take i.to buf) → Refilled buf i (with_more i came) out
  refilled out came h e =
      record {
        came = came;
        is = refl;
        kept = rw length-unread (take-take (i.to - i.from) (i.to - i.from + came - 0) out (omega arith) ∙ e ∙ between buf i.from i.to w.ordered (omega (arith, w.ordered, w.inside)));
        within = record { ordered = omega arith; inside = h };
      }
