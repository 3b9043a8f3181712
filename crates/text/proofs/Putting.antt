-- Laws of a buffer that is written out when it is full: what each of the three ways to put bytes answers, and pieces put one
-- behind the other. Assumes nothing.
use Prim.Native.Nat.{ℕ, suc, ◌+◌}
use native.Mathlib.Numerals.{add-one}
use mathlib.Core.Path.{◌≡◌, refl, sym, ap, ◌∙◌}
use mathlib.Core.List.{List, [], ◌∷◌, ◌++◌}
use lib.Dec.{ltb}
use lib.ListN.{length, drop}
use Rattle.std.specs.Prelude.{Result, Ok, Err}
use Rattle.types.specs.Refusal as math
use Rattle.types.specs.Refusal.{refused, done}
use Rattle.types.specs.Table.{Answer, answer}
use Rattle.types.proofs.Cases.{split}
use Rattle.types.specs.Refused.{as_is}
use Rattle.types.specs.declared.refusals.Refusal as code
use Rattle.raw.specs.Bytes.{write}
use Rattle.text.specs.declared.output.Output.{Output}
use Rattle.text.specs.Output.{Buffered, buffered, gathered, or_else, put, puts, Same, Says, each}

-- ## pieces
puts-append : (ps qs : List (List ℕ)) (b : Buffered) → puts (ps ++ qs) b ≡ puts qs (puts ps b)
unfolding puts
puts-append [] qs b = refl
puts-append (p ∷ ps) qs b = puts-append ps qs (put b.next p b.bytes)

same_then : {before mid after : Output} → Same before mid → Same mid after → Same before after
same_then a b = record { stdout = b.stdout ∙ a.stdout; lent = b.lent ∙ a.lent }

pub says_nothing : {o : Output} → Says [] o o
unfolding puts
says_nothing = record { is = refl; same = record { stdout = refl; lent = refl } }

pub says-one : {bs : List ℕ} {before after : Output} → gathered after ≡ put before.at bs before.bytes.now → Same before after → Says (bs ∷ []) before after
unfolding puts
says-one e s = record { is = e; same = s }

-- one behind the other
pub says_then : {ps qs : List (List ℕ)} {before mid after : Output} → Says ps before mid → Says qs mid after → Says (ps ++ qs) before after
says_then {ps} {qs} {before} a b =
    record { is = b.is ∙ ap (puts qs) a.is ∙ sym (puts-append ps qs (gathered before)); same = same_then a.same b.same }

-- what is to be put is what is put already, with the rest behind it
puts_then : (ps qs : List (List ℕ)) {before after : Output} → Says ps before after → puts (ps ++ qs) (gathered before) ≡ puts qs (gathered after)
puts_then ps qs {before} a = puts-append ps qs (gathered before) ∙ ap (puts qs) (sym a.is)

-- ## the elements of a list, one behind the other
module _ {A : Type 0} (f : ℕ → A → List (List ℕ)) (l : List A) where
  -- those from place i on are left to put
  pub record Left (before : Output) (i : ℕ) (after : Output) : Type 0 where
    pub is : puts (each f 0 l) (gathered before) ≡ puts (each f i (drop i l)) (gathered after)
    pub same : Same before after

  pub left-all : {o : Output} → Left o 0 o
  left-all = record { is = refl; same = record { stdout = refl; lent = refl } }

  pub left-next : {before mid after : Output} (i : ℕ) (x : A) → drop i l ≡ x ∷ drop (i + 1) l → Left before i mid → Says (f i x) mid after → Left before (i + 1) after
  left-next {mid = mid} {after = after} i x e left a =
      record {
        is =
            left.is
            ∙ ap (λ (m : List A). puts (each f i m) (gathered mid)) e
            ∙ puts_then (f i x) (each f (suc i) (drop (i + 1) l)) a
            ∙ ap (λ (n : ℕ). puts (each f n (drop (i + 1) l)) (gathered after)) (sym (add-one i));
        same = same_then left.same a.same;
      }

  pub left_none : {before after : Output} (i : ℕ) → drop i l ≡ [] → Left before i after → Says (each f 0 l) before after
  unfolding puts
  left_none {after = after} i e left =
      record { is = sym (left.is ∙ ap (λ (m : List A). puts (each f i m) (gathered after)) e); same = left.same }

-- ## one piece
-- a write, refused or not
module _ (at : ℕ) (bs before out : List ℕ) (w : Result ℕ code.Refusal) (wrote : answer (as_is w) out ≡ write at bs before) where
  pub kept : (r : code.Refusal) → w ≡ Err r → out ≡ before
  kept r e =
      split (ltb (length before) (at + length bs))
      (λ t. ap (λ (a : Answer ℕ (List ℕ)). a.state) (rw t at wrote))
      (λ f. let z : ◌≡◌ {A = math.Result ℕ} (refused _) (done (at + length bs)) = ap (λ (a : Answer ℕ (List ℕ)). a.outcome) (rw (e, f) at wrote) in cc)

  pub put-room : (n : ℕ) → w ≡ Ok n → buffered n out ≡ put at bs before
  put-room n e = ap (λ (a : Answer ℕ (List ℕ)). or_else a (or_else (write 0 bs before) (buffered 0 before))) (rw e at wrote)

  pub put_else : (r : code.Refusal) → w ≡ Err r → put at bs before ≡ or_else (write 0 bs before) (buffered 0 before)
  put_else r e =
      sym (ap (λ (a : Answer ℕ (List ℕ)). or_else a (or_else (write 0 bs before) (buffered 0 before))) (rw e at wrote))

module _ (at : ℕ) (bs before : List ℕ) (a b : Result ℕ code.Refusal) (out last : List ℕ) (q : code.Refusal) (short : a ≡ Err q)
    (first : answer (as_is a) out ≡ write at bs before) (second : answer (as_is b) last ≡ write 0 bs out) where
  again : answer (as_is b) last ≡ write 0 bs before
  again = second ∙ ap (λ (l : List ℕ). write 0 bs l) (kept at bs before out a first q short)

  pub put-again : (n : ℕ) → b ≡ Ok n → buffered n last ≡ put at bs before
  put-again n e =
      ap (λ (r : Answer ℕ (List ℕ)). or_else r (buffered 0 before)) (rw e at again)
      ∙ sym (put_else at bs before out a first q short)

  pub put-at-once : (r : code.Refusal) → b ≡ Err r → buffered 0 last ≡ put at bs before
  put-at-once r e =
      ap (buffered 0) (kept 0 bs before last b again r e)
      ∙ ap (λ (r : Answer ℕ (List ℕ)). or_else r (buffered 0 before)) (rw e at again)
      ∙ sym (put_else at bs before out a first q short)
