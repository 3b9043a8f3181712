-- Little-endian numbers in lists of bytes: reading sees zeros past the end, writing changes its place alone and is
-- refused, 20, where it would pass the end.
-- SPEC.md, "Numbers".
use Rattle.std.specs.Prelude.{ℕ, zero, suc, ◌+◌, ◌*◌, ◌/◌, ◌%◌, ◌<◌, Bool, true, ◌&&◌, List, [], ◌∷◌, ◌++◌, ltb, eqb, length, take, drop}
use Rattle.types.specs.Refusal.{done}
use Rattle.types.specs.Refusal as refusal
use Rattle.types.specs.Table.{◌⇒◌, Answer, answer, guarded}

-- each is a byte
abbrev pub IsBytes : List ℕ → Type 0
IsBytes [] = Unit {0}
IsBytes (b ∷ bs) = (b < 256) × IsBytes bs

-- each is zero
abbrev pub all_zero : List ℕ → Bool
all_zero [] = true
all_zero (b ∷ bs) = eqb b 0 && all_zero bs

-- the low k bytes of n, the lowest first
abbrev pub le : ℕ → ℕ → List ℕ
le zero n = []
le (suc k) n = n % 256 ∷ le k (n / 256)

-- the number that bytes are
abbrev pub unle : List ℕ → ℕ
unle [] = 0
unle (b ∷ bs) = b + 256 * unle bs

-- the number in the k bytes from place pos on, those past the end being 0
abbrev pub number_at : ℕ → ℕ → List ℕ → ℕ
number_at k pos bs = unle (take k (drop pos bs))

-- new bytes from place pos on; all others stay
abbrev pub overwrite : ℕ → List ℕ → List ℕ → List ℕ
overwrite pos new bs = take pos bs ++ (new ++ drop (pos + length new) bs)

-- the same where there is room, with the place behind the new bytes
abbrev pub write : ℕ → List ℕ → List ℕ → Answer ℕ (List ℕ)
write pos new bs =
    guarded (ltb (length bs) (pos + length new) ⇒ refusal.OutTooShort ∷ []) bs
    (answer (done (pos + length new)) (overwrite pos new bs))
