-- Laws of numbers in bytes: what they are, that a write is read back and changes its place alone, and how writes join.
-- Assumes nothing.
use Prim.Native.Nat.{ℕ, zero, suc, ◌+◌, ◌-◌, ◌*◌, ◌/◌, ◌%◌, ◌^◌, ◌<◌, ◌≤◌}
use native.Mathlib.Omega.{arith}
use native.Mathlib.Numerals.{add-one}
use native.Mathlib.Nat.{zero-add, suc-add, add-zero, add_assoc, pow-succ', pow-le-pow_right}
use mathlib.Core.Path.{◌≡◌, refl, sym, ap, ◌∙◌}
use mathlib.Core.Logic.{◌⊎◌, ⊎_elim}
use mathlib.Core.List.{List, [], ◌∷◌, ◌++◌, append_assoc}
use mir.Syntax.{w8}
use mir.Val.{Fits}
use lib.ListN.{length, take, drop, get_or, set, length-append, length-take, length-drop, take-append-drop, drop_of_length-le}
use lib.Seq.{sets, sets-eq, set_comm, set_split, length-take-le, get_or-drop}
use lib.Seq.{take_at, take-nil, take-take, take-append-le, take-append_seam}
use lib.Seq.{drop_at, drop-nil, drop-drop}
use borrow.Author.Tests.{lt-ltb, le-ltb}
use Rattle.types.specs.Refusal.{Result, refused, done}
use Rattle.types.specs.Refusal as refusal
use Rattle.types.specs.Table.{Answer, answer}
use Rattle.raw.specs.Bytes.{IsBytes, le, unle, number_at, overwrite, write}

-- ## bytes
pub bytes-append : (a b : List ℕ) → IsBytes a → IsBytes b → IsBytes (a ++ b)
bytes-append [] b p q = q
bytes-append (x ∷ a) b p q = (p.0, bytes-append a b p.1 q)

pub bytes_take : (n : ℕ) (bs : List ℕ) → IsBytes bs → IsBytes (take n bs)
bytes_take zero bs p = tt
bytes_take (suc n) [] p = tt
bytes_take (suc n) (b ∷ bs) p = (p.0, bytes_take n bs p.1)

pub bytes_drop : (n : ℕ) (bs : List ℕ) → IsBytes bs → IsBytes (drop n bs)
bytes_drop zero bs p = p
bytes_drop (suc n) [] p = tt
bytes_drop (suc n) (b ∷ bs) p = bytes_drop n bs p.1

-- at every place, and back; what is past the end reads as 0
pub byte_at : (bs : List ℕ) (i : ℕ) → IsBytes bs → get_or bs i 0 < 256
byte_at [] i p = omega arith
byte_at (b ∷ bs) zero p = p.0
byte_at (b ∷ bs) (suc i) p = byte_at bs i p.1

pub bytes_of : (bs : List ℕ) → ((i : ℕ) → get_or bs i 0 < 256) → IsBytes bs
bytes_of [] h = tt
bytes_of (b ∷ bs) h = (h 0, bytes_of bs (λ i. h (suc i)))

-- what is known of a slice of u8 (`.slice-known .given`, `.shared-slice-known .given`)
pub bytes-known : (bs : List ℕ) → ((i : ℕ) → Fits w8 (get_or bs i 0)) → IsBytes bs
bytes-known bs h = bytes_of bs (λ i. omega (arith, h i))

-- ## numbers
pub length-le : (k n : ℕ) → length (le k n) ≡ k
length-le zero n = refl
length-le (suc k) n = ap suc (length-le k (n / 256))

pub bytes_le : (k n : ℕ) → IsBytes (le k n)
bytes_le zero n = tt
bytes_le (suc k) n = (omega arith, bytes_le k (n / 256))

pub unle-le : (k n : ℕ) → n < 256 ^ k → unle (le k n) ≡ n
unle-le zero n h = omega arith
unle-le (suc k) n h =
    let l : n < 256 * 256 ^ k = rw pow-succ' at h in
    rw (unle-le k (n / 256) (omega arith)) (omega arith)

pub unle_lt : (bs : List ℕ) → IsBytes bs → unle bs < 256 ^ length bs
unle_lt [] p = omega arith
unle_lt (b ∷ bs) p = rw pow-succ' (omega (arith, unle_lt bs p.1))

pub le-unle : (bs : List ℕ) → IsBytes bs → le (length bs) (unle bs) ≡ bs
le-unle [] p = refl
le-unle (b ∷ bs) p =
    let low : (b + 256 * unle bs) % 256 ≡ b = omega arith in
    let high : (b + 256 * unle bs) / 256 ≡ unle bs = omega arith in
    rw (low, high, le-unle bs p.1)

-- ## a number in a list
-- a part of a list is a part of its front
part-front : (k q : ℕ) (l : List ℕ) → take k (drop q l) ≡ drop q (take (q + k) l)
part-front k zero l = rw zero-add
part-front k (suc q) [] = rw (take-nil, take-nil, drop-nil)
part-front k (suc q) (x ∷ l) = rw (suc-add, part-front k q l)

-- one byte is a number
pub number-byte : (pos : ℕ) (bs : List ℕ) → number_at 1 pos bs ≡ get_or bs pos 0
number-byte pos bs = one (drop pos bs) ∙ get_or-drop pos bs 0 0 ∙ rw add-zero
  where
    one : (l : List ℕ) → unle (take 1 l) ≡ get_or l 0 0
    one [] = refl
    one (b ∷ l) = omega arith

pub number_lt : (k pos : ℕ) (bs : List ℕ) → IsBytes bs → number_at k pos bs < 256 ^ k
number_lt k pos bs p =
    let part : List ℕ = take k (drop pos bs) in
    let few : length part ≤ k = simp length-take (omega arith) in
    let most : 256 ^ length part ≤ 256 ^ k = pow-le-pow_right (omega arith) few in
    omega (arith, unle_lt part (bytes_take k (drop pos bs) (bytes_drop pos bs p)))

-- bytes that are there are those of their number
pub le-number : (k pos : ℕ) (bs : List ℕ) → IsBytes bs → pos + k ≤ length bs → le k (number_at k pos bs) ≡ take k (drop pos bs)
le-number k pos bs p room =
    let part : List ℕ = take k (drop pos bs) in
    let size : length part ≡ k = simp (length-take, length-drop) (omega arith) in
    rw size at (le-unle part (bytes_take k (drop pos bs) (bytes_drop pos bs p)))

pub number_past : (k pos : ℕ) (bs : List ℕ) → length bs ≤ pos → number_at k pos bs ≡ 0
number_past k pos bs h = rw (drop_of_length-le bs h, take-nil)

module _ (k q n pos : ℕ) (bs : List ℕ) (h : q + k ≤ n) where
  pub part-part : take k (drop q (take n (drop pos bs))) ≡ take k (drop (pos + q) bs)
  part-part =
      rw (part-front k q (take n (drop pos bs)), take-take (q + k) n (drop pos bs) h)
      (rw (← part-front k q (drop pos bs), drop-drop))

-- ## a write
-- two stretches, each a place and a length, have no place in common
abbrev pub Apart : ℕ → ℕ → ℕ → ℕ → Type 0
Apart p m q n = (p + m ≤ q) ⊎ (q + n ≤ p)

module _ (pos : ℕ) (new bs : List ℕ) (room : pos + length new ≤ length bs) where
  before : length (take pos bs) ≡ pos
  before = length-take-le pos bs (omega arith)

  front : length (take pos bs ++ new) ≡ pos + length new
  front = simp (length-append, length-take) (omega arith)

  pub length-overwrite : length (overwrite pos new bs) ≡ length bs
  length-overwrite = simp (length-append, length-take, length-drop) (omega arith)

  -- a store of each byte
  pub overwrite-sets : overwrite pos new bs ≡ sets bs pos new
  overwrite-sets = sym (sets-eq new bs pos room ∙ append_assoc (take pos bs) new (drop (pos + length new) bs))

  -- the new bytes are there
  pub overwritten : take (length new) (drop pos (overwrite pos new bs)) ≡ new
  overwritten = rw (drop_at (take pos bs) (new ++ drop (pos + length new) bs) pos before, take-append_seam)

  pub number-overwritten : (k : ℕ) → length new ≡ k → number_at k pos (overwrite pos new bs) ≡ unle new
  number-overwritten k e = rw (← e) (ap unle overwritten)

  pub take-overwritten : take (pos + length new) (overwrite pos new bs) ≡ take pos bs ++ new
  take-overwritten =
      rw (← append_assoc) (take_at (take pos bs ++ new) (drop (pos + length new) bs) (pos + length new) front)

  -- nothing else is changed
  pub take-overwrite : (n : ℕ) → n ≤ pos → take n (overwrite pos new bs) ≡ take n bs
  take-overwrite n h =
      take-append-le n (take pos bs) (new ++ drop (pos + length new) bs) (rw before h) ∙ take-take n pos bs h

  pub drop-overwrite : (n : ℕ) → pos + length new ≤ n → drop n (overwrite pos new bs) ≡ drop n bs
  drop-overwrite n h =
      let behind : pos + length new + (n - (pos + length new)) ≡ n = omega arith in
      rw (← behind, ← drop-drop, ← append_assoc)
      (rw (drop_at (take pos bs ++ new) (drop (pos + length new) bs) (pos + length new) front, drop-drop))

  module _ (q k : ℕ) (apart : Apart pos (length new) q k) where
    pub part_apart : take k (drop q (overwrite pos new bs)) ≡ take k (drop q bs)
    part_apart = ⊎_elim
        (λ h. rw (drop-overwrite q h))
        (λ h. rw (part-front k q (overwrite pos new bs), take-overwrite (q + k) h, ← part-front k q bs))
        apart

    pub number-apart : number_at k q (overwrite pos new bs) ≡ number_at k q bs
    number-apart = ap unle part_apart

  pub get_d_apart : (i : ℕ) → Apart pos (length new) i 1 → get_or (overwrite pos new bs) i 0 ≡ get_or bs i 0
  get_d_apart i h = sym (number-byte i (overwrite pos new bs)) ∙ number-apart i 1 h ∙ number-byte i bs

  -- what write answers
  pub write-room : write pos new bs ≡ answer (done (pos + length new)) (overwrite pos new bs)
  write-room = rw (le-ltb (length bs) (pos + length new) room)

pub write-short : (pos : ℕ) (new bs : List ℕ) → length bs < pos + length new
    → write pos new bs ≡ answer (refused refusal.OutTooShort) bs
write-short pos new bs h = rw (lt-ltb (length bs) (pos + length new) h)

-- ## writes and reads
pub read-written : (k n pos : ℕ) (bs : List ℕ) → n < 256 ^ k → pos + k ≤ length bs
    → number_at k pos (overwrite pos (le k n) bs) ≡ n
read-written k n pos bs h room =
    let r : pos + length (le k n) ≤ length bs = rw length-le room in
    number-overwritten pos (le k n) bs r k (length-le k n) ∙ unle-le k n h

pub written_read : (k pos : ℕ) (bs : List ℕ) → IsBytes bs → pos + k ≤ length bs
    → overwrite pos (le k (number_at k pos bs)) bs ≡ bs
written_read k pos bs p room =
    let size : length (take k (drop pos bs)) ≡ k = simp (length-take, length-drop) (omega arith) in
    rw (le-number k pos bs p room, size, ← drop-drop, take-append-drop, take-append-drop)

-- no byte, one byte, and two runs of bytes
pub overwrite_none : (pos : ℕ) (bs : List ℕ) → overwrite pos [] bs ≡ bs
overwrite_none pos bs = rw (add-zero, take-append-drop)

pub overwrite-byte : (pos b : ℕ) (bs : List ℕ) → pos < length bs → set bs pos b ≡ overwrite pos (b ∷ []) bs
overwrite-byte pos b bs h = rw (set_split bs pos b h, add-one)

pub overwrite-append : (pos : ℕ) (a b bs : List ℕ) → pos + length a ≤ length bs
    → overwrite (pos + length a) b (overwrite pos a bs) ≡ overwrite pos (a ++ b) bs
overwrite-append pos a b bs room =
    rw (take-overwritten pos a bs room, drop-overwrite pos a bs room (pos + length a + length b) (omega arith))
    (rw (append_assoc (take pos bs) a, append_assoc a b, length-append, add_assoc))

-- writes apart from each other, in either order
set-sets : (l : List ℕ) (i x q : ℕ) (b : List ℕ) → i < q → sets (set l i x) q b ≡ set (sets l q b) i x
set-sets l i x q [] h = refl
set-sets l i x q (y ∷ b) h =
    rw (set_comm l i q x y (λ e. omega arith)) (set-sets (set l q y) i x (suc q) b (omega arith))

sets-sets : (l : List ℕ) (p : ℕ) (a : List ℕ) (q : ℕ) (b : List ℕ) → p + length a ≤ q
    → sets (sets l p a) q b ≡ sets (sets l q b) p a
sets-sets l p [] q b h = refl
sets-sets l p (x ∷ a) q b h =
    sets-sets (set l p x) (suc p) a q b (omega arith)
    ∙ ap (λ (m : List ℕ). sets m (suc p) a) (set-sets l p x q b (omega arith))

pub overwrite-apart : (p q : ℕ) (a b bs : List ℕ) → p + length a ≤ length bs → q + length b ≤ length bs
    → Apart p (length a) q (length b) → overwrite q b (overwrite p a bs) ≡ overwrite p a (overwrite q b bs)
overwrite-apart p q a b bs ha hb apart =
    both p q a b ha hb
    ∙ ⊎_elim (sets-sets bs p a q b) (λ h. sym (sets-sets bs q b p a h)) apart
    ∙ sym (both q p b a hb ha)
  where
    both : (p q : ℕ) (a b : List ℕ) → p + length a ≤ length bs → q + length b ≤ length bs
        → overwrite q b (overwrite p a bs) ≡ sets (sets bs p a) q b
    both p q a b ha hb =
        overwrite-sets q b (overwrite p a bs) (rw (length-overwrite p a bs ha) hb)
        ∙ ap (λ (m : List ℕ). sets m q b) (overwrite-sets p a bs ha)

-- ## what a call that wrote left, from its contract
module _ (pos : ℕ) (new bs : List ℕ) {o : Result ℕ} {after : List ℕ} (is : answer o after ≡ write pos new bs) where
  pub wrote-next : pos + length new ≤ length bs → o ≡ done (pos + length new)
  wrote-next room = ap (λ (a : Answer ℕ (List ℕ)). a.outcome) (is ∙ write-room pos new bs room)

  pub wrote : pos + length new ≤ length bs → after ≡ overwrite pos new bs
  wrote room = ap (λ (a : Answer ℕ (List ℕ)). a.state) (is ∙ write-room pos new bs room)

  -- behind `a`, which was written from place `start` on
  pub wrote-behind : (start : ℕ) (a before : List ℕ) → pos ≡ start + length a → bs ≡ overwrite start a before
      → start + (length a + length new) ≤ length before → after ≡ overwrite start (a ++ new) before
  wrote-behind start a before e b room =
      let r : start + length a ≤ length before = omega arith in
      let l : length bs ≡ length before = rw b (length-overwrite start a before r) in
      wrote (omega arith) ∙ rw (b, e) (overwrite-append start a new before r)
