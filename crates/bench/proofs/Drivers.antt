-- One turn of each driver's loop, and its last. Assumes nothing.
use Prim.Native.Nat.{ℕ, suc, ◌+◌, ◌-◌, ◌*◌, ◌≤◌, ◌<◌}
use native.Mathlib.Omega.{arith}
use native.Mathlib.Numerals.{add-one}
use mathlib.Core.Path.{◌≡◌, ap, ◌∙◌}
use mathlib.Core.List.{List}
use Rattle.types.specs.Refusal.{Result}
use Rattle.types.specs.Table.{Answer, answer}
use Rattle.raw.specs.Bytes.{write}
use Rattle.cursor.specs.Cursor.{Cursor, ackBounded, resume_with_ahead}
use Rattle.std.specs.Prelude as std
use Rattle.std.specs.Prelude.{Ok, Err}
use Rattle.std.specs.Result.{result_unwrap_or}
use Rattle.cursor.specs.View.{view, Fresh, Sound}
use Rattle.cursor.specs.Answers.{ResumedIs}
use Rattle.cursor.specs.declared.AckCursor.{AckCursor}
use Rattle.cursor.specs.declared.AckCursorError.{AckCursorError}
use Rattle.cursor.specs.declared.Range.{Range}
use Rattle.cursor.specs.Snapshot.{encode_cursor}
use Rattle.lease.specs.State.{Table}
use Rattle.lease.specs.Operations.{claim}
use Rattle.bench.specs.Drivers.{rising, falling, acks, batches, claims, Group, handled, works, cursor_of, writes}

-- what an answer leaves
pub left_by : {A S : Type 0} {o : Result A} {s : S} {a : Answer A S} → answer o s ≡ a → s ≡ a.state
left_by {A} {S} e = ap (λ (z : Answer A S). z.state) e

-- what is left to do, one less
less : (i n : ℕ) → i < n → n - i ≡ suc (n - (i + 1))
less i n h = omega arith

over : (i n : ℕ) → n ≤ i → n - i ≡ 0
over i n h = omega arith

pub acks-next : (c : Cursor) (i n : ℕ) → i < n → acks c (rising i (n - i)) ≡ acks (ackBounded c i 128).state (rising (i + 1) (n - (i + 1)))
acks-next c i n h = rw (less i n h, add-one)

pub acks-over : (c : Cursor) (i n : ℕ) → n ≤ i → acks c (rising i (n - i)) ≡ c
acks-over c i n h = rw (over i n h)

pub acks_down : (c : Cursor) (base left : ℕ) → 0 < left → acks c (falling base left) ≡ acks (ackBounded c (base + (left - 1)) 128).state (falling base (left - 1))
acks_down c base left h =
    let e : left ≡ suc (left - 1) = omega arith in
    ap (λ (k : ℕ). acks c (falling base k)) e

pub batches_next : (c : Cursor) (i n : ℕ) → i < n → batches c i (n - i) ≡ batches (acks c (falling (64 * i) 64)) (i + 1) (n - (i + 1))
batches_next c i n h = rw (less i n h, add-one)

pub batches-over : (c : Cursor) (i n : ℕ) → n ≤ i → batches c i (n - i) ≡ c
batches-over c i n h = rw (over i n h)

pub claims-next : (t : Table) (i n : ℕ) → i < n → claims t (rising i (n - i)) ≡ claims (claim t 0 i 0).state (rising (i + 1) (n - (i + 1)))
claims-next t i n h = rw (less i n h, add-one)

pub claims-over : (t : Table) (i n : ℕ) → n ≤ i → claims t (rising i (n - i)) ≡ t
claims-over t i n h = rw (over i n h)

pub works-next : (window : ℕ) (g : Group) (i n : ℕ) → i < n → works window g i (n - i) ≡ works window (handled window g i) (i + 1) (n - (i + 1))
works-next window g i n h = rw (less i n h, add-one)

pub works-over : (window : ℕ) (g : Group) (i n : ℕ) → n ≤ i → works window g i (n - i) ≡ g
works-over window g i n h = rw (over i n h)

pub writes-next : (c : Cursor) (out : List ℕ) (i n : ℕ) → i < n → writes (n - i) c out ≡ writes (n - (i + 1)) c (write 0 (encode_cursor c) out).state
writes-next c out i n h = rw (less i n h)

pub writes-over : (c : Cursor) (out : List ℕ) (i n : ℕ) → n ≤ i → writes (n - i) c out ≡ out
writes-over c out i n h = rw (over i n h)

-- the cursor of a resumption, and a fresh one in place of a refusal
module _ (committed : ℕ) (ahead : List Range) (fresh : AckCursor) (new : Fresh 0 fresh) where
  pub resumed-cursor : (r : std.Result AckCursor AckCursorError) → ResumedIs committed ahead r
      → view (result_unwrap_or r fresh) ≡ cursor_of (resume_with_ahead committed ahead)
  resumed-cursor (Ok c) is = ap cursor_of is.is
  resumed-cursor (Err e) is = new.is ∙ ap cursor_of is.is

  pub resumed_sound : (r : std.Result AckCursor AckCursorError) → ResumedIs committed ahead r → Sound (result_unwrap_or r fresh)
  resumed_sound (Ok c) is = is.sound
  resumed_sound (Err e) is = new.sound
