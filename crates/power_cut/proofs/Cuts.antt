-- What each way in which the power may fail owes the contract: the step that was made gives the block's place and what it was to
-- be, and torn bytes over it are a write of their own. Assumes nothing.
use Prim.Native.Nat.{ℕ, ◌+◌, ◌*◌, ◌≤◌}
use native.Mathlib.Omega.{arith}
use mathlib.Core.Path.{◌≡◌, refl, sym, ap, subst, ◌∙◌}
use mathlib.Core.Bool.{Bool, true, false}
use mathlib.Core.List.{List}
use mathlib.Core.Option.{none}
use lib.Dec.{eqb}
use lib.ListN.{length}
use borrow.Author.Tests.{eq-eqb, ne_eqb}
use Rattle.std.specs.Prelude.{Some, None, Ok, Err, IsOk}
use Rattle.std.specs.Prelude as std
use Rattle.types.specs.Refusal.{Result, done}
use Rattle.types.specs.declared.refusals.Refusal.{Refusal}
use Rattle.types.specs.Table.{Answer, answer}
use Rattle.types.proofs.Cases.{split}
use Rattle.types.proofs.Checked.{refused_not_done, done_inj}
use Rattle.raw.specs.Bytes.{write, overwrite}
use Rattle.raw.proofs.Bytes.{take-overwrite, drop-overwrite, write-room}
use Rattle.crc.specs.Seal.{is_sealed}
use Rattle.journal.specs.Area.{write_at}
use Rattle.journal.proofs.Area.{whole_says, inside-says, write-length}
use Rattle.consumer.proofs.Area.{area-taken}
use Rattle.checkpoint.specs.Checkpoint.{is_last, next_place, next_block, left_by, BlockWritten, Lent, lent, step}
use Rattle.checkpoint.specs.Checkpoint as checkpoint
use Rattle.checkpoint.specs.Writing.{view_writing, SoundWriting, written_of, step_of, SteppedIs}
use Rattle.checkpoint.specs.declared.Writing.{Writing}
use Rattle.checkpoint.specs.declared.Stepped.{Stepped}
use Rattle.checkpoint.specs.declared.Wrote.{Wrote}
use Rattle.checkpoint.proofs.Places.{next-inside, next-whole}
use Rattle.checkpoint.proofs.Steps.{into-inside}
use Rattle.machine.specs.Calls.{failed}
use Rattle.machine.specs.Transitions.{off, gives}
use Rattle.machine.specs.View.{phase_of, Sound}
use Rattle.machine.specs.declared.Machine.{Machine}
use Rattle.machine.proofs.Transitions.{not_writing}
use Rattle.power_cut.specs.Cut.{Cut, old, new, torn, is_torn, cut_at, power_cut}
use Rattle.power_cut.specs.View.{cut_of, CutIs, Stepping, OffIs}
use Rattle.power_cut.specs.declared.Kind.{Kind}
use Rattle.power_cut.specs.declared.Failed.{Failed}

-- ## the step
-- what a step that was not refused wrote
record Written (w : Writing) (a : List ℕ) (d : Wrote) (a' : List ℕ) : Type 0 where
  pub place : d.block ≡ next_place (view_writing w)
  pub header : d.finished ≡ is_last (view_writing w)
  pub area : a' ≡ write_at a (next_place (view_writing w)) (next_block (view_writing w))

module _ (w : Writing) (a a' : List ℕ) (same : length a ≡ w.consumer.area_len) where
  abbrev v : checkpoint.Writing
  v = view_writing w

  abbrev wrote : BlockWritten
  wrote = record { block = next_place v; last = is_last v }

  step_is : step v a ≡ answer (done wrote) (lent (left_by v) (write_at a (next_place v) (next_block v)))
  unfolding step
  step_is = rw (eq-eqb (length a) w.consumer.area_len same)

  -- it is not refused
  answered : (r : Stepped) → SteppedIs w a r a' → IsOk r.answer
  answered r h = go r.answer (ap (λ (x : Answer BlockWritten Lent). x.outcome) (h.is ∙ step_is))
    where
      go : (d : std.Result Wrote Refusal) → step_of d ≡ done wrote → IsOk d
      go (Ok b) e = refl
      go (Err r) e = refused_not_done e

  written : (r : Stepped) → SteppedIs w a r a' → (d : Wrote) → r.answer ≡ Ok d → Written w a d a'
  written r h d q =
      let e = h.is ∙ step_is in
      let t : ◌≡◌ {A = Result BlockWritten} (done (written_of d)) (done wrote) = sym (ap step_of q) ∙ ap (λ (x : Answer BlockWritten Lent). x.outcome) e in
      record { place = ap (λ (x : BlockWritten). x.block) (done_inj t); header = ap (λ (x : BlockWritten). x.last) (done_inj t); area = ap (λ (x : Answer BlockWritten Lent). x.state.area) e }

-- the block being written lies in the area
module _ (w : Writing) (s : SoundWriting w) where
  place-fits : (a : List ℕ) → length a ≡ w.consumer.area_len → 512 * next_place (view_writing w) + 512 ≤ length a
  place-fits a same =
      (inside-says (length a) (next_place (view_writing w))
      (into-inside w a (next_place (view_writing w)) (record { sound = s; area = same; inside = next-inside (view_writing w) s.valid }))).fits

-- ## bytes over a block
write-is : (a : List ℕ) (i : ℕ) (b : List ℕ) → length b ≡ 512 → write_at a i b ≡ overwrite (512 * i) b a
unfolding write_at
write-is a i b whole = rw whole

-- a block written over another
write_again : (a : List ℕ) (i : ℕ) (x b : List ℕ) → 512 * i + 512 ≤ length a → length x ≡ 512 → length b ≡ 512
    → overwrite (512 * i) b (write_at a i x) ≡ write_at a i b
write_again a i x b fits p q =
    let room : 512 * i + length x ≤ length a = omega arith in
    rw (write-is a i x p, write-is a i b q, take-overwrite (512 * i) x a room (512 * i) (omega arith), drop-overwrite (512 * i) x a room (512 * i + length b) (omega arith))

-- ## the ways to fail
module _ (m : Machine) (a : List ℕ) where
  not_now_lem : (k : Cut) → Sound m → power_cut (phase_of m) a k ≡ none → CutIs m k a (record { answer = None; machine = m }) a
  not_now_lem k ok e = record { is = sym e; sound = ok; configuration = refl; kept = refl }

  pub not_stepping : (k : Cut) → Sound m → (m.phase ≡ 1 → ⊥) → CutIs m k a (record { answer = None; machine = m }) a
  not_stepping k ok h = not_now_lem k ok (not_writing m.phase m.writing _ h)

  pub other_length : (k : Cut) → Sound m → m.phase ≡ 1 → (length a ≡ m.writing.consumer.area_len → ⊥)
      → CutIs m k a (record { answer = None; machine = m }) a
  other_length k ok e h = not_now_lem k ok (rw (e, ne_eqb (length a) m.writing.consumer.area_len h))

  module _ (i : Stepping m a) where
    -- what the cut is then
    on_record_lem : (k : Cut) → power_cut (phase_of m) a k ≡ cut_at (view_writing m.writing) a k
    on_record_lem k = rw (i.phase, eq-eqb (length a) m.writing.consumer.area_len i.area)

    stepping_sound : Sound m
    stepping_sound = rw i.phase i.sound

    failed-off : (k : Cut) (header : Bool) (m' : Machine) (a' : List ℕ) → OffIs m m'
        → gives (failed header) off a' ≡ cut_at (view_writing m.writing) a k
        → CutIs m k a (record { answer = Some header; machine = m' }) a'
    failed-off k header m' a' o e =
        record { is = rw o.phase (e ∙ sym (on_record_lem k)); sound = rw o.phase tt; configuration = o.configuration; kept = tt }

    pub cut-old : (m' : Machine) → OffIs m m' → CutIs m old a (record { answer = Some false; machine = m' }) a
    cut-old m' o = failed-off old false m' a o refl

    pub not_refused : (r : Stepped) (a' : List ℕ) → SteppedIs m.writing a r a' → IsOk r.answer
    not_refused r a' h = answered m.writing a a' i.area r h

    module _ (r : Stepped) (a' : List ℕ) (h : SteppedIs m.writing a r a') (d : Wrote) (is : r.answer ≡ Ok d) where
      abbrev made : Written m.writing a d a'
      made = written m.writing a a' i.area r h d is

      pub cut-new : (m' : Machine) → OffIs m m' → CutIs m new a (record { answer = Some d.finished; machine = m' }) a'
      cut-new m' o = failed-off new d.finished m' a' o (rw (made.header, made.area))

      pub place-small : d.block ≤ 128
      place-small =
          omega (arith, made.place, next-inside (view_writing m.writing) i.sound.valid, (whole_says m.writing.consumer.area_len (area-taken m.writing.consumer.area_len i.sound.valid.state.area)).most)

      pub cut-torn : (b : List ℕ) → length b ≡ 512 → is_sealed b ≡ false → (a'' : List ℕ) (q : Result ℕ)
          → answer q a'' ≡ write (512 * d.block) b a' → (m' : Machine) → OffIs m m'
          → CutIs m (torn b) a (record { answer = Some false; machine = m' }) a''
      cut-torn b whole unsealed a'' q e m' o =
          let w = m.writing in
          let fits = place-fits w i.sound a i.area in
          let size : length a' ≡ length a = rw made.area (write-length a (next_place (view_writing w)) (next_block (view_writing w)) fits (next-whole (view_writing w))) in
          let room : 512 * d.block + length b ≤ length a' = omega (arith, size, fits, whole, made.place) in
          let over : a'' ≡ write_at a (next_place (view_writing w)) b =
          ap (λ (x : Answer ℕ (List ℕ)). x.state) (e ∙ write-room (512 * d.block) b a' room)
          ∙ rw (made.place, made.area) (write_again a (next_place (view_writing w)) (next_block (view_writing w)) b fits (next-whole (view_writing w)) whole) in
          failed-off (torn b) false m' a'' o (rw (eq-eqb (length b) 512 whole, unsealed, over))

    -- bytes that no failure leaves
    pub other-bytes : (b : List ℕ) → is_torn b ≡ false → CutIs m (torn b) a (record { answer = None; machine = m }) a
    other-bytes b e = not_now_lem (torn b) stepping_sound (on_record_lem (torn b) ∙ rw e)

-- ## which bytes they are
pub not_512 : (b : List ℕ) → (length b ≡ 512 → ⊥) → is_torn b ≡ false
not_512 b h = rw (ne_eqb (length b) 512 h)

pub right-check : (b : List ℕ) → is_sealed b ≡ true → is_torn b ≡ false
right-check b e = split (eqb (length b) 512) (λ t. rw (t, e)) (λ t. rw t)

-- a cut of which it is known which it is
pub cut_as : {m : Machine} {k k' : Kind} (b : List ℕ) {a a' : List ℕ} {r : Failed} → k ≡ k' → CutIs m (cut_of k' b) a r a' → CutIs m (cut_of k b) a r a'
cut_as {m} b {a} {a'} {r} e h = subst (λ (x : Kind). CutIs m (cut_of x b) a r a') (sym e) h
