-- What a step makes of a sound record: its numbers fit the fields of a block, the block goes where the definition has it, and
-- after the last write stands the flushed consumer. Assumes nothing.
use Prim.Native.Nat.{ℕ, suc, ◌+◌, ◌/◌, ◌≤◌}
use native.Mathlib.Omega.{arith}
use native.Mathlib.Numerals.{add-one}
use mathlib.Core.Path.{◌≡◌, refl, ap, ◌∙◌}
use mathlib.Core.Bool.{Bool, true, false}
use mathlib.Core.List.{List}
use lib.Dec.{leb}
use lib.ListN.{length, take, length-take}
use borrow.Author.Tests.{eq-eqb, ne_eqb, lt-leb, leb-false}
use Rattle.std.specs.Prelude.{Ok, Err}
use Rattle.types.specs.Limits.{MAX32}
use Rattle.types.specs.Refusal.{Result}
use Rattle.types.specs.declared.refusals.Refusal.TheVariants.{BadArea}
use Rattle.types.specs.Table.{Answer, answer}
use Rattle.types.proofs.Cases.{split}
use Rattle.journal.specs.Area.{outside, write_at}
use Rattle.journal.specs.Answers.{block_of, write_block}
use Rattle.journal.specs.Blocks.{bodies_for}
use Rattle.journal.proofs.Area.{whole_says}
use Rattle.redeliveries.specs.Counter.{after_flush}
use Rattle.lease.proofs.Valid.{valid-flushed}
use Rattle.lease.specs.State as lease
use Rattle.consumer.specs.State.{State}
use Rattle.consumer.specs.View.{view, Sound}
use Rattle.consumer.proofs.Area.{area-taken}
use Rattle.checkpoint.specs.Checkpoint.{bodies, group_block, zeroed_for, zeros, new_ceiling, flushed, is_zeroing, is_last, sync_due, next_place, next_block, step}
use Rattle.checkpoint.specs.Checkpoint as checkpoint
use Rattle.checkpoint.specs.Writing.{view_writing, SoundWriting, SteppedIs, Into}
use Rattle.checkpoint.specs.Parts.{Parts, parts, with_parts, PlaceIs, NextIs, header_by}
use Rattle.checkpoint.specs.declared.in_place.Place.{Place}
use Rattle.checkpoint.specs.declared.in_place.NextWrite.{NextWrite}
use Rattle.checkpoint.specs.declared.Writing.{Writing}
use Rattle.checkpoint.proofs.Payload.{payload-fits}
use Rattle.checkpoint.proofs.Places.{state-room, header-next, next-inside}
use Rattle.checkpoint.proofs.Valid.{flushed-valid}

-- ## Numbers
-- what the fields of the record and of its consumer are at most
pub record Small (w : Writing) : Type 0 where
  pub number : w.consumer.next.number ≤ MAX32
  pub block : w.consumer.next.block ≤ 128
  pub cursor-len : w.cursor_len ≤ 2061
  pub attempt_len_lem : w.attempt_len ≤ 1545
  pub written : w.written ≤ 136
  pub bodies-few : bodies (view w.consumer) ≤ 8
  pub count : (w.cursor_len + w.attempt_len + 499) / 500 ≡ bodies (view w.consumer)
  pub payload : w.cursor_len + w.attempt_len ≤ length w.payload

pub small : (w : Writing) → SoundWriting w → Small w
small w s =
    let v = s.valid.state in
    let fits = payload-fits (view w.consumer) v in
    let room = state-room (view w.consumer) v in
    let area = whole_says w.consumer.area_len (area-taken w.consumer.area_len v.area) in
    record {
      number = s.valid.numbered;
      block = omega (arith, v.within, area.most);
      cursor-len = omega (arith, s.encoded.cursor-len, fits.cursor_high);
      attempt_len_lem = omega (arith, s.encoded.attempt_len_lem, fits.attempt_high);
      written = omega (arith, s.valid.few, fits.few-bodies, room.zeroed, area.most);
      bodies-few = fits.few-bodies;
      count = rw (fits.total, s.encoded.cursor-len, s.encoded.attempt_len_lem);
      payload = omega (arith, simp length-take at (ap length s.encoded.payload), fits.total, s.encoded.cursor-len, s.encoded.attempt_len_lem);
    }

-- ## Whether a sync is due
-- the numbers of a sound record are small enough to ask, and its bodies and zeros are those of the code
pub askable : (w : Writing) → SoundWriting w → (w.cursor_len + w.attempt_len ≤ 3606) × (w.consumer.next.block ≤ 128) × (w.written ≤ 136)
askable w s = let f = small w s in (omega (arith, f.cursor-len, f.attempt_len_lem), f.block, f.written)

pub due-is : (w : Writing) → SoundWriting w → (due : Bool)
    → due ≡ leb (zeroed_for w.consumer.area_len w.consumer.next.block (bodies_for (w.cursor_len + w.attempt_len)) + bodies_for (w.cursor_len + w.attempt_len)) (suc w.written)
    → due ≡ sync_due (view_writing w)
due-is w s due e = rw (small w s).count at e

-- ## A block is written
pub into-inside : (w : Writing) (a : List ℕ) (i : ℕ) → Into w a i → outside (length a) i ≡ false
into-inside w a i h = rw (h.area, area-taken w.consumer.area_len h.sound.valid.state.area) (lt-leb (w.consumer.area_len / 512) i h.inside)

pub block_written : (a after b : List ℕ) (i : ℕ) (o : Result (Unit {0})) → outside (length a) i ≡ false
    → answer o after ≡ write_block i b a → after ≡ write_at a i b
unfolding write_block
block_written a after b i o inside e = ap (λ (x : Answer (Unit {0}) (List ℕ)). x.state) (rw inside at e)

-- ## A step on the parts of a record
module _ (p : Parts) (within : Writing) (s : SoundWriting (with_parts p within)) (a : List ℕ) where
  abbrev w : Writing
  w = with_parts p within

  abbrev st : State
  st = view w.consumer

  pub step-refused : (length a ≡ p.areaLen → ⊥) → SteppedIs w a (record { answer = Err BadArea; writing = w }) a
  unfolding step
  step-refused n = record { is = rw (ne_eqb (length a) p.areaLen n); sound = s; kept = refl }

  -- ## The next block write, as the code finds it
  pub place-small : (n : ℕ) → n ≡ bodies st → (place : Place) → PlaceIs p.areaLen p.block n place → (place.block ≤ 128) × (place.zeros ≤ 128)
  place-small n count place there =
      let room = state-room st s.valid.state in
      let most = (whole_says p.areaLen (area-taken p.areaLen s.valid.state.area)).most in
      let b : place.block ≡ group_block st = rw (← count) there.block in
      let z : place.zeros ≡ zeros st = rw (← count) there.zeros in
      (omega (arith, b, room.group, most), omega (arith, z, room.zeroed, most))

  pub next_small : (i : ℕ) → i ≡ next_place (view_writing w) → i ≤ 128
  next_small i e =
      omega (arith, e, next-inside (view_writing w) s.valid, (whole_says p.areaLen (area-taken p.areaLen s.valid.state.area)).most)

  module _ (n ceiling : ℕ) (count : n ≡ bodies st) (raised : ceiling ≡ new_ceiling st) (place : Place)
      (there : PlaceIs p.areaLen p.block n place)
      (x : NextWrite)
      (is : NextIs place n p.written (header_by p.number ceiling p.cursorLen p.attemptLen) x) where
    abbrev now : checkpoint.Writing
    now = view_writing w

    zeros-is : place.zeros ≡ zeros st
    zeros-is = rw (← count) there.zeros

    block-is : place.block ≡ group_block st
    block-is = rw (← count) there.block

    pub write-last : x.last ≡ is_last now
    write-last = is.last ∙ rw (zeros-is, count)

    pub write-place : x.at ≡ next_place now
    write-place = is.at ∙ rw (zeros-is, block-is, write-last)

    pub write_content : block_of x.block (take (p.cursorLen + p.attemptLen) p.payload) ≡ next_block now
    write_content =
        rw (is.block, zeros-is, write-last)
        (split (is_zeroing now)
        (λ z. rw z)
        (λ z. split (is_last now)
        (λ t. rw (z, t, raised, s.encoded.cursor-len, s.encoded.attempt_len_lem))
        (λ t. rw (z, t, s.encoded.payload))))

  module _ (area : length a ≡ p.areaLen) where
    -- it lies in the area
    pub write-inside : (i : ℕ) → i ≡ next_place (view_writing w) → outside (length a) i ≡ false
    write-inside i e = into-inside w a i (record { sound = s; area = area; inside = rw e (next-inside (view_writing w) s.valid) })

    -- a block before the header was written
    abbrev moved : Writing
    moved = with_parts (parts (p.written + 1) p.cursorLen p.attemptLen p.areaLen p.generation p.ceiling p.redeliveries p.number p.block p.payload) within

    pub step-going : (i : ℕ) (b after : List ℕ) → is_last (view_writing w) ≡ false → i ≡ next_place (view_writing w)
        → b ≡ next_block (view_writing w)
        → after ≡ write_at a i b → SteppedIs w a (record { answer = Ok (record { block = i; finished = false }); writing = moved }) after
    unfolding step
    step-going i b after t i-is b-is e =
        record {
          is = rw (eq-eqb (length a) p.areaLen area, e, i-is, b-is, t, add-one p.written);
          sound =
              record {
                consumer = s.consumer;
                valid = record {
                  state = s.valid.state;
                  numbered = s.valid.numbered;
                  few = omega (arith, leb-false (zeros st + bodies st) p.written t);
                };
                encoded = s.encoded;
              };
          kept = tt;
        }

    -- the header was written
    module _ (i n ceiling redeliveries : ℕ) (count : n ≡ bodies st) (raised : ceiling ≡ new_ceiling st) (cleared : redeliveries ≡ after_flush p.redeliveries)
        (t : is_last (view_writing w) ≡ true)
        (i-is : i ≡ next_place (view_writing w)) where
      abbrev last : Writing
      last = with_parts (parts p.written p.cursorLen p.attemptLen p.areaLen p.generation ceiling redeliveries (p.number + 1) (i + (n + 1)) p.payload) within

      at-header : i ≡ group_block st
      at-header = i-is ∙ header-next (view_writing w) t

      flushed-is : view last.consumer ≡ flushed st
      flushed-is = rw (cleared, raised, add-one n, count, at-header)

      flushed-sound : Sound last.consumer
      flushed-sound =
          let t = s.consumer.table in
          record {
            cursor = s.consumer.cursor;
            table = record { len = t.len; carried-len = t.carried-len; slots = t.slots; valid = rw cleared (valid-flushed (lease.view w.consumer.table) t.valid) };
            settings = s.consumer.settings;
            valid = rw flushed-is (flushed-valid st s.valid.numbered s.consumer.valid);
          }

      pub step-last : (b after : List ℕ) → b ≡ next_block (view_writing w) → after ≡ write_at a i b
          → SteppedIs w a (record { answer = Ok (record { block = i; finished = true }); writing = last }) after
      unfolding step
      step-last b after b-is e =
          record {
            is = rw (eq-eqb (length a) p.areaLen area, flushed-is, e, i-is, b-is, t);
            sound = flushed-sound;
            kept = tt;
          }
