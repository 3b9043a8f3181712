-- A step on the words of a record is a step on the record that they are: the laws of checkpoint, as they are. Assumes nothing.
use Prim.Native.Nat.{ℕ, ◌+◌, ◌≤◌}
use native.Mathlib.Omega.{arith}
use mathlib.Core.Path.{◌≡◌, refl, sym, ap, subst, ◌∙◌}
use mathlib.Core.Bool.{Bool, true, false}
use mathlib.Core.List.{List}
use lib.ListN.{length}
use Rattle.std.specs.Prelude.{Ok, Err}
use Rattle.std.specs.Prelude as std
use Rattle.types.specs.Limits.{MAX32}
use Rattle.types.specs.Table.{answer}
use Rattle.types.specs.declared.refusals.Refusal.{Refusal}
use Rattle.words.specs.Columns.{word}
use Rattle.words.proofs.Columns.{column-at}
use Rattle.lease.specs.Layout.{NEXT, REDELIVERIES, table_in, Fits}
use Rattle.lease.specs.Layout as leases
use Rattle.consumer_words.specs.Layout.{TABLE, CEILING, NEXT-NUMBER, NEXT-BLOCK, AREA-LEN, leases_in, consumer_in}
use Rattle.checkpoint.specs.Checkpoint.{lent, step}
use Rattle.checkpoint.specs.Parts.{Parts, parts, with_parts, tabled, wrote_of, stepped, Steppable, SteppedIn}
use Rattle.checkpoint.specs.Writing.{step_of, left_of, SteppedIs}
use Rattle.checkpoint.specs.Writing as writing
use Rattle.checkpoint.specs.declared.Writing.{Writing}
use Rattle.checkpoint.specs.declared.in_place.SteppedAt.{SteppedAt}
use Rattle.checkpoint_words.specs.Layout.{WRITTEN, CURSOR-LEN, ATTEMPT-LEN, WORDS, writing_in, view_writing, SoundWriting}
use Rattle.checkpoint_words.specs.InWords.{SoundAfter, stored, Steps}
use Rattle.checkpoint_words.proofs.Stores.{stored-length, stores}

-- ## what is handed in
abbrev pub given : List ℕ → List ℕ → Parts
given w p =
    parts (word WRITTEN w) (word CURSOR-LEN w) (word ATTEMPT-LEN w) (word AREA-LEN w) (word (TABLE + NEXT) w) (word CEILING w) (word (TABLE + REDELIVERIES) w) (word NEXT-NUMBER w) (word NEXT-BLOCK w) p

-- the table's own numbers, where they lie
generation-at : (w : List ℕ) → word NEXT (leases_in w) ≡ word (TABLE + NEXT) w
generation-at w = column-at TABLE leases.WORDS w NEXT (omega arith)

counter_at : (w : List ℕ) → word REDELIVERIES (leases_in w) ≡ word (TABLE + REDELIVERIES) w
counter_at w = column-at TABLE leases.WORDS w REDELIVERIES (omega arith)

abbrev around : List ℕ → List ℕ → ℕ → ℕ → Writing
around w p g r =
    with_parts (parts (word WRITTEN w) (word CURSOR-LEN w) (word ATTEMPT-LEN w) (word AREA-LEN w) g (word CEILING w) r (word NEXT-NUMBER w) (word NEXT-BLOCK w) p) (writing_in w p)

given_is : (w p : List ℕ) → with_parts (given w p) (writing_in w p) ≡ writing_in w p
given_is w p =
    ap (λ (g : ℕ). around w p g (word (TABLE + REDELIVERIES) w)) (sym (generation-at w)) ∙ ap (around w p (word NEXT (leases_in w))) (sym (counter_at w))

given-sound : {w p : List ℕ} → SoundWriting w p → writing.SoundWriting (with_parts (given w p) (writing_in w p))
given-sound {w} {p} ok = subst writing.SoundWriting (sym (given_is w p)) ok.writing

pub steppable : {w p : List ℕ} → SoundWriting w p → Steppable (given w p)
steppable {w} {p} ok = record { writing = writing_in w p; sound = given-sound ok }

-- the counter is a number of 32 bits
pub counter_narrow : {w p : List ℕ} → SoundWriting w p → word (TABLE + REDELIVERIES) w ≤ MAX32
counter_narrow {w} ok = subst (λ (n : ℕ). n ≤ MAX32) (counter_at w) ok.fits.redeliveries

-- ## what comes back
module _ {w p : List ℕ} (ok : SoundWriting w p) (a a' : List ℕ) where
  -- the step of the very record
  came : (r : std.Result SteppedAt Refusal) → SteppedIn (given w p) a r a'
      → SteppedIs (writing_in w p) a (record { answer = wrote_of r; writing = with_parts (stepped (given w p) r) (writing_in w p) }) a'
  came r law =
      subst (λ (x : Writing). SteppedIs x a (record { answer = wrote_of r; writing = with_parts (stepped (given w p) r) (writing_in w p) }) a') (given_is w p)
      (law (writing_in w p) (given-sound ok))

  -- a refusal leaves the words
  pub step-refused_words : (r : Refusal) → SteppedIn (given w p) a (Err r) a' → Steps (Err r) p w a w a'
  step-refused_words r law =
      record { is = subst (λ (x : Writing). answer (step_of (Err r)) (lent (left_of (Err r) x) a') ≡ step (view_writing w p) a) (given_is w p) (came (Err r) law).is; sound = ok; kept = refl }

  -- a step stores its numbers
  module _ (s : SteppedAt) where
    abbrev after : List ℕ
    after = stored s.numbers.written s.numbers.ceiling s.numbers.redeliveries s.numbers.number s.numbers.block w

    after_is : with_parts (stepped (given w p) (Ok s)) (writing_in w p) ≡ writing_in after p
    after_is =
        let n = s.numbers in
        ap (λ (g : ℕ). with_parts (parts n.written (word CURSOR-LEN w) (word ATTEMPT-LEN w) (word AREA-LEN w) g n.ceiling n.redeliveries n.number n.block p) (writing_in w p)) (sym (generation-at w))
        ∙ sym (stores w ok.long p n.written n.ceiling n.redeliveries n.number n.block)

    long : length after ≡ WORDS
    long = let n = s.numbers in stored-length n.written n.ceiling n.redeliveries n.number n.block w ∙ ok.long

    fits : s.numbers.redeliveries ≤ MAX32 → Fits (consumer_in after).table
    fits h =
        let n = s.numbers in
        let same : (consumer_in after).table ≡ tabled (table_in (leases_in w)).next_generation.0 n.redeliveries (table_in (leases_in w)) =
        ap (λ (x : Writing). x.consumer.table) (stores w ok.long p n.written n.ceiling n.redeliveries n.number n.block) in
        subst Fits (sym same) (record { counts = ok.fits.counts; workers = ok.fits.workers; redeliveries = h })

    sound-after : (last : Bool) → s.numbers.redeliveries ≤ MAX32 → writing.SoundAfter last (writing_in after p) → SoundAfter last after p
    sound-after true h x = record { long = long; state = x; fits = fits h }
    sound-after false h x = record { long = long; writing = x; fits = fits h }

    pub stepped_words : s.numbers.redeliveries ≤ MAX32 → SteppedIn (given w p) a (Ok s) a' → Steps (Ok s.wrote) p w a after a'
    stepped_words h law =
        let c : SteppedIs (writing_in w p) a (record { answer = Ok s.wrote; writing = writing_in after p }) a' =
        subst (λ (x : Writing). SteppedIs (writing_in w p) a (record { answer = Ok s.wrote; writing = x }) a') after_is (came (Ok s) law) in
        record { is = c.is; sound = sound-after s.wrote.finished h c.sound; kept = tt }
