-- A begin on words is a begin of the consumer that they are: what its parts are lent, and what comes back. Assumes nothing.
use Prim.Native.Nat.{ℕ, ◌≤◌, ◌<◌}
use native.Mathlib.Omega.{arith}
use mathlib.Core.Path.{◌≡◌, refl, sym, ap, subst, ◌∙◌}
use mathlib.Core.List.{List}
use mathlib.Core.Option.{some}
use lib.Dec.{ltb}
use borrow.Author.Tests.{ltb-true, ltb-false}
use lib.ListN.{length, take, drop, get_or, set, length-set, length-drop, take-append-drop}
use lib.Seq.{get_or-set_same, length-take-le, take-append-le, drop-append-le}
use Rattle.std.specs.Prelude.{Ok, Err}
use Rattle.std.specs.Prelude as std
use Rattle.types.specs.Limits.{MAX32, WORKERS, LEASES, CARRIED, RANGES}
use Rattle.types.specs.Refused.{refusal_of}
use Rattle.types.specs.Table.{first, Passed}
use Rattle.types.specs.declared.refusals.Refusal.{Refusal}
use Rattle.std.proofs.lemmas.List.{get_or_past}
use Rattle.types.proofs.Cases.{split}
use Rattle.tables.proofs.Slots.{slot_below}
use Rattle.words.specs.Columns.{word, column}
use Rattle.words.proofs.Columns.{column-is, column-at, column-length, number-kept, other-kept}
use Rattle.cursor.specs.View.{ack_cursor}
use Rattle.cursor.specs.Layout.{COMMITTED, RUNS, STARTS, ENDS}
use Rattle.cursor.specs.Layout as cursors
use Rattle.cursor.proofs.Words as cursors-whole
use Rattle.lease.specs.Layout.{CARRIED-COUNTS, table_in}
use Rattle.lease.specs.Layout as leases
use Rattle.lease.proofs.InWords.{carried_narrow}
use Rattle.lease.proofs.InWords as leases-whole
use Rattle.consumer.specs.Rights.{worker_rows, bit_of, checkpointing}
use Rattle.consumer.specs.Calls.{call_rows}
use Rattle.consumer.specs.View as consumer
use Rattle.consumer.specs.declared.Consumer.{Consumer}
use Rattle.consumer_words.specs.Layout.{CURSOR, TABLE, AREA-LEN, NEXT-NUMBER, NEXT-BLOCK, RIGHTS, settled_in, leases_in, consumer_in, view}
use Rattle.consumer_words.specs.Layout as consumers
use Rattle.checkpoint.specs.Checkpoint.{begin, writes}
use Rattle.checkpoint.specs.Counts.{Narrow}
use Rattle.checkpoint.specs.Parts.{recording, fitting, counting, Lent, BegunAs, writes_of, begun_by}
use Rattle.checkpoint.specs.Writing.{begin_of}
use Rattle.checkpoint.specs.Writing as writing
use Rattle.checkpoint.specs.declared.Writing.{Writing}
use Rattle.checkpoint.specs.declared.counts.Columns.{Columns}
use Rattle.checkpoint.specs.declared.in_place.BegunAt.{BegunAt}
use Rattle.checkpoint.proofs.Encoding.{begin_unpermitted}
use Rattle.checkpoint_words.specs.Layout.{WRITTEN, CURSOR-LEN, ATTEMPT-LEN, WORDS, writing_in, Sound}
use Rattle.checkpoint_words.specs.InWords.{Begins, Counts}

-- ## what is lent
abbrev pub cursor_part : List ℕ → List ℕ
cursor_part w = take cursors.WORDS (drop CURSOR w)

abbrev pub table_part : List ℕ → List ℕ
table_part w = take leases.WORDS (drop TABLE w)

module _ {w : List ℕ} (ok : Sound w) where
  cursor-sound : cursors.Sound (settled_in w)
  cursor-sound = let l = ok.long in record { long = column-length CURSOR cursors.WORDS w (omega arith); cursor = ok.state.cursor }

  table-sound : leases.Sound (leases_in w)
  table-sound = let l = ok.long in record { long = column-length TABLE leases.WORDS w (omega arith); table = ok.state.table; fits = ok.fits }

  pub lent-table : leases.Sound (table_part w)
  lent-table = subst leases.Sound (sym (column-is TABLE leases.WORDS w)) table-sound

  pub lent_in : Lent (consumer_in w)
  lent_in = record { cursor = cursors-whole.whole cursor-sound; table = (leases-whole.whole table-sound).full; sound = ok.state }

-- the columns of the table's words have numbers of 32 bits where they are read
module _ {t : List ℕ} (ok : leases.Sound t) (c : Columns ℕ) (h : Counts t c) where
  slot_narrow : (i : ℕ) → get_or (table_in t).slots i 0 ≤ MAX32
  slot_narrow i =
      let long = (leases-whole.whole ok).full.slots in
      split (ltb i LEASES)
      (λ q. omega (arith, slot_below ok.table.slots i (omega (arith, long, ltb-true i LEASES q))))
      (λ q. rw (get_or_past (table_in t).slots i 0 (omega (arith, long, ltb-false i LEASES q))) (omega arith))

  count_narrow : (i : ℕ) → i < (table_in t).carried_len → get_or (table_in t).carried_counts i 0 ≤ MAX32
  count_narrow i q = rw (column-at CARRIED-COUNTS CARRIED t i (omega (arith, q, ok.table.carried-len))) (carried_narrow ok i q)

  pub narrow_in : Narrow (λ (column : List ℕ) (i : ℕ). get_or column i 0 ≤ MAX32) c
  narrow_in =
      record {
        slots = λ i. rw h.slots (slot_narrow i);
        leased = λ i. rw h.deliveries (ok.fits.counts i);
        carried = λ i q. rw h.carried-counts (count_narrow i (rw h.carried-len at q));
      }

-- the parts of the consumer that the words are
module _ (w : List ℕ) (c : Columns ℕ) (h : Counts (table_part w) c) where
  abbrev pub lent_parts : Consumer → Consumer
  lent_parts =
      let k = cursor_part w in
      fitting (ack_cursor (word COMMITTED k) (take RANGES (drop STARTS k)) (take RANGES (drop ENDS k)) (word RUNS k)) (counting (λ l. l) c) (word NEXT-NUMBER w) (word NEXT-BLOCK w) (word AREA-LEN w)

  pub parts_are : lent_parts (consumer_in w) ≡ consumer_in w
  parts_are =
      rw (h.len, h.carried-len, h.offsets, h.slots, h.deliveries, h.carried-offsets, h.carried-counts, column-is STARTS RANGES (cursor_part w), column-is ENDS RANGES (cursor_part w), column-is CURSOR cursors.WORDS w, column-is TABLE leases.WORDS w) refl

-- what a begin that is permitted says of a consumer
abbrev pub PermittedAt : std.Result BegunAt Refusal → (before after : List ℕ) → Consumer → Type 0
PermittedAt r before after x =
    Lent x → (worker : ℕ) → Passed (call_rows (consumer.view x) worker checkpointing) → (w lc la : ℕ)
    → BegunAs (writes_of r) worker (recording w lc la before x) (begun_by r w lc la after x)

-- ## the rights, which lie within the consumer's words
pub rights-within : {w : List ℕ} → Sound w → column RIGHTS WORKERS (take consumers.WORDS (drop CURSOR w)) ≡ column RIGHTS WORKERS w
unfolding column
rights-within {w} ok =
    let l = ok.long in
    let front = take consumers.WORDS w in
    let rest = drop consumers.WORDS w in
    let size : length front ≡ consumers.WORDS = length-take-le consumers.WORDS w (omega arith) in
    let room : WORKERS ≤ length (drop RIGHTS front) = simp length-drop (omega arith) in
    let inside : RIGHTS ≤ length front = omega arith in
    sym (take-append-le WORKERS (drop RIGHTS front) rest room)
    ∙ ap (take WORKERS) (sym (drop-append-le RIGHTS front rest inside))
    ∙ ap (λ (k : List ℕ). take WORKERS (drop RIGHTS k)) (take-append-drop consumers.WORDS w)

pub rows-within : {w : List ℕ} → Sound w → (worker : ℕ)
    → first (worker_rows (column RIGHTS WORKERS (take consumers.WORDS (drop CURSOR w))) worker (bit_of checkpointing)) ≡ first (call_rows (view w) worker checkpointing)
rows-within ok worker = ap (λ (rights : List ℕ). first (worker_rows rights worker (bit_of checkpointing))) (rights-within ok)

-- ## what comes back
-- the words after a begin
abbrev pub begun : ℕ → ℕ → List ℕ → List ℕ
begun lc la w = set (set (set w WRITTEN 0) CURSOR-LEN lc) ATTEMPT-LEN la

module _ (w : List ℕ) (l : length w ≡ WORDS) (lc la : ℕ) where
  begun-long : length (begun lc la w) ≡ WORDS
  begun-long = simp length-set l

  begun-consumer : consumer_in (begun lc la w) ≡ consumer_in w
  begun-consumer = simp (number-kept ATTEMPT-LEN, other-kept ATTEMPT-LEN, number-kept CURSOR-LEN, other-kept CURSOR-LEN, number-kept WRITTEN, other-kept WRITTEN)

  begun_record : (p : List ℕ) → writing_in (begun lc la w) p ≡ recording 0 lc la p (consumer_in w)
  begun_record p =
      let w1 = set w WRITTEN 0 in
      let l1 : length w1 ≡ WORDS = length-set w WRITTEN 0 ∙ l in
      let w2 = set w1 CURSOR-LEN lc in
      let l2 : length w2 ≡ WORDS = length-set w1 CURSOR-LEN lc ∙ l1 in
      let written : word WRITTEN (begun lc la w) ≡ 0 =
      other-kept ATTEMPT-LEN WRITTEN refl w2 la ∙ other-kept CURSOR-LEN WRITTEN refl w1 lc ∙ get_or-set_same w WRITTEN 0 0 (omega arith) in
      let first : word CURSOR-LEN (begun lc la w) ≡ lc = other-kept ATTEMPT-LEN CURSOR-LEN refl w2 la ∙ get_or-set_same w1 CURSOR-LEN lc 0 (omega arith) in
      let second : word ATTEMPT-LEN (begun lc la w) ≡ la = get_or-set_same w2 ATTEMPT-LEN la 0 (omega arith) in
      ap (λ (c : Consumer). record { consumer = c; written = word WRITTEN (begun lc la w); payload = p; cursor_len = word CURSOR-LEN (begun lc la w); attempt_len = word ATTEMPT-LEN (begun lc la w) }) begun-consumer
      ∙ ap (λ (n : ℕ). recording n (word CURSOR-LEN (begun lc la w)) (word ATTEMPT-LEN (begun lc la w)) p (consumer_in w)) written
      ∙ ap (λ (n : ℕ). recording 0 n (word ATTEMPT-LEN (begun lc la w)) p (consumer_in w)) first
      ∙ ap (λ (n : ℕ). recording 0 lc n p (consumer_in w)) second

-- a begin that is permitted, and one that is not
module _ {w : List ℕ} (ok : Sound w) (worker : ℕ) (p : List ℕ) where
  pub unpermitted_words : (r : Refusal) → some (refusal_of r) ≡ first (call_rows (view w) worker checkpointing) → Begins (Err r) worker w p w p
  unpermitted_words r e =
      let b = begin_unpermitted (consumer_in w) worker (word WRITTEN w) (word CURSOR-LEN w) (word ATTEMPT-LEN w) p r e in
      record { is = b.begun.is; sound = tt; same = refl; kept = refl; payload-kept = refl }

  module _ (may : Passed (call_rows (view w) worker checkpointing)) (p' : List ℕ) where
    pub refused_words : (r : Refusal) → PermittedAt (Err r) p p' (consumer_in w) → Begins (Err r) worker w p w p'
    refused_words r h =
        let b = h (lent_in ok) worker may (word WRITTEN w) (word CURSOR-LEN w) (word ATTEMPT-LEN w) in
        record { is = b.begun.is; sound = tt; same = refl; kept = refl; payload-kept = ap (λ (x : Writing). x.payload) b.kept }

    pub begun_words : (b : BegunAt) → PermittedAt (Ok b) p p' (consumer_in w) → Begins (Ok b.writes) worker w p (begun b.cursor_len b.attempt_len w) p'
    begun_words b h =
        let s = (h (lent_in ok) worker may (word WRITTEN w) (word CURSOR-LEN w) (word ATTEMPT-LEN w)).begun in
        let lc = b.cursor_len in
        let la = b.attempt_len in
        let record_is = begun_record w ok.long lc la p' in
        let consumer-is = begun-consumer w ok.long lc la in
        record {
          is = subst (λ (x : Writing). begin_of (Ok b.writes) x ≡ begin (view w) worker) (sym record_is) s.is;
          sound = (
            record {
              long = begun-long w ok.long lc la;
              writing = subst writing.SoundWriting (sym record_is) s.sound.0;
              fits = subst (λ (x : Consumer). leases.Fits x.table) (sym consumer-is) ok.fits;
            },
            s.sound.1 ∙ ap (λ (x : Consumer). writes (consumer.view x)) (sym consumer-is),
          );
          same = consumer-is;
          kept = tt;
          payload-kept = tt;
        }
