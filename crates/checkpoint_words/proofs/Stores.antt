-- What the stores of a step make of the record that words are. Assumes nothing.
use Prim.Native.Nat.{ℕ, ◌+◌}
use native.Mathlib.Omega.{arith}
use mathlib.Core.Path.{◌≡◌, ap, ◌∙◌}
use mathlib.Core.List.{List}
use lib.ListN.{length, set, length-set}
use lib.Seq.{get_or-set_same}
use Rattle.words.specs.Columns.{word}
use Rattle.words.proofs.Columns.{column-length, column-stored, number-kept, other-kept}
use Rattle.lease.specs.Layout.{REDELIVERIES, table_in}
use Rattle.lease.specs.Layout as leases
use Rattle.lease.specs.declared.LeaseTable.{LeaseTable}
use Rattle.consumer.specs.declared.Consumer.{Consumer}
use Rattle.consumer_words.specs.Layout.{TABLE, CEILING, NEXT-NUMBER, NEXT-BLOCK, AREA-LEN, leases_in}
use Rattle.checkpoint.specs.Parts.{parts, with_parts, tabled}
use Rattle.checkpoint.specs.declared.Writing.{Writing}
use Rattle.checkpoint_words.specs.InWords.{stored}
use Rattle.checkpoint_words.specs.Layout.{WRITTEN, CURSOR-LEN, ATTEMPT-LEN, WORDS, writing_in}

pub stored-length : (n c r g b : ℕ) (w : List ℕ) → length (stored n c r g b w) ≡ length w
stored-length n c r g b w = simp length-set

-- ## a record with another number
abbrev with_consumer : Consumer → Writing → Writing
with_consumer c x = record { consumer = c; written = x.written; payload = x.payload; cursor_len = x.cursor_len; attempt_len = x.attempt_len }

abbrev with_written : ℕ → Writing → Writing
with_written n x = record { consumer = x.consumer; written = n; payload = x.payload; cursor_len = x.cursor_len; attempt_len = x.attempt_len }

abbrev consumer_with : LeaseTable → (ceiling number block : ℕ) → Consumer → Consumer
consumer_with t c g b x =
    record { cursor = x.cursor; table = t; ceiling = record { 0 = c }; next = record { number = g; block = b }; area_len = x.area_len; settings = x.settings }

abbrev with_ceiling : ℕ → Writing → Writing
with_ceiling c x = let y = x.consumer in with_consumer (consumer_with y.table c y.next.number y.next.block y) x

abbrev with_counter : ℕ → Writing → Writing
with_counter r x =
    let y = x.consumer in with_consumer (consumer_with (tabled y.table.next_generation.0 r y.table) y.ceiling.0 y.next.number y.next.block y) x

abbrev with_number : ℕ → Writing → Writing
with_number g x = let y = x.consumer in with_consumer (consumer_with y.table y.ceiling.0 g y.next.block y) x

abbrev with_block : ℕ → Writing → Writing
with_block b x = let y = x.consumer in with_consumer (consumer_with y.table y.ceiling.0 y.next.number b y) x

-- ## each store by itself
counter-stored : (t : List ℕ) → length t ≡ leases.WORDS → (v : ℕ) → table_in (set t REDELIVERIES v) ≡ tabled (table_in t).next_generation.0 v (table_in t)
counter-stored t l v = simp (get_or-set_same t REDELIVERIES v 0 (omega arith), number-kept REDELIVERIES, other-kept REDELIVERIES)

module _ (w : List ℕ) (l : length w ≡ WORDS) (p : List ℕ) (v : ℕ) where
  store_written : writing_in (set w WRITTEN v) p ≡ with_written v (writing_in w p)
  store_written = simp (get_or-set_same w WRITTEN v 0 (omega arith), number-kept WRITTEN, other-kept WRITTEN)

  store_ceiling : writing_in (set w CEILING v) p ≡ with_ceiling v (writing_in w p)
  store_ceiling = simp (get_or-set_same w CEILING v 0 (omega arith), number-kept CEILING, other-kept CEILING)

  store_number : writing_in (set w NEXT-NUMBER v) p ≡ with_number v (writing_in w p)
  store_number = simp (get_or-set_same w NEXT-NUMBER v 0 (omega arith), number-kept NEXT-NUMBER, other-kept NEXT-NUMBER)

  store_block : writing_in (set w NEXT-BLOCK v) p ≡ with_block v (writing_in w p)
  store_block = simp (get_or-set_same w NEXT-BLOCK v 0 (omega arith), number-kept NEXT-BLOCK, other-kept NEXT-BLOCK)

  store_counter : writing_in (set w (TABLE + REDELIVERIES) v) p ≡ with_counter v (writing_in w p)
  store_counter =
      let inner = column-stored TABLE leases.WORDS w REDELIVERIES v (omega arith) in
      let table = counter-stored (leases_in w) (column-length TABLE leases.WORDS w (omega arith)) v in
      simp (inner, table, number-kept (TABLE + REDELIVERIES), other-kept (TABLE + REDELIVERIES))

-- ## all of them
pub stores : (w : List ℕ) → length w ≡ WORDS → (p : List ℕ) (n c r g b : ℕ)
    → writing_in (stored n c r g b w) p
    ≡ with_parts (parts n (word CURSOR-LEN w) (word ATTEMPT-LEN w) (word AREA-LEN w) (table_in (leases_in w)).next_generation.0 c r g b p) (writing_in w p)
stores w l p n c r g b =
    let w1 = set w WRITTEN n in
    let l1 : length w1 ≡ WORDS = length-set w WRITTEN n ∙ l in
    let w2 = set w1 CEILING c in
    let l2 : length w2 ≡ WORDS = length-set w1 CEILING c ∙ l1 in
    let w3 = set w2 (TABLE + REDELIVERIES) r in
    let l3 : length w3 ≡ WORDS = length-set w2 (TABLE + REDELIVERIES) r ∙ l2 in
    let w4 = set w3 NEXT-NUMBER g in
    let l4 : length w4 ≡ WORDS = length-set w3 NEXT-NUMBER g ∙ l3 in
    store_block w4 l4 p b
    ∙ ap (with_block b) (store_number w3 l3 p g
    ∙ ap (with_number g) (store_counter w2 l2 p r
    ∙ ap (with_counter r) (store_ceiling w1 l1 p c
    ∙ ap (with_ceiling c) (store_written w l p n))))
