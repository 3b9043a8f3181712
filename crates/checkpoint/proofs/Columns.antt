-- The numbers of columns: what a lease's count is, read through its slot. Assumes nothing.
use Prim.Native.Nat.{ℕ, ◌%◌, ◌<◌}
use native.Mathlib.Omega.{arith}
use native.Mathlib.Nat.{mod-eq_of_lt}
use mathlib.Core.Path.{◌≡◌, sym}
use mathlib.Core.List.{List}
use lib.ListN.{length, get_or}
use Rattle.types.specs.Limits.{LEASES}
use Rattle.tables.proofs.Slots.{slot_below, through-at}
use Rattle.lease.specs.Parts.{Full}
use Rattle.consumer.specs.View.{Sound}
use Rattle.consumer.specs.declared.Consumer.{Consumer}
use Rattle.checkpoint.specs.Counts.{counts_of, Narrow, Storable}
use Rattle.checkpoint.specs.Parts.{counting}
use Rattle.checkpoint.specs.declared.counts.Columns.{Columns}
use Rattle.checkpoint.proofs.Merged.{listed, slotted}

module _ {T : Type 0} {numbers : List T → List ℕ} {narrow : List T → ℕ → Type 0} {c : Columns T} (p : Storable numbers narrow c) (i : ℕ) (h : i < c.len) where
  abbrev slot : ℕ
  slot = get_or (numbers c.slots.now) i 0

  has-slot : i < length (numbers c.slots.now)
  has-slot = omega (arith, p.slotted.all, p.listed.few)

  -- a slot is a place of the column, so that the remainder is the slot itself
  slot-small : slot % LEASES ≡ slot
  slot-small = mod-eq_of_lt (slot_below p.slotted.each i has-slot)

  pub count-at : get_or (numbers c.deliveries.now) (slot % LEASES) 0 ≡ get_or (counts_of numbers c) i 0
  count-at = rw slot-small (sym (through-at 0 (numbers c.slots.now) (numbers c.deliveries.now) i has-slot))

-- the columns of a table that is whole, in a sound consumer
module _ {T : Type 0} (numbers : List T → List ℕ) (c : Columns T) (x : Consumer) where
  abbrev pub with_counts : Consumer
  with_counts = record { cursor = x.cursor; table = counting numbers c x.table; ceiling = x.ceiling; next = x.next; area_len = x.area_len; settings = x.settings }

  pub storable : {narrow : List T → ℕ → Type 0} → Full with_counts.table → Sound with_counts → Narrow narrow c → Storable numbers narrow c
  storable full ok small =
      record { listed = listed with_counts full ok; slotted = slotted with_counts full ok; counts = full.leases.counts; narrow = small }
