-- `is_full` meets its contract: refusal 27, test by test. Assumes nothing.
use Prim.Native.Nat.{ℕ, ◌+◌}
use native.Mathlib.Omega.{arith}
use mathlib.Core.Path.{◌≡◌, sym, ap, ◌∙◌}
use mathlib.Core.Option.{none}
use lib.ListN.{length, take}
use Rattle.tables.specs.Search.{Placed}
use Rattle.tables.specs.declared.Place.TheVariants.{Missing}
use Rattle.lease.specs.State.{view}
use Rattle.lease.specs.Operations.{lease_of, is_none}
use Rattle.lease.specs.Parts.{Whole, sized}
use Rattle.lease.specs.declared.LeaseTable.{LeaseTable}
use Rattle.lease.proofs.Slots.{free, lease-at, in_flight_lem, carried-length}
use Rattle.consumer.proofs.CallsClaim.{full-leased, full-leases, full-room, full-by-count, uncounted}
use Rattle.consumer.proofs.steps.is_full.Goals as goal
use Rattle.consumer.proofs.steps.is_full.Goals.{Start}

-- a table with the parts that the arguments are
abbrev table : Start → LeaseTable → LeaseTable
table s = sized s.args.len s.args.carried_len s.args.carried_offsets.now s.args.carried_counts.now

module _ (s : Start) (t : LeaseTable) (w : Whole (table s t)) where
  leases : length (view (table s t)).leases ≡ s.args.len
  leases = in_flight_lem (table s t) w.full w.sound

  both : length (view (table s t)).leases + length (view (table s t)).carried ≡ s.args.len + s.args.carried_len
  both = omega (arith, leases, carried-length (table s t) w.full w.sound)

  -- the offset has no lease
  lacked : Placed s.args.offset (take (table s t).len (table s t).offsets) s.args.place → {at : ℕ} → s.args.place ≡ Missing at
      → lease_of (view (table s t)) s.args.offset ≡ none
  lacked p e = (free (table s t) w.full w.sound p e).is

pub returns-in_default : goal.returns-in_default
returns-in_default c t w p =
    let u = table (goal.at.returns-in_default c).Start t in
    full-leased (view u) c.args.offset _ (lease-at u w.full w.sound c.args.offset p c.in_default.is)

pub returns-then-len-ge-LEASES : goal.returns-then-len-ge-LEASES
returns-then-len-ge-LEASES c t w p =
    let s = (goal.at.returns-then-len-ge-LEASES c).Start in
    full-leases (view (table s t)) c.args.offset (lacked s t w p c.in-Missing.is) (omega (arith, leases s t w, c.if-len-ge-LEASES.true))

pub returns-then-len-carried_len-lt-CARRIED : goal.returns-then-len-carried_len-lt-CARRIED
returns-then-len-carried_len-lt-CARRIED c t w p =
    let s = (goal.at.returns-then-len-carried_len-lt-CARRIED c).Start in
    full-room (view (table s t)) c.args.offset (lacked s t w p c.in-Missing.is) (omega (arith, leases s t w, c.if-len-ge-LEASES.false))
    (omega (arith, both s t w, c.if-len-carried_len-lt-CARRIED.true))

pub returns : goal.returns
returns c t w p =
    let s = (goal.at.returns c).Start in
    sym (uncounted c.carried_in_place-carried.result c.is_none.result c.is_none.ensures)
    ∙ ap is_none (c.carried_in_place-carried.ensures (table s t) w)
    ∙ full-by-count (view (table s t)) c.args.offset (lacked s t w p c.in-Missing.is) (omega (arith, leases s t w, c.if-len-ge-LEASES.false))
    (omega (arith, both s t w, c.if-len-carried_len-lt-CARRIED.false))
