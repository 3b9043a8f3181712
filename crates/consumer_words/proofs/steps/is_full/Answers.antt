-- `is_full` meets its contract: refusal 27, test by test. Assumes nothing.
use Prim.Native.Nat.{ℕ, ◌≤◌, ◌<◌}
use native.Mathlib.Omega.{arith}
use mathlib.Core.Path.{◌≡◌, sym, ap, ◌∙◌}
use mathlib.Core.Bool.{Bool, true, false}
use mathlib.Core.List.{List}
use mathlib.Core.Option.{none}
use lib.ListN.{length}
use borrow.Author.Tests.{leb-true, leb-false}
use Rattle.types.specs.Limits.{LEASES}
use Rattle.tables.specs.declared.Place.{Place}
use Rattle.lease.specs.Operations.{lease_of, is_none}
use Rattle.lease.specs.InWords.{PlacedIn, FullAt}
use Rattle.lease.specs.Layout.{table_in, Sound}
use Rattle.lease.specs.Layout as lease
use Rattle.lease.proofs.Slots.{free, lease-at}
use Rattle.lease.proofs.InWords.{whole}
use Rattle.consumer.proofs.CallsClaim.{full-leased, full-leases, full-room, full-by-count, uncounted}
use Rattle.consumer_words.proofs.State.{no-lease-room}
use Rattle.consumer_words.proofs.steps.is_full.Goals as goal
use Rattle.consumer_words.proofs.steps.is_full.Goals.{In-Missing}

-- ## an offset that is missing
module _ (c : In-Missing) where
  -- it has no lease
  lacked : lease_of (lease.view c.args.table.now) c.args.offset.0 ≡ none
  lacked = (free (table_in c.args.table.now) (whole c.requires.0).full c.requires.0.table c.requires.1 c.in-Missing.is).is

module _ (w : List ℕ) (o : ℕ) (place : Place) (free : lease_of (lease.view w) o ≡ none) (here : PlacedIn o w place) (b : Bool) (e : FullAt w place b) where
  many : b ≡ true → LEASES ≤ length (lease.view w).leases
  many t = leb-true LEASES _ (sym (no-lease-room (lease.view w) o b free (e o here)) ∙ t)

  few : b ≡ false → length (lease.view w).leases < LEASES
  few t = leb-false LEASES _ (sym (no-lease-room (lease.view w) o b free (e o here)) ∙ t)

pub returns-in_default : goal.returns-in_default
returns-in_default c =
    full-leased (lease.view c.args.table.now) c.args.offset.0 _ (lease-at (table_in c.args.table.now) (whole c.requires.0).full c.requires.0.table c.args.offset.0 c.requires.1 c.in_default.is)

pub returns-then-is_full_at : goal.returns-then-is_full_at
returns-then-is_full_at c =
    let none_there = lacked (goal.at.returns-then-is_full_at c).In-Missing in
    full-leases (lease.view c.args.table.now) c.args.offset.0 none_there
    (many c.args.table.now c.args.offset.0 c.args.place none_there c.requires.1 c.is_full_at.result c.is_full_at.ensures c.if-is_full_at.true)

pub returns-then-in_flight-carried-lt-CARRIED : goal.returns-then-in_flight-carried-lt-CARRIED
returns-then-in_flight-carried-lt-CARRIED c =
    let none_there = lacked (goal.at.returns-then-in_flight-carried-lt-CARRIED c).In-Missing in
    full-room (lease.view c.args.table.now) c.args.offset.0 none_there
    (few c.args.table.now c.args.offset.0 c.args.place none_there c.requires.1 c.is_full_at.result c.is_full_at.ensures c.if-is_full_at.false)
    (omega (arith, c.in_flight.ensures, c.carried.ensures, c.if-in_flight-carried-lt-CARRIED.true))

pub returns : goal.returns
returns c =
    let none_there = lacked (goal.at.returns c).In-Missing in
    sym (uncounted c.carried_count.result c.is_none.result c.is_none.ensures)
    ∙ ap is_none c.carried_count.ensures
    ∙ full-by-count (lease.view c.args.table.now) c.args.offset.0 none_there
    (few c.args.table.now c.args.offset.0 c.args.place none_there c.requires.1 c.is_full_at.result c.is_full_at.ensures c.if-is_full_at.false)
    (omega (arith, c.in_flight.ensures, c.carried.ensures, c.if-in_flight-carried-lt-CARRIED.false))
