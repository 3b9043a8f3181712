-- `grant_first` meets its contract. Assumes nothing.
use Prim.Native.Nat.{◌≤◌}
use native.Mathlib.Omega.{arith}
use mathlib.Core.Path.{refl, ap, ◌∙◌}
use Rattle.types.specs.Limits.{MAX, MAX32}
use Rattle.lease.specs.Layout.{table_in}
use Rattle.lease.specs.declared.LeaseTable.{LeaseTable}
use Rattle.lease.proofs.Slots.{free}
use Rattle.lease.proofs.InWords.{whole, room-left, first_fits, generation-left, first-answers}
use Rattle.lease.proofs.in_words.grant_first.Goals as goal
use Rattle.lease.proofs.in_words.grant_first.Goals.{Start}

fits : (s : Start) → s.args.offset.0 ≤ MAX
fits s = omega arith

small : (s : Start) → s.args.worker ≤ MAX32
small s = omega arith

pub put_offset-requires : goal.put_offset-requires
put_offset-requires c =
    let few = room-left c.requires.0 c.args.worker c.args.offset.0 c.args.at c.args.now (fits (goal.at.put_offset-requires c).Start) (small (goal.at.put_offset-requires c).Start) c.requires.2 c.requires.1 in
    (c.table-1.given ∙ c.requires.0.long, rw (ap (λ (t : LeaseTable). t.len) c.take_carried-prior.ensures.is) few)

pub grant-requires : goal.grant-requires
grant-requires c =
    let t = table_in c.args.table.now in
    let few = room-left c.requires.0 c.args.worker c.args.offset.0 c.args.at c.args.now (fits (goal.at.grant-requires c).Start) (small (goal.at.grant-requires c).Start) c.requires.2 c.requires.1 in
    let inside = (free t (whole c.requires.0).full c.requires.0.table c.requires.1 refl).inside in (
      c.table-2-1.given ∙ c.table-1.given ∙ c.requires.0.long,
      first_fits c.requires.0 c.args.worker c.args.offset.0 c.args.at c.args.now (fits (goal.at.grant-requires c).Start) (small (goal.at.grant-requires c).Start) c.requires.2
          c.take_carried-prior.new.table c.take_carried-prior.result c.take_carried-prior.ensures c.put_offset.new.table c.put_offset.ensures,
      omega (arith, few, inside),
      generation-left c.requires.0 c.args.worker c.args.offset.0 c.args.at c.args.now (fits (goal.at.grant-requires c).Start) (small (goal.at.grant-requires c).Start) c.requires.2
          c.take_carried-prior.new.table c.take_carried-prior.result c.take_carried-prior.ensures c.put_offset.new.table c.put_offset.ensures,
    )

pub returns : goal.returns
returns c =
    first-answers c.requires.0 c.args.worker c.args.offset.0 c.args.at c.args.now (fits (goal.at.returns c).Start) (small (goal.at.returns c).Start) c.requires.2
    c.take_carried-prior.new.table c.take_carried-prior.result c.take_carried-prior.ensures c.put_offset.new.table c.put_offset.ensures
    c.requires.1 c.saturating_add-count.result c.saturating_add-count.ensures
    c.grant.new.table (c.table-3-1.given ∙ c.table-2-1.given ∙ c.table-1.given ∙ c.requires.0.long) c.grant.ensures.0 c.grant.result c.grant.ensures.1
