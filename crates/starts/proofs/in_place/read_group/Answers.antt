-- `read_group` meets its contract: the group lies in the area, so its header is read, its payload stands in the lent memory, and
-- both snapshots are parts of that. Assumes nothing.
use native.Mathlib.Omega.{arith}
use Prim.Native.Nat.{◌+◌, ◌≤◌}
use mathlib.Core.Path.{refl, sym}
use lib.ListN.{length}
use lib.Seq.{length-take-le}
use borrow.Author.Rules.{rules}
use Rattle.starts.proofs.Reading.{header-fits, area_small, lent_length, group-read}
use Rattle.starts.proofs.in_place.read_group.Goals as goal
use Rattle.starts.proofs.in_place.read_group.Goals.{After-read_payload}

pub overflow_mul-from : goal.overflow_mul-from
overflow_mul-from c =
    let a = c.args in
    omega (arith, header-fits a.area.now a.at c.requires.0, area_small a.area.now a.at c.requires.0)

pub overflow_add-to : goal.overflow_add-to
overflow_add-to c =
    let a = c.args in
    omega (arith, header-fits a.area.now a.at c.requires.0, area_small a.area.now a.at c.requires.0)

-- the two snapshots lie in the lent memory
room : (c : After-read_payload)
    → c.read_header-header.result.cursor_len + c.read_header-header.result.attempt_len ≤ length c.read_payload.new.out
room c =
    lent_length c.args.area.now c.args.at c.requires.0 c.read_header-header.result c.read_header-header.ensures _
    c.read_payload.new.out c.read_payload.result refl c.read_payload.ensures

pub slice_bounds-read_snapshots-end : goal.slice_bounds-read_snapshots-end
slice_bounds-read_snapshots-end c =
    sym (length-take-le _ c.read_payload.new.out (omega (arith, room (goal.at.slice_bounds-read_snapshots-end c).After-read_payload)))

pub slice_bounds-read_snapshots-end-2 : goal.slice_bounds-read_snapshots-end-2
slice_bounds-read_snapshots-end-2 c =
    let fits = room (goal.at.slice_bounds-read_snapshots-end-2 c).After-read_payload in
    search rules

pub returns : goal.returns
returns c =
    group-read c.args.area.now c.args.at c.requires.0 c.read_header-header.result c.read_header-header.ensures _
    c.read_payload.new.out c.read_payload.result refl c.read_payload.ensures
    c.args.next c.read_snapshots.result _ _ (c.read_snapshots.ensures (length c.args.area.now))
