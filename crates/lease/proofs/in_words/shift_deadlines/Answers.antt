-- `shift_deadlines` meets its contract. Assumes nothing.
use mathlib.Core.Path.{ap, ◌∙◌}
use mathlib.Core.List.{map}
use borrow.Rule.Slice.PartMut.{put_mid}
use Rattle.types.specs.Limits.{LEASES}
use Rattle.words.proofs.Columns.{column-is}
use Rattle.lease.specs.Helpers.{later_by}
use Rattle.lease.specs.Layout.{STARTS, DEADLINES}
use Rattle.lease.proofs.Stores.{deadlines-kept, long-timed, times-put}
use Rattle.lease.proofs.InWords.{shift-answers}
use Rattle.lease.proofs.in_words.shift_deadlines.Goals as goal

pub returns : goal.returns
returns c =
    let w = c.args.table.now in
    let f = later_by c.args.delta in
    let ss = c.shift.new.times in
    let ds = c.shift-2.new.times in
    let k = c.table-1.given.0 in
    let m = c.table-2-1.given.0 in
    shift-answers c.requires c.args.delta ss ds (c.shift.ensures ∙ ap (map f) (column-is STARTS LEASES w)) (c.shift-2.ensures ∙ ap (map f) (deadlines-kept w c.requires.long ss k ds m))
    (put_mid DEADLINES LEASES (put_mid STARTS LEASES w ss) ds) (long-timed w c.requires.long ss k ds m) (times-put w c.requires.long ss k ds m)
