-- `is_acked_in_place` meets its contract. Assumes nothing.
use native.Mathlib.Omega.{arith}
use Rattle.cursor.specs.View.{ack_cursor}
use Rattle.cursor.proofs.Search.{starts_rise, place-within, found-acked}
use Rattle.cursor.proofs.in_place.is_acked_in_place.Goals as goal
use Rattle.cursor.proofs.in_place.is_acked_in_place.Goals.{Start}

pub partition_point-i-requires : goal.partition_point-i-requires
partition_point-i-requires c = starts_rise (ack_cursor c.args.committed c.args.starts.now c.args.ends.now c.args.runs) c.requires

pub end_before-requires : goal.end_before-requires
end_before-requires c =
    omega (arith, place-within (ack_cursor c.args.committed c.args.starts.now c.args.ends.now c.args.runs) c.requires c.args.offset c.partition_point-i.result c.partition_point-i.ensures, c.requires.sound.few, c.requires.ends)

pub returns : goal.returns
returns c =
    found-acked (ack_cursor c.args.committed c.args.starts.now c.args.ends.now c.args.runs) c.requires c.args.offset c.partition_point-i.result c.partition_point-i.ensures c.end_before.result c.end_before.ensures
