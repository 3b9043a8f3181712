-- `locate` meets its contract: each answer by one law of the search. Assumes nothing.
use native.Mathlib.Omega.{arith}
use Rattle.cursor.specs.View.{ack_cursor, view}
use Rattle.cursor.proofs.Place.{spot_max}
use Rattle.cursor.proofs.Search.{Looked, starts_rise, place-within, found-settled, found-behind, found_between, found_before, found-apart}
use Rattle.cursor.proofs.in_place.locate.Goals as goal
use Rattle.cursor.proofs.in_place.locate.Goals.{After-stands_at-next, Start}

pub returns-then-x-eq-MAX : goal.returns-then-x-eq-MAX
returns-then-x-eq-MAX c = spot_max (view (ack_cursor c.args.committed c.args.starts.now c.args.ends.now c.args.runs)) c.args.x c.if-x-eq-MAX.true

pub partition_point-i-requires : goal.partition_point-i-requires
partition_point-i-requires c = starts_rise (ack_cursor c.args.committed c.args.starts.now c.args.ends.now c.args.runs) c.requires

pub end_before-end-requires : goal.end_before-end-requires
end_before-end-requires c =
    omega (arith, place-within (ack_cursor c.args.committed c.args.starts.now c.args.ends.now c.args.runs) c.requires c.args.x c.partition_point-i.result c.partition_point-i.ensures, c.requires.sound.few, c.requires.ends)

pub returns-then-x-end : goal.returns-then-x-end
returns-then-x-end c =
    found-settled (ack_cursor c.args.committed c.args.starts.now c.args.ends.now c.args.runs) c.requires c.args.x c.partition_point-i.result c.partition_point-i.ensures c.end_before-end.result c.end_before-end.ensures c.if-x-end.true

-- what was seen, where the offset is not settled
looked : (c : After-stands_at-next) → Looked (ack_cursor c.args.committed c.args.starts.now c.args.ends.now c.args.runs) c.args.x c.partition_point-i.result c.end_before-end.result c.stands_at-next.result
looked c =
    record {
      place = c.partition_point-i.ensures;
      before = c.end_before-end.ensures;
      behind = c.stands_at-next.ensures;
      unsettled = c.if-x-end.false;
      last = c.if-x-eq-MAX.false;
    }

pub returns-then-next : goal.returns-then-next
returns-then-next c =
    found_between (ack_cursor c.args.committed c.args.starts.now c.args.ends.now c.args.runs) c.requires (looked (goal.at.returns-then-next c).After-stands_at-next) c.if-end-x.true c.if-next.true

pub returns-then-end-x : goal.returns-then-end-x
returns-then-end-x c =
    found-behind (ack_cursor c.args.committed c.args.starts.now c.args.ends.now c.args.runs) c.requires (looked (goal.at.returns-then-end-x c).After-stands_at-next) c.if-end-x.true c.if-next.false

pub returns-then-next-2 : goal.returns-then-next-2
returns-then-next-2 c =
    found_before (ack_cursor c.args.committed c.args.starts.now c.args.ends.now c.args.runs) c.requires (looked (goal.at.returns-then-next-2 c).After-stands_at-next) c.if-end-x.false c.if-next-2.true

pub returns : goal.returns
returns c =
    found-apart (ack_cursor c.args.committed c.args.starts.now c.args.ends.now c.args.runs) c.requires (looked (goal.at.returns c).After-stands_at-next) c.if-end-x.false c.if-next-2.false
