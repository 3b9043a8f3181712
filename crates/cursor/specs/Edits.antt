-- What becomes of the columns of a cursor: an edit of each, as a plan has it before anything is changed, and the cursor with
-- both made.
-- SPEC.md, "Cursor".
use Rattle.std.specs.Prelude.{ℕ, zero, suc, ◌+◌, ◌-◌, List, get_or, set}
use Rattle.types.specs.Refusal.{done}
use Rattle.tables.specs.Columns.{put_in, takenOut}
use Rattle.cursor.specs.Cursor.{ackBounded, commit_up_to}
use Rattle.cursor.specs.View.{ack_cursor, view}
use Rattle.cursor.specs.Answers.{ack_of, Updated}
use Rattle.cursor.specs.declared.AckCursor.{AckCursor}
use Rattle.cursor.specs.declared.BoundedAck.{BoundedAck}
use Rattle.cursor.specs.declared.BoundedAck.TheVariants.{Recorded}
use Rattle.cursor.specs.declared.in_place.AckPlan.{AckPlan}
use Rattle.cursor.specs.declared.in_place.CommitPlan.{CommitPlan}
use Rattle.cursor.specs.declared.in_place.Edit.{Edit}
use Rattle.cursor.specs.declared.in_place.Edit.TheVariants.{Keep, Set, Insert, Remove}

-- a column of which the first n places are in use, edited
abbrev pub edited : ℕ → Edit → List ℕ → List ℕ
edited n Keep l = l
edited n (Set at x) l = set l at x
edited n (Insert at x) l = put_in n at x l
edited n (Remove from to) l = takenOut n from to l

-- a cursor with its columns edited and with new numbers
abbrev pub after : AckCursor → Edit → Edit → ℕ → ℕ → AckCursor
after g starts ends committed runs =
    ack_cursor committed (edited g.runs starts g.starts) (edited g.runs ends g.ends) runs

abbrev pub ack_plan : BoundedAck → ℕ → ℕ → Edit → Edit → AckPlan
ack_plan outcome committed runs starts ends =
    record { noted = record { outcome = outcome; committed = committed; runs = runs }; starts = starts; ends = ends }

-- the end before a place moves
abbrev pub stretch_plan : ℕ → ℕ → ℕ → ℕ → AckPlan
stretch_plan committed runs zero end = ack_plan Recorded end runs Keep Keep
stretch_plan committed runs (suc k) end = ack_plan Recorded committed runs Keep (Set k end)

-- the range at a place becomes part of what ends before it
abbrev pub join_plan : ℕ → List ℕ → ℕ → ℕ → AckPlan
join_plan committed ends runs zero = ack_plan Recorded (get_or ends 0 0) (runs - 1) (Remove 0 1) (Remove 0 1)
join_plan committed ends runs (suc k) = ack_plan Recorded committed (runs - 1) (Remove (suc k) (suc k + 1)) (Remove k (suc k))

-- made, the plan is what the definition says
abbrev pub AckPlanned : AckCursor → ℕ → ℕ → AckPlan → Type 0
AckPlanned g offset limit p =
    Updated g (ack_of p.noted.outcome) (after g p.starts p.ends p.noted.committed p.noted.runs)
    (ackBounded (view g) offset limit)

abbrev pub CommitPlanned : AckCursor → ℕ → CommitPlan → Type 0
CommitPlanned g bound p =
    Updated g (done p.moved.advanced) (after g p.both p.both p.moved.committed p.moved.runs)
    (commit_up_to (view g) bound)
