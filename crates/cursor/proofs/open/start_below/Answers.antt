-- `start_below` meets its contract. Assumes nothing.
use Prim.Native.Nat.{◌<◌}
use native.Mathlib.Omega.{arith}
use mathlib.Core.Path.{◌≡◌, ◌∙◌}
use lib.ListN.{take, get_or}
use lib.Seq.{length-take-le, get_or-take}
use Rattle.cursor.proofs.Unsettled.{get_d_in, get_d_past}
use Rattle.cursor.proofs.open.start_below.Goals as goal
use Rattle.cursor.proofs.open.start_below.Goals.{Start}

-- the start at a place of the first n
start : (s : Start) → s.args.at < s.args.n → get_or (take s.args.n s.args.starts.now) s.args.at s.args.b ≡ get_or s.args.starts.now s.args.at 0
start s h =
    get_or-take s.args.n s.args.starts.now s.args.at s.args.b h
    ∙ get_d_in s.args.starts.now s.args.at s.args.b 0 (omega (arith, s.requires))

pub returns-then-at-n : goal.returns-then-at-n
returns-then-at-n c = omega (arith, start (goal.at.returns-then-at-n c).Start c.if-at-n.true, c.min.ensures)

pub returns-else-at-n : goal.returns-else-at-n
returns-else-at-n c =
    omega (arith, get_d_past (take c.args.n c.args.starts.now) c.args.at c.args.b (rw (length-take-le c.args.n c.args.starts.now c.requires) c.if-at-n.false))
