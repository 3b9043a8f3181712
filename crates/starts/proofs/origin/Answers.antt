-- `origin` meets its contract: the choice between the openings of both halves. Assumes nothing.
use Prim.Native.Nat.{ℕ}
use native.Mathlib.Omega.{arith}
use mathlib.Core.Path.{◌≡◌}
use lib.ListN.{length}
use Rattle.std.specs.Prelude.{Some, None}
use Rattle.std.specs.Prelude as std
use Rattle.consumer.specs.State.{half_blocks}
use Rattle.starts.specs.Starting.{OpeningIs}
use Rattle.starts.proofs.Halves.{at-second, at-first, at_none}
use Rattle.starts.proofs.origin.Goals as goal
use Rattle.starts.proofs.origin.Goals.{After-opened_by-second}

second : (c : After-opened_by-second) → OpeningIs c.args.area.now (half_blocks (length c.args.area.now)) c.opened_by-second.result
second c = rw c.half_blocks-middle.ensures at c.opened_by-second.ensures

other : {k : ℕ} {o : std.Option ℕ} {A : Type 0} → o ≡ None → o ≡ Some k → A
other p q = absurd (cc)

same : {k n : ℕ} {o : std.Option ℕ} → o ≡ Some k → o ≡ Some n → k ≡ n
same p q = cc

pub returns-in-None-None : goal.returns-in-None-None
returns-in-None-None c =
    at_none c.args.area.now _ _ c.opened_by-first.ensures (second (goal.at.returns-in-None-None c).After-opened_by-second)
    c.in-None-None.is-0 c.in-None-None.is-1

pub returns-in-None-Some : goal.returns-in-None-Some
returns-in-None-Some c =
    at-second c.args.area.now _ _ c.opened_by-first.ensures (second (goal.at.returns-in-None-Some c).After-opened_by-second) _ _
    c.in-None-Some.is-1 c.half_blocks-middle.ensures (λ k q. other c.in-None-Some.is-0 q)

pub returns-in-Some-None : goal.returns-in-Some-None
returns-in-Some-None c =
    at-first c.args.area.now _ _ c.opened_by-first.ensures (second (goal.at.returns-in-Some-None c).After-opened_by-second) _
    c.in-Some-None.is-0 (λ n q. other c.in-Some-None.is-1 q)

pub returns-then-a-b : goal.returns-then-a-b
returns-then-a-b c =
    at-second c.args.area.now _ _ c.opened_by-first.ensures (second (goal.at.returns-then-a-b c).After-opened_by-second) _ _
    c.in-Some-Some.is-1 c.half_blocks-middle.ensures (λ k q. let e : c.in-Some-Some.a ≡ k = same c.in-Some-Some.is-0 q in omega arith)

pub returns-else-a-b : goal.returns-else-a-b
returns-else-a-b c =
    at-first c.args.area.now _ _ c.opened_by-first.ensures (second (goal.at.returns-else-a-b c).After-opened_by-second) _
    c.in-Some-Some.is-0 (λ n q. let e : c.in-Some-Some.b ≡ n = same c.in-Some-Some.is-1 q in omega arith)
