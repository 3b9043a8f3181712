-- The list is run, and the run ends. Assumes nothing.
-- an answer that is stored leaves what lies behind it
use Prim.Native.Nat.{ℕ, ◌-◌, ◌+◌, ◌*◌, ◌/◌, ◌≤◌}
use native.Mathlib.Omega.{arith}
use mathlib.Core.Path.{◌≡◌, refl, ap, ◌∙◌}
use mathlib.Core.List.{List, ◌++◌}
use lib.ListN.{length, set, take, drop}
use lib.Seq.{drop-set-lt}
use Rattle.operations.specs.State.{Ready}
use Rattle.operations.specs.Runs.{six_at}
use borrow.Author.Rules.{rules}
use Rattle.operations.proofs.Stored.{six-rest}
use Rattle.operations.proofs.ninotskev_operations.Goals as goal

pub loop-from-init : goal.loop-from-init
loop-from-init c = (search rules, omega arith, omega arith, refl, omega arith, omega arith, λ k h. refl)

pub returns-then-out-to-lt6 : goal.returns-then-out-to-lt6
returns-then-out-to-lt6 c = let l = c.loop-from in (omega arith, record { count = omega arith; rest = l.invariant.6 l.to (omega arith) })

pub loop-from-preserved : goal.loop-from-preserved
loop-from-preserved c =
    let p = c.put in
    let l = c.loop-from in
    (search rules, omega arith, omega arith, search rules, omega arith, omega arith, λ k h. six-rest k l.to _ _ l.out (search rules) (omega arith) p.ensures h ∙ l.invariant.6 k (omega (arith, h)))

pub returns : goal.returns
returns c = let l = c.loop-from in (omega arith, record { count = omega arith; rest = l.invariant.6 l.to (omega arith) })
