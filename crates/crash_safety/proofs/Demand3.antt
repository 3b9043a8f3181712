-- Demand 3 holds: a fresh consumer on a zeroed journal is within the invariant, each item of a list keeps it and obeys the law
-- of the events, and the law gives the bound, the generations and what restarts find. Assumes nothing.
use Prim.Native.Nat.{ℕ, ◌<◌}
use native.Mathlib.Omega.{arith}
use mathlib.Core.Path.{◌≡◌}
use mathlib.Core.List.{List}
use Rattle.types.specs.Limits.{MAX32}
use Rattle.types.specs.Refusal.{done}
use Rattle.consumer.specs.State.{Configuration, State}
use Rattle.consumer.specs.Valid.{Fits}
use Rattle.starts.specs.Restart.{start}
use Rattle.crash_safety.specs.Runs.{Item, run, fresh_world}
use Rattle.crash_safety.specs.Demand3.{Limited, Demand3}
use Rattle.crash_safety.proofs.Law.{empty_ledger, noted, Law, Seen, all-seen, Along, restarts-right}
use Rattle.crash_safety.proofs.Generations.{none_shared}
use Rattle.crash_safety.proofs.Bound.{bounded}
use Rattle.crash_safety.proofs.Runs.{along}
use Rattle.crash_safety.proofs.Restarts.{all_made}
use Rattle.crash_safety.proofs.Invariant.{Inv}
use Rattle.crash_safety.proofs.Kept.{item-kept}
use Rattle.crash_safety.proofs.Start.{begins_well}

-- M lies strictly between 0 and the largest u32, so that counts pass it before they stop
pub limits : (c : Configuration) → Limited c → Fits c.settings → (0 < c.settings.policy.maxDeliver) × (c.settings.policy.maxDeliver < MAX32)
limits c p f = omega (arith, p.not_0, p.not_max, f.limit-fits)

-- the events of every list obey the law
pub lawfully : (c : Configuration) (n : ℕ) (s : State) (items : List Item) → Fits c.settings → start c n ≡ done s
    → Along noted (Law c.settings.policy) empty_ledger (run c (fresh_world s n) items)
lawfully c n s items f e =
    let b = begins_well c n s f e in
    along noted (Law c.settings.policy) (Inv c n) c (item-kept c n b.accepted) items empty_ledger (fresh_world s n) b.inv

pub demand_3 : Demand3
unfolding Demand3
demand_3 c n s items f e =
    let seen : Along noted (Seen c.settings.policy) empty_ledger (run c (fresh_world s n) items) =
    all-seen c.settings.policy (run c (fresh_world s n) items) empty_ledger (lawfully c n s items f e) in
    record {
      bound = λ p o. omega (
        arith,
        rw (all_made c items (fresh_world s n)) at (bounded c.settings.policy (limits c p f).0 (limits c p f).1 (run c (fresh_world s n) items) seen o),
      );
      generations = none_shared c.settings.policy (run c (fresh_world s n) items) empty_ledger seen;
      found = restarts-right c.settings.policy (run c (fresh_world s n) items) empty_ledger seen;
    }
