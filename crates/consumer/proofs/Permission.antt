-- What `permission_of` owes its contract, and what its callers learn from it: 38 and 39 of the worker's rows.
-- Assumes nothing.
use Prim.Native.Nat.{ℕ, ◌≤◌, ◌<◌, ◌/◌, ◌%◌}
use mathlib.Core.Path.{◌≡◌, sym}
use mathlib.Core.List.{List}
use mathlib.Core.Option.{none, some}
use lib.ListN.{get_or}
use borrow.Author.Tests.{le-leb, lt-leb, leb-false, eq-eqb, ne_eqb}
use Rattle.types.specs.Limits.{WORKERS}
use Rattle.types.specs.Refusal.{UnknownWorker, NotPermitted}
use Rattle.types.specs.Table.{first}
use Rattle.types.proofs.Table.{first_none}
use Rattle.consumer.specs.Rights.{worker_rows}

module _ (rights : List ℕ) (w bit : ℕ) where
  pub unknown : WORKERS ≤ w → some UnknownWorker ≡ first (worker_rows rights w bit)
  unknown h = rw (le-leb WORKERS w h)

  module _ (known : w < WORKERS) where
    pub no-bit : bit ≡ 0 → some NotPermitted ≡ first (worker_rows rights w bit)
    no-bit h = rw (lt-leb WORKERS w known, eq-eqb bit 0 h)

    pub granted : (bit ≡ 0 → ⊥) → get_or rights w 0 / bit % 2 ≡ 1 → none ≡ first (worker_rows rights w bit)
    granted n h = rw (lt-leb WORKERS w known, ne_eqb bit 0 n, eq-eqb (get_or rights w 0 / bit % 2) 1 h)

    pub not_granted : (bit ≡ 0 → ⊥) → (get_or rights w 0 / bit % 2 ≡ 1 → ⊥) → some NotPermitted ≡ first (worker_rows rights w bit)
    not_granted n h = rw (lt-leb WORKERS w known, ne_eqb bit 0 n, ne_eqb (get_or rights w 0 / bit % 2) 1 h)

  -- a worker who is permitted something is one of the eight
  pub is_known : none ≡ first (worker_rows rights w bit) → w < WORKERS
  is_known e = leb-false WORKERS w (first_none (worker_rows rights w bit) (sym e)).0
