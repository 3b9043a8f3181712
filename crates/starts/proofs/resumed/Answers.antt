-- `resumed` meets its contract: each part of the consumer is the definition's, and its table is the one that was made. Assumes nothing.
use Prim.Native.Nat.{ℕ}
use mathlib.Core.Path.{ap}
use Rattle.lease.specs.declared.LeaseTable.{LeaseTable}
use Rattle.consumer.specs.declared.Configuration.{Configuration}
use Rattle.consumer.specs.declared.Consumer.{Consumer}
use Rattle.starts.specs.Parts.{Columns, columns, cursor_by}
use Rattle.starts.specs.declared.in_place.RestartedAt.{RestartedAt}
use Rattle.starts.proofs.resumed.Goals as goal

-- the consumer with a table in its place
abbrev with-table : Configuration → ℕ → RestartedAt → Columns → LeaseTable → Consumer
with-table s size r p t =
    record { cursor = cursor_by r p; table = t; ceiling = record { 0 = r.ceiling }; next = record { number = r.number; block = r.block }; area_len = size; settings = s.settings }

pub returns : goal.returns
returns c =
    let a = c.args in
    let made = c.resumed_table-table.ensures in
    (ap (with-table a.configuration a.area_len a.numbers (columns a.starts a.ends a.carried_offsets a.carried_counts)) made.0, made.1)
