-- `columns_of` meets its contract: each column lies where the layout has it. Assumes nothing.
use Rattle.types.specs.Limits.{LEASES, CARRIED}
use mathlib.Core.Path.{refl}
use Rattle.words.proofs.Columns.{column-is}
use Rattle.lease.specs.Layout.{OFFSETS, SLOTS, DELIVERIES, CARRIED-OFFSETS, CARRIED-COUNTS}
use Rattle.checkpoint_words.proofs.in_words.columns_of.Goals as goal

pub returns : goal.returns
returns c =
    let t = c.args.table.now in
    record {
      len = refl;
      carried-len = refl;
      offsets = column-is OFFSETS LEASES t;
      slots = column-is SLOTS LEASES t;
      deliveries = column-is DELIVERIES LEASES t;
      carried-offsets = column-is CARRIED-OFFSETS CARRIED t;
      carried-counts = column-is CARRIED-COUNTS CARRIED t;
    }
