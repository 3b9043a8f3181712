-- `begin` meets its contract: the parts of a consumer, lent to `begin_in_place`, are that consumer. Assumes nothing.
use mathlib.Core.Path.{refl}
use Rattle.consumer.proofs.Arrays.{table-full, cursor-whole}
use Rattle.checkpoint.specs.Parts.{Lent}
use Rattle.checkpoint.proofs.begin.Goals as goal
use Rattle.checkpoint.proofs.begin.Goals.{Start}

lent : (c : Start) → Lent c.args.consumer
lent c =
    record {
      cursor = cursor-whole c.args.consumer.cursor _ c.well_formed.0.1.1.0 c.requires.cursor;
      table = table-full c.args.consumer.table _ c.well_formed.0.1.1.1.0;
      sound = c.requires;
    }

pub begin_in_place-begun-requires : goal.begin_in_place-begun-requires
begin_in_place-begun-requires c =
    record { consumer = c.args.consumer; lent = lent (goal.at.begin_in_place-begun-requires c).Start; payload = refl }

pub returns : goal.returns
returns c = c.in-Ok.ensures c.args.consumer (lent (goal.at.returns c).Start) 0 0 0

pub returns-in-Err : goal.returns-in-Err
returns-in-Err c = c.in-Err.ensures c.args.consumer (lent (goal.at.returns-in-Err c).Start) 0 0 0
