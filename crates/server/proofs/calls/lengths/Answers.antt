-- `lengths` meets its contract: the type of a record says how long its arrays are. Assumes nothing.
use borrow.Author.Rules.{rules}
use Rattle.server.proofs.calls.lengths.Goals as goal

pub returns-clause-arrays : goal.returns-clause-arrays
returns-clause-arrays c =
    record {
      starts = search rules;
      ends = search rules;
      table =
          record {
            offsets = search rules;
            slots = search rules;
            leases = record { generations = search rules; starts = search rules; deadlines = search rules; counts = search rules; workers = search rules };
            carried-offsets = search rules;
            carried-counts = search rules;
          };
      backoffs = search rules;
    }
