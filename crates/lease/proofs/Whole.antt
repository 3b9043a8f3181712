-- The arrays of a table that a function is handed have their lengths: what its type says, which every function by value starts from.
-- Assumes nothing.
use mathlib.Core.List.{[], ◌∷◌}
use denote.Laws.{Is}
use denote.Struct.Laws.{val}
use borrow.Author.Rules.{rules}
use Rattle.lease.specs.State.{Sound}
use Rattle.lease.specs.Parts.{Full, Whole}
use Rattle.lease.specs.declared.LeaseTable.{LeaseTable}
use Rattle.lease.specs.contracts.LeaseTable.{the_type, the_row}
use Rattle.lease.proofs.LeaseTable.TheLaws.{the_laws}

module _ {t : LeaseTable} (is : Is the_row t (val the_type the_laws t ∷ [])) where
  pub filled : Full t
  filled =
      record {
        offsets = search rules;
        slots = search rules;
        leases = record { generations = search rules; starts = search rules; deadlines = search rules; counts = search rules; workers = search rules };
        carried-offsets = search rules;
        carried-counts = search rules;
      }

  pub whole : Sound t → Whole t
  whole ok = record { full = filled; sound = ok }
