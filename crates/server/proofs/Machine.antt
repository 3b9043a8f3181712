-- What a machine that is sound and whose arrays have their lengths is handed on as: the parts of it that a call in place is lent.
-- Assumes nothing.
use Prim.Native.Nat.{ℕ}
use mathlib.Core.Path.{◌≡◌}
use lib.ListN.{length}
use Rattle.starts.specs.Parts.{Long, columns}
use Rattle.server.specs.Parts.{Sized, Askable, Lendable}
use Rattle.server.proofs.InNumbers.{sound_if}
use Rattle.machine.specs.View.{Sound}
use Rattle.machine.specs.declared.Machine.{Machine}

module _ (m : Machine) (z : Sized m.writing.consumer) where
  pub long-told : let c = m.writing.consumer in Long (columns c.cursor.starts c.cursor.ends c.table.carried_offsets c.table.carried_counts)
  long-told = record { starts = z.starts; ends = z.ends; offsets = z.table.carried-offsets; counts = z.table.carried-counts }

  pub askable-told : Sound m → Askable m.phase m.writing.consumer
  askable-told sound = record { sized = z; sound = sound_if m.configuration m.writing m.phase sound }

  pub lendable-told : length m.writing.payload ≡ 3606 → Sound m → Lendable m.phase m.writing
  lendable-told payload sound = record { sized = z; payload = payload; sound = sound }
