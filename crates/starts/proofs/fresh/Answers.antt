-- `fresh` meets its contract: a cursor and a table without anything in them. Assumes nothing.
use mathlib.Core.Path.{refl, ap₂}
use Rattle.cursor.specs.Cursor.{Cursor}
use Rattle.lease.specs.State.{Table}
use Rattle.consumer.specs.State.{state_of, next_group_at}
use Rattle.consumer.specs.View.{settings_of}
use Rattle.starts.proofs.fresh.Goals as goal

pub returns : goal.returns
returns c =
    let a = c.args in
    record {
      is = ap₂ (λ (k : Cursor) (t : Table). state_of k t 0 (next_group_at 1 0) a.area_len (settings_of a.configuration.settings)) c.new.ensures.is c.starting_at.ensures.is;
      cursor = c.new.ensures.sound;
      table = c.starting_at.ensures.sound;
      settings = refl;
    }
