-- The arrays of a struct that a function is handed have their lengths. Assumes nothing.
use mathlib.Core.Path.{◌≡◌}
use mathlib.Core.List.{List}
use lib.ListN.{length}
use mir.Val.{Val}
use borrow.Author.Rules.{rules}
use denote.Shadow.{shadow}
use Rattle.cursor.specs.View as cursor
use Rattle.cursor.specs.declared.AckCursor.{AckCursor}
use Rattle.cursor.specs.contracts.AckCursor as K
use Rattle.lease.specs.Parts as lease
use Rattle.lease.specs.declared.LeaseTable.{LeaseTable}
use Rattle.lease.specs.contracts.LeaseTable as T
use Rattle.consumer.specs.declared.Settings.{Settings}
use Rattle.consumer.specs.contracts.Settings as S

-- what is known of a table, a cursor or settings that are a field of such a struct
pub table-full : (t : LeaseTable) (vs : List Val) → shadow ((T.the_field).row.own_val ((T.the_type).to t) vs) → lease.Full t
table-full t vs g =
    record {
      offsets = search rules;
      slots = search rules;
      leases = record { generations = search rules; starts = search rules; deadlines = search rules; counts = search rules; workers = search rules };
      carried-offsets = search rules;
      carried-counts = search rules;
    }

pub cursor-whole : (k : AckCursor) (vs : List Val) → shadow ((K.the_field).row.own_val ((K.the_type).to k) vs) → cursor.Sound k → cursor.Whole k
cursor-whole k vs g ok = record { starts = search rules; ends = search rules; sound = ok }

pub backoffs-full : (x : Settings) (vs : List Val) → shadow ((S.the_field).row.own_val ((S.the_type).to x) vs) → length x.delivery.backoff_nanos ≡ 16
backoffs-full x vs g = search rules
