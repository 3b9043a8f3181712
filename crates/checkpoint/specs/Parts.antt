-- The parts of a consumer and of a writing record, as a begin and a step in place are handed them, and what both answer on every
-- consumer and every record that has them.
-- SPEC.md, "Checkpoint".
use Rattle.std.specs.Prelude.{ℕ, suc, ◌+◌, ◌-◌, ◌≡◌, cond, List, ltb, leb, length, replicate, Ok, Err}
use Rattle.std.specs.Prelude as std
use Rattle.types.specs.Table.{Passed, Kept}
use Rattle.types.specs.declared.refusals.Refusal.{Refusal}
use Rattle.cursor.specs.View as cursor
use Rattle.cursor.specs.declared.AckCursor.{AckCursor}
use Rattle.lease.specs.Parts.{gathered, listing_all, Full}
use Rattle.lease.specs.declared.LeaseTable.{LeaseTable}
use Rattle.journal.specs.declared.Header.{Header}
use Rattle.journal.specs.declared.Block.TheVariants as block
use Rattle.consumer.specs.Rights.{checkpointing}
use Rattle.consumer.specs.Calls.{call_rows}
use Rattle.consumer.specs.View.{view, Sound}
use Rattle.consumer.specs.Parts.{permitted}
use Rattle.consumer.specs.declared.Consumer.{Consumer}
use Rattle.checkpoint.specs.Checkpoint.{header_place, zeroed_for}
use Rattle.checkpoint.specs.Writing.{SoundWriting, begin_of, BegunIs, SteppedIs}
use Rattle.checkpoint.specs.declared.Writing.{Writing}
use Rattle.checkpoint.specs.declared.Wrote.{Wrote}
use Rattle.checkpoint.specs.declared.counts.Columns.{Columns}
use Rattle.checkpoint.specs.declared.in_place.BegunAt.{BegunAt}
use Rattle.checkpoint.specs.declared.in_place.SteppedAt.{SteppedAt}
use Rattle.checkpoint.specs.declared.in_place.Place.{Place}
use Rattle.checkpoint.specs.declared.in_place.NextWrite.{NextWrite}

-- ## begin
-- a consumer with these parts: its cursor, what its table counts, its next group and the length of its area
abbrev pub fitting : AckCursor → (LeaseTable → LeaseTable) → (number block areaLen : ℕ) → Consumer → Consumer
fitting cursor table n b size c =
    record {
      cursor = cursor;
      table = table c.table;
      ceiling = c.ceiling;
      next = record { number = n; block = b };
      area_len = size;
      settings = c.settings;
    }

-- and with these rights
abbrev pub beginning : List ℕ → AckCursor → (LeaseTable → LeaseTable) → (number block areaLen : ℕ) → Consumer → Consumer
beginning rights cursor table n b size = permitted rights (fitting cursor table n b size)

-- what a table counts in these columns
abbrev pub counting : {T : Type 0} → (List T → List ℕ) → Columns T → LeaseTable → LeaseTable
counting numbers c =
    listing_all c.len c.carried_len c.offsets.now (numbers c.slots.now) (numbers c.deliveries.now) c.carried_offsets.now (numbers c.carried_counts.now)

-- a record of a consumer
abbrev pub recording : (written cursorLen attemptLen : ℕ) → List ℕ → Consumer → Writing
recording w lc la bytes c = record { consumer = c; written = w; payload = bytes; cursor_len = lc; attempt_len = la }

-- one in which nothing is begun
abbrev pub unbegun : Consumer → Writing
unbegun c = recording 0 0 0 (replicate 3606 0) c

-- a sound consumer whose columns are lent: they have their lengths
pub record Lent (c : Consumer) : Type 0 where
  pub cursor : cursor.Whole c.cursor
  pub table : Full c.table
  pub sound : Sound c

-- the parts of such a consumer, and the place of a payload
pub record Beginnable (parts : Consumer → Consumer) (bytes : List ℕ) : Type 0 where
  pub consumer : Consumer
  pub lent : Lent (parts consumer)
  pub payload : length bytes ≡ 3606

-- begin on a record: as by value, and a refusal keeps the very record, its payload included
pub record BegunAs (answer : std.Result ℕ Refusal) (worker : ℕ) (before after : Writing) : Type 0 where
  pub begun : BegunIs before.consumer worker (record { answer = answer; writing = after })
  pub kept : Kept (begin_of answer after) before after

-- what a begin answers, and the record that it makes of one with these numbers; a refusal leaves them
abbrev pub writes_of : std.Result BegunAt Refusal → std.Result ℕ Refusal
writes_of (Ok b) = Ok b.writes
writes_of (Err r) = Err r

abbrev pub begun_by : std.Result BegunAt Refusal → (written cursorLen attemptLen : ℕ) → List ℕ → Consumer → Writing
begun_by (Ok b) w lc la bytes = recording 0 b.cursor_len b.attempt_len bytes
begun_by (Err r) w lc la bytes = recording w lc la bytes

abbrev pub BegunIn : std.Result BegunAt Refusal → ℕ → (Consumer → Consumer) → (before after : List ℕ) → Type 0
BegunIn r worker parts before after =
    (c : Consumer) → Lent (parts c) → (w lc la : ℕ) → BegunAs (writes_of r) worker (recording w lc la before (parts c)) (begun_by r w lc la after (parts c))

-- the same for every worker that may
abbrev pub PermittedIn : std.Result BegunAt Refusal → (Consumer → Consumer) → (before after : List ℕ) → Type 0
PermittedIn r parts before after =
    (c : Consumer) → Lent (parts c) → (worker : ℕ) → Passed (call_rows (view (parts c)) worker checkpointing) → (w lc la : ℕ)
    → BegunAs (writes_of r) worker (recording w lc la before (parts c)) (begun_by r w lc la after (parts c))

-- ## step
-- the numbers that a step reads or changes, and the payload
pub record Parts : Type 0 where
  pub written : ℕ
  pub cursorLen : ℕ
  pub attemptLen : ℕ
  pub areaLen : ℕ
  pub generation : ℕ
  pub ceiling : ℕ
  pub redeliveries : ℕ
  pub number : ℕ
  pub block : ℕ
  pub payload : List ℕ

abbrev pub parts : (written cursorLen attemptLen areaLen generation ceiling redeliveries number block : ℕ) → List ℕ → Parts
parts w lc la size g c r n b bytes =
    record {
      written = w;
      cursorLen = lc;
      attemptLen = la;
      areaLen = size;
      generation = g;
      ceiling = c;
      redeliveries = r;
      number = n;
      block = b;
      payload = bytes;
    }

-- a table with another next generation and another counter
abbrev pub tabled : (generation redeliveries : ℕ) → LeaseTable → LeaseTable
tabled g r t =
    gathered t.config t.len t.carried_len g r t.offsets t.slots t.generations t.attempt_starts t.deadlines t.deliveries t.workers t.carried_offsets t.carried_counts

-- the record with these parts in their places
abbrev pub with_parts : Parts → Writing → Writing
with_parts p w =
    record {
      consumer =
          record {
            cursor = w.consumer.cursor;
            table = tabled p.generation p.redeliveries w.consumer.table;
            ceiling = record { 0 = p.ceiling };
            next = record { number = p.number; block = p.block };
            area_len = p.areaLen;
            settings = w.consumer.settings;
          };
      written = p.written;
      payload = p.payload;
      cursor_len = p.cursorLen;
      attempt_len = p.attemptLen;
    }

-- the parts of a sound record
pub record Steppable (p : Parts) : Type 0 where
  pub writing : Writing
  pub sound : SoundWriting (with_parts p writing)

-- what a step answers on every record that has these parts, and the parts that it leaves
abbrev pub wrote_of : std.Result SteppedAt Refusal → std.Result Wrote Refusal
wrote_of (Ok s) = Ok s.wrote
wrote_of (Err r) = Err r

abbrev pub stepped : Parts → std.Result SteppedAt Refusal → Parts
stepped p (Ok s) =
    parts s.numbers.written p.cursorLen p.attemptLen p.areaLen p.generation s.numbers.ceiling s.numbers.redeliveries s.numbers.number s.numbers.block p.payload
stepped p (Err r) = p

abbrev pub SteppedIn : Parts → List ℕ → std.Result SteppedAt Refusal → List ℕ → Type 0
SteppedIn p a r a' =
    (w : Writing) → SoundWriting (with_parts p w)
    → SteppedIs (with_parts p w) a (record { answer = wrote_of r; writing = with_parts (stepped p r) w }) a'

-- where a group of n bodies goes
pub record PlaceIs (size from n : ℕ) (r : Place) : Type 0 where
  pub block : r.block ≡ header_place size from n
  pub zeros : r.zeros ≡ zeroed_for size from n

-- the next block write of a group of n bodies that goes there, after so many: zeros, then bodies, then the header
pub record NextIs (place : Place) (n written : ℕ) (h : Header) (r : NextWrite) : Type 0 where
  pub last : r.last ≡ leb (place.zeros + n) written
  pub at : r.at
      ≡ cond (ltb written place.zeros) (place.block + written) (cond r.last place.block (place.block + suc (written - place.zeros)))
  pub block : r.block ≡ cond (ltb written place.zeros) block.Zeros (cond r.last (block.Header h) (block.Body h.number (suc (written - place.zeros))))

-- the header of these numbers
abbrev pub header_by : (number ceiling cursorLen attemptLen : ℕ) → Header
header_by n c lc la = record { number = n; ceiling = c; cursor_len = lc; attempt_len = la }
