-- The parts of a machine, as the calls in place are handed them, and what each makes of every machine that has them.
-- SPEC.md, "Interface".
use Rattle.std.specs.Prelude.{ℕ, ◌≡◌, List, length}
use Rattle.lease.specs.Parts.{Full}
use Rattle.consumer.specs.Export.{Snapshots}
use Rattle.consumer.specs.declared.Configuration.{Configuration}
use Rattle.consumer.specs.declared.Consumer.{Consumer}
use Rattle.checkpoint.specs.Parts.{recording, Parts, with_parts}
use Rattle.checkpoint.specs.declared.Writing.{Writing}
use Rattle.machine.specs.View.{SoundAt}
use Rattle.machine.specs.declared.Machine.{Machine}
use Rattle.answers.specs.declared.Numbers.{Numbers}
use Rattle.server.specs.Transitions.{SoundIf, AskedOn, PlannedOn, ExportedOn, CallIs}

-- the machine of a phase and a record
abbrev pub machine_of : Configuration → ℕ → Writing → Machine
machine_of s k w = record { configuration = s; phase = k; writing = w }

-- the arrays of a consumer have their lengths: a lent array does not show its own
pub record Sized (c : Consumer) : Type 0 where
  pub starts : length c.cursor.starts ≡ 128
  pub ends : length c.cursor.ends ≡ 128
  pub table : Full c.table
  pub backoffs : length c.settings.delivery.backoff_nanos ≡ 16

-- ## a call on the state
-- a consumer that is sound where it can be called, and whose arrays have their lengths
pub record Askable (k : ℕ) (x : Consumer) : Type 0 where
  pub sized : Sized x
  pub sound : SoundIf k x

-- the parts of such a consumer
pub record AskableIn (k : ℕ) (parts : Consumer → Consumer) : Type 0 where
  pub consumer : Consumer
  pub askable : Askable k (parts consumer)

-- a call of worker w on every consumer that has these parts
abbrev pub AskedIn : ℕ → (before : Consumer → Consumer) (w kind a b c d : ℕ) (out : List ℕ) (n : Numbers) (after : Consumer → Consumer) (out' : List ℕ) → Type 0
AskedIn k before w kind a b c d out n after out' =
    (x : Consumer) → Askable k (before x) → AskedOn k (before x) w kind a b c d out n (after x) out'

-- Progress, which is call 5, on every consumer that has these parts, whatever list is lent
abbrev pub ProgressedIn : ℕ → (before : Consumer → Consumer) (w offset generation clock : ℕ) (n : Numbers) (after : Consumer → Consumer) → Type 0
ProgressedIn k before w offset generation clock n after = (out : List ℕ) → AskedIn k before w 5 offset generation clock 0 out n after out

-- a plan on every consumer that has these parts
abbrev pub PlannedIn : ℕ → (before : Consumer → Consumer) (w : ℕ) (os out : List ℕ) (n : Numbers) (after : Consumer → Consumer) (out' : List ℕ) → Type 0
PlannedIn k before w os out n after out' = (x : Consumer) → PlannedOn k (before x) w os out n (after x) out'

-- an export on every consumer that has these parts
abbrev pub ExportedIn : ℕ → (before : Consumer → Consumer) (w : ℕ) (out : Snapshots) (n : Numbers) (after : Consumer → Consumer) (out' : Snapshots) → Type 0
ExportedIn k before w out n after out' = (x : Consumer) → Askable k (before x) → ExportedOn k (before x) w out n (after x) out'

-- ## begin
-- a record with these parts
abbrev pub to_begin : (written cursorLen attemptLen : ℕ) → List ℕ → (Consumer → Consumer) → Consumer → Writing
to_begin w lc la bytes parts c = recording w lc la bytes (parts c)

-- a record that is sound in a phase, and whose arrays have their lengths
pub record Lendable (k : ℕ) (w : Writing) : Type 0 where
  pub sized : Sized w.consumer
  pub payload : length w.payload ≡ 3606
  pub sound : SoundAt k w

-- the parts of such a record
pub record Beginnable (k : ℕ) (parts : Consumer → Writing) : Type 0 where
  pub consumer : Consumer
  pub lendable : Lendable k (parts consumer)

-- call 16 of worker w on every machine that has these parts, whatever area and list are lent
abbrev pub BegunOn : ℕ → (Consumer → Writing) → ℕ → Numbers → ℕ → (Consumer → Writing) → Type 0
BegunOn k before w n k' after =
    (s : Configuration) (c : Consumer) → Lendable k (before c) → (area out : List ℕ)
    → CallIs (machine_of s k (before c)) w 16 0 0 0 0 area out n (machine_of s k' (after c)) area out

-- ## step
-- the parts of a record that is sound in a phase
pub record Steppable (k : ℕ) (p : Parts) : Type 0 where
  pub writing : Writing
  pub sound : SoundAt k (with_parts p writing)

-- call 17 on every machine that has these parts, whatever list is lent
abbrev pub SteppedOn : ℕ → Parts → List ℕ → Numbers → ℕ → Parts → List ℕ → Type 0
SteppedOn k before a n k' after a' =
    (s : Configuration) (w : Writing) → SoundAt k (with_parts before w) → (out : List ℕ)
    → CallIs (machine_of s k (with_parts before w)) 0 17 0 0 0 0 a out n (machine_of s k' (with_parts after w)) a' out
