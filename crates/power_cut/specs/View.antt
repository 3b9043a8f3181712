-- What the code's power failure stands for, and the parts of its contract.
-- SPEC.md, "Lists".
use Rattle.std.specs.Prelude.{◌≡◌, Bool, List, ℕ, length, Some, None}
use Rattle.std.specs.Prelude as std
use Rattle.std.proofs.Math.Option.{Option, none}
use Rattle.checkpoint.specs.Writing.{SoundWriting}
use Rattle.machine.specs.Calls.{failed}
use Rattle.machine.specs.Transitions.{After, gives}
use Rattle.machine.specs.View.{phase_of, Sound, held}
use Rattle.machine.specs.declared.Machine.{Machine}
use Rattle.power_cut.specs.Cut.{Cut, old, new, torn, power_cut}
use Rattle.power_cut.specs.declared.Kind.{Kind}
use Rattle.power_cut.specs.declared.Kind.TheVariants as kinds
use Rattle.power_cut.specs.declared.Failed.{Failed}

-- the bytes are those of a torn block, and nothing else looks at them
abbrev pub cut_of : Kind → List ℕ → Cut
cut_of kinds.Old bytes = old
cut_of kinds.New bytes = new
cut_of kinds.Torn bytes = torn bytes

abbrev pub after_of : std.Option Bool → Machine → List ℕ → Option After
after_of (Some header) m a = gives (failed header) (phase_of m) a
after_of None m a = none

-- what can't be cut gives back the very thing that was handed in
abbrev pub CutKept : {T : Type 0} → std.Option Bool → T → T → Type 0
CutKept (Some header) before after = Unit {0}
CutKept None before after = after ≡ before

pub record CutIs (m : Machine) (k : Cut) (a : List ℕ) (r : Failed) (a' : List ℕ) : Type 0 where
  pub is : after_of r.answer r.machine a' ≡ power_cut (phase_of m) a k
  pub sound : Sound r.machine
  pub configuration : r.machine.configuration ≡ m.configuration
  pub kept : CutKept r.answer (held m a) (held r.machine a')

-- ## parts
-- a machine whose record is being stepped on its own area
pub record Stepping (m : Machine) (a : List ℕ) : Type 0 where
  pub phase : m.phase ≡ 1
  pub sound : SoundWriting m.writing
  pub area : length a ≡ m.writing.consumer.area_len

-- the same machine, switched off
pub record OffIs (before after : Machine) : Type 0 where
  pub phase : after.phase ≡ 2
  pub configuration : after.configuration ≡ before.configuration
