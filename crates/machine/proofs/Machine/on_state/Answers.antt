-- `Machine::on_state` meets its contract: on the state alone, and what the call on it answers. Assumes nothing.
use mathlib.Core.Path.{◌≡◌}
use native.Mathlib.Omega.{arith}
use mathlib.Core.Bool.{true}
use lib.ListN.{length}
use borrow.Author.Rules.{rules}
use Rattle.machine.specs.Calls.{u64, fits}
use Rattle.machine.specs.Answers.{ask_of}
use Rattle.machine.proofs.Fits.{number_fits, ask-fits}
use Rattle.machine.proofs.Transitions.{not_asked, sound-idle, asked-called}
use Rattle.machine.proofs.Machine.on_state.Goals as goal
use Rattle.machine.proofs.Machine.on_state.Goals.{Else-self-ne0, Start, Then-self-ne0}

elsewhere : (c : Then-self-ne0) → c.args.self.phase ≡ 0 → ⊥
elsewhere c e = omega arith

here : (c : Else-self-ne0) → c.args.self.phase ≡ 0
here c = omega arith

-- what the types of the call say
worker-fits : (c : Start) → u64 c.args.worker ≡ true
worker-fits c = number_fits c.args.worker c.well_formed.1.0.1

fit : (c : Start) → fits (ask_of (length c.args.out.now) c.args.request) ≡ true
fit c = ask-fits (length c.args.out.now) c.args.request _ c.well_formed.1.1.0

pub returns-then-self-ne0 : goal.returns-then-self-ne0
returns-then-self-ne0 c =
    λ a. not_asked c.args.self c.requires a c.args.out.now _ _ (worker-fits (goal.at.returns-then-self-ne0 c).Start) (fit (goal.at.returns-then-self-ne0 c).Start) (elsewhere c)

pub ask-asked-requires : goal.ask-asked-requires
ask-asked-requires c =
    sound-idle c.args.self c.requires (here (goal.at.ask-asked-requires c).Else-self-ne0)

pub returns : goal.returns
returns c =
    λ a.
    asked-called c.args.self (here (goal.at.returns c).Else-self-ne0) a c.args.out.now _ _ (worker-fits (goal.at.returns c).Start) (fit (goal.at.returns c).Start) c.ask-asked.result c.ask-asked.new.out c.ask-asked.ensures
