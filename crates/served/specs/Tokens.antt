-- Tokens of a server, both ways and in numbers: a token that was given up is answered 24 by every call that takes one, as that of the worker
-- who had slept through a restart; and one that is still held is accepted from the worker who claimed it.
-- SPEC.md, "Tokens".
use Rattle.std.specs.Prelude.{ℕ, ◌<◌, ◌≡◌, Bool, true, false, cond, List, [], ◌∷◌, leb, replicate}
use Rattle.std.proofs.Math.Option.{some}
use Rattle.types.specs.Limits.{WORKERS}
use Rattle.types.specs.Lists.{times}
use Rattle.consumer.specs.State.{State}
use Rattle.consumer.specs.State as state
use Rattle.consumer.specs.Rights.{Operation, bit_of, permits}
use Rattle.consumer.specs.declared.Configuration.{Configuration}
use Rattle.starts.specs.Starting.{configuration_of}
use Rattle.machine.specs.Calls.{Ask, claim, ask}
use Rattle.machine.specs.Transitions.{idle}
use Rattle.machine.specs.View.{phase_of}
use Rattle.machine.specs.declared.Machine.{Machine}
use Rattle.answers.specs.declared.Numbers.{Numbers}
use Rattle.crash_safety.specs.Runs.{Item, call}
use Rattle.crash_safety.specs.Workers.{operation_of, May, token_in}
use Rattle.crash_safety.specs.Tokens.{beyond_token}
use Rattle.served.specs.Told.{told_of, given_up_told}
use Rattle.served.specs.Served.{Served, Begins}

-- 38 for a worker who isn't one of the eight, 39 for one who has no right to the call, and else this
abbrev pub unless_barred : state.Configuration → ℕ → Operation → ℕ → ℕ
unless_barred c w op n = cond (leb WORKERS w) 38 (cond (permits c.settings.rights w (bit_of op)) n 39)

-- what a call of worker w is answered with a token of worker v, which was given up or is still held
pub record TokenAnswered (c : state.Configuration) (v w : ℕ) (q : Ask) (up : Bool) (n : Numbers) : Type 0 where
  pub stale : up ≡ true → n.0 ≡ unless_barred c w (operation_of q) 24
  pub others : up ≡ false → (w ≡ v → ⊥) → n.0 ≡ unless_barred c w (operation_of q) 40
  -- its own worker, who may: for an Ack 0 or 29
  pub own : up ≡ false → w ≡ v → May c w (operation_of q) → 0 < times n.0 (beyond_token q)

-- `token-both_ways` of every server, in numbers. A server that does whatever it does; a claim of worker v, answered 0;
-- whatever comes then; and a call, which can be made, with the claim's offset and the generation that it was answered
unfoldable pub TokensServed : Type 0
TokensServed =
    (s : Configuration) (size : ℕ) (m : Machine) → Begins s size m
    → (before since : List Item) (bs ns : List Numbers) (m₁ m₂ m₃ m₄ : Machine) (a₁ a₂ a₃ a₄ : List ℕ) → Served m (replicate size 0) before bs m₁ a₁
    → (v o now : ℕ) (n : Numbers) → Served m₁ a₁ (call (ask v (claim o now)) ∷ []) (n ∷ []) m₂ a₂ → n.0 ≡ 0
    → Served m₂ a₂ since ns m₃ a₃
    → (here : State) → phase_of m₃ ≡ idle here
    → (w : ℕ) (q : Ask) (p : Numbers) → token_in q ≡ some (o, n.2) → Served m₃ a₃ (call (ask w q) ∷ []) (p ∷ []) m₄ a₄
    → TokenAnswered (configuration_of s) v w q (given_up_told o (told_of since ns)) p
