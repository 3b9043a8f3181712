-- What a seen event does, in the six cases that demand 3's book and its kin tell apart. It is a function of a call's arguments
-- and answer, and of whether a power failure left a header block new; which call it was doesn't matter further.
-- SPEC.md, "Book".
use Rattle.std.specs.Prelude.{ℕ, Bool, cond, ltb, eqb}
use Rattle.types.specs.Refusal.{Result, refused, done}
use Rattle.consumer.specs.State.{State}
use Rattle.consumer.specs.Calls.{HandOut}
use Rattle.machine.specs.Calls.{Event, claimed, acked, termed, nacked, progressed, committed, looked, begun, stepped, restarted, failed}

pub data Effect : Type 0 where
  -- the claimed offset is handed out, for delivery or as a dead letter
  handing : ℕ → HandOut → Effect
  -- the offsets that a test names are settled
  settling : (ℕ → Bool) → Effect
  -- the offset is nacked, and so is not held under its token any more
  requeuing : ℕ → Effect
  -- a checkpoint's header block is wholly written
  renewing : Effect
  -- a restart, refused or not, with its answer
  restarting : Result State → Effect
  nothing : Effect

-- which offsets are settled: one alone, or all below a bound
abbrev pub only : ℕ → ℕ → Bool
only o x = eqb x o

abbrev pub below : ℕ → ℕ → Bool
below bound x = ltb x bound

-- a refusal does nothing
abbrev pub unless_refused : {A : Type 0} → Result A → (A → Effect) → Effect
unless_refused (refused r) f = nothing
unless_refused (done a) f = f a

-- a block write: whether it left a header block wholly written
abbrev pub writes : Bool → Effect
writes header = cond header renewing nothing

-- an Ack or a Term settles the token's offset, a Commit all below its bound; a header counts by whichever write left it
abbrev pub effect_of : Event → Effect
effect_of (claimed o now a) = unless_refused a (handing o)
effect_of (acked o g a) = unless_refused a (λ u. settling (only o))
effect_of (termed o g a) = unless_refused a (λ u. settling (only o))
effect_of (nacked o g now d a) = unless_refused a (λ deadline. requeuing o)
effect_of (progressed o g now a) = nothing
effect_of (committed bound a) = unless_refused a (λ moved. settling (below bound))
effect_of (looked q a) = nothing
effect_of (begun a) = nothing
effect_of (stepped a) = unless_refused a (λ w. writes w.last)
effect_of (restarted a) = restarting a
effect_of (failed new) = writes new
