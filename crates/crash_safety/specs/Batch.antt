-- The bound over the whole batch, as one statement about every list of demand 3: the Deliver answers with a count of
-- 2 or more, over all offsets together, are at most (M − 1) × D + C × N.
-- SPEC.md, "Bounds".
use Rattle.std.specs.Prelude.{ℕ, ◌+◌, ◌*◌, ◌-◌, ◌≤◌, ◌≡◌, Bool, cond, ◌&&◌, List, [], ◌∷◌, ◌++◌, leb, eqb, length}
use Rattle.std.proofs.Math.Option.{Option, none, some}
use Rattle.types.specs.Refusal.{done}
use Rattle.types.specs.Lists.{times}
use Rattle.consumer.specs.State.{Configuration, State}
use Rattle.consumer.specs.Calls.{HandOut}
use Rattle.consumer.specs.Valid.{Fits}
use Rattle.starts.specs.Restart.{start}
use Rattle.machine.specs.Calls.{Event}
use Rattle.crash_safety.specs.Runs.{Item, run, fresh_world}
use Rattle.crash_safety.specs.Effects.{effect_of}
use Rattle.crash_safety.specs.Demand3.{handed, for_delivery, hand_outs, restarts_in, limit_of, threshold_of, Limited}

-- a Deliver answer with a count of 2 or more, of whichever offset
abbrev pub is_repeated : HandOut → Bool
is_repeated h = for_delivery h.destination && leb 2 h.deliveries

-- ## D, the different offsets ever handed out
-- the offset of each hand-out among the events, for delivery or as a dead letter
abbrev pub offset_of : Option HandOut → List ℕ
offset_of none = []
offset_of (some h) = h.offset ∷ []

unfoldable pub offsets_handed_out : List Event → List ℕ
offsets_handed_out [] = []
offsets_handed_out (e ∷ es) = offset_of (handed (effect_of e)) ++ offsets_handed_out es

-- a list with each of its numbers just once, where it stands last
unfoldable pub different : List ℕ → List ℕ
different [] = []
different (o ∷ os) = cond (eqb (times o os) 0) (o ∷ different os) (different os)

unfoldable pub different_offsets : List Event → ℕ
different_offsets es = length (different (offsets_handed_out es))

-- ## the bound
abbrev pub WithinBatch : (M N C : ℕ) → List Event → Type 0
WithinBatch M N C es = hand_outs is_repeated es ≤ (M - 1) * different_offsets es + C * N

-- the bound on repeated deliveries over the whole batch. Of every list, from every fresh consumer on a zeroed journal,
-- where a limit is set
unfoldable pub BatchBound : Type 0
BatchBound =
    (c : Configuration) (size : ℕ) (s : State) (items : List Item) → Limited c → Fits c.settings → start c size ≡ done s
    → WithinBatch (limit_of c) (threshold_of c) (restarts_in items) (run c (fresh_world s size) items)
