-- Of all steps of a checkpoint the last two say that a sync is due, and no other. Assumes nothing.
use Prim.Native.Nat.{ℕ, zero, suc, ◌+◌, ◌-◌, ◌≤◌, ◌<◌}
use native.Mathlib.Omega.{arith}
use mathlib.Core.Path.{◌≡◌, refl, ap, ◌∙◌}
use mathlib.Core.Bool.{true, false}
use mathlib.Core.List.{List, [], ◌∷◌, ◌++◌}
use lib.ListN.{length, replicate}
use borrow.Author.Tests.{eq-eqb, le-leb, lt-leb}
use Rattle.types.specs.Limits.{MAX32}
use Rattle.journal.specs.Area.{write_at}
use Rattle.journal.proofs.Area.{write-length}
use Rattle.consumer.specs.State.{State}
use Rattle.consumer.specs.Valid.{Valid}
use Rattle.checkpoint.specs.Checkpoint.{bodies, zeros, writes, flushed, writing, sync_due, next_place, next_block, going, finished, left_by, step}
use Rattle.checkpoint.specs.Syncs.{syncs_due, TwoSyncsDue}
use Rattle.checkpoint.proofs.Open.{begin-says}
use Rattle.checkpoint.proofs.Payload.{payload-fits}
use Rattle.checkpoint.proofs.Places.{next_fits, next-whole}

-- the last one leaves no record
none_left : (n : ℕ) (s : State) (a : List ℕ) → syncs_due n (finished s) a ≡ []
unfolding syncs_due
none_left zero s a = refl
none_left (suc n) s a = refl

module _ (s : State) (v : Valid s) (numbered : s.next.number ≤ MAX32) where
  -- the blocks before the header
  abbrev before : ℕ
  before = zeros s + bodies s

  abbrev longer : ℕ → List ℕ → List ℕ
  longer k a = write_at a (next_place (writing s k)) (next_block (writing s k))

  module _ (k n : ℕ) (a : List ℕ) (few : k ≤ before) (same : length a ≡ s.size) where
    same_length : length (longer k a) ≡ s.size
    same_length =
        let fits = next_fits (writing s k) (record { state = v; numbered = numbered; few = few }) in
        write-length a (next_place (writing s k)) (next_block (writing s k)) (rw same fits) (next-whole (writing s k)) ∙ same

    one-step : syncs_due (suc n) (going (writing s k)) a ≡ sync_due (writing s k) ∷ syncs_due n (left_by (writing s k)) (longer k a)
    unfolding syncs_due step
    one-step = rw (eq-eqb (length a) s.size same)

  -- the header's step
  header-due : (k n : ℕ) (a : List ℕ) → k ≡ before → length a ≡ s.size → 0 < n → syncs_due n (going (writing s k)) a ≡ true ∷ []
  header-due k zero a e same h = absurd (omega arith)
  header-due k (suc n) a e same h =
      let due : sync_due (writing s k) ≡ true = le-leb before (suc k) (omega arith) in
      let left : left_by (writing s k) ≡ finished (flushed s) = rw (le-leb before k (omega arith)) in
      one-step k n a (omega arith) same ∙ rw (left, due, none_left)

  -- m + 1 blocks are left before it
  rest-due : (m k n : ℕ) (a : List ℕ) → k + suc m ≡ before → length a ≡ s.size → suc m < n
      → syncs_due n (going (writing s k)) a ≡ replicate m false ++ (true ∷ true ∷ [])
  rest-due m k zero a e same h = absurd (omega arith)
  rest-due zero k (suc n) a e same h =
      let few : k ≤ before = omega arith in
      let due : sync_due (writing s k) ≡ true = le-leb before (suc k) (omega arith) in
      let left : left_by (writing s k) ≡ going (writing s (suc k)) = rw (lt-leb before k (omega arith)) in
      one-step k n a few same
      ∙ rw (left, due) (ap (λ l. true ∷ l) (header-due (suc k) n (longer k a) (omega arith) (same_length k n a few same) (omega arith)))
  rest-due (suc m) k (suc n) a e same h =
      let few : k ≤ before = omega arith in
      let due : sync_due (writing s k) ≡ false = lt-leb before (suc k) (omega arith) in
      let left : left_by (writing s k) ≡ going (writing s (suc k)) = rw (lt-leb before k (omega arith)) in
      one-step k n a few same
      ∙ rw (left, due) (ap (λ l. false ∷ l) (rest-due m (suc k) n (longer k a) (omega arith) (same_length k n a few same) (omega arith)))

pub two-syncs-due : TwoSyncsDue
unfolding TwoSyncsDue
two-syncs-due s worker r a n v e same h =
    let d = begin-says s worker r e in
    let some-body = (payload-fits s v).some-body in
    rw (← d.1) (rest-due s v d.0.numbered (writes s - 2) 0 n a (omega arith) same (omega arith))
