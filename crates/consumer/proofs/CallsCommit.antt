-- What a commit owes its contract: 38, 39, Unchanged, and after these what the cursor and the table do.
-- Assumes nothing.
use Prim.Native.Nat.{ℕ, ◌≤◌, ◌<◌}
use mathlib.Core.Path.{◌≡◌, refl, sym, ap, ◌∙◌}
use mathlib.Core.Bool.{Bool, true, false, true≢false}
use mathlib.Core.Option.{none, some}
use lib.Dec.{ltb}
use borrow.Author.Tests.{le-leb, lt-leb, ltb-true, ltb-false}
use Rattle.std.specs.Prelude.{Ok, Err}
use Rattle.std.specs.Result.{result_unwrap_or}
use Rattle.std.specs.Prelude as std
use Rattle.types.specs.Refused.{as_is}
use Rattle.types.specs.declared.refusals.Refusal as code_refusal
use Rattle.types.specs.Limits.{MAX}
use Rattle.types.specs.Refusal.{Refusal, Result, refused, done}
use Rattle.types.specs.Table.{first, Answer, answer, guarded}
use Rattle.types.proofs.Cases.{split}
use Rattle.types.proofs.Table.{guarded-passed, guarded-refused, first_none}
use Rattle.cursor.specs.Cursor.{Cursor, commit_up_to}
use Rattle.cursor.specs.Answers as cursor
use Rattle.cursor.specs.declared.AckCursor.{AckCursor}
use Rattle.lease.specs.declared.LeaseTable.{LeaseTable}
use Rattle.lease.specs.State as state
use Rattle.lease.specs.Rest.{release_below}
use Rattle.lease.specs.Answers as answers
use Rattle.consumer.specs.State.{State, with_both}
use Rattle.consumer.specs.Rights.{committing}
use Rattle.consumer.specs.Calls.{call_rows, with_committed, commit}
use Rattle.consumer.specs.Parts.{decided}
use Rattle.consumer.specs.View.{view, Sound, Unmoved, Commits, holding_both}
use Rattle.consumer.specs.declared.Consumer.{Consumer}
use Rattle.consumer.proofs.Valid.{committed-valid}
use Rattle.consumer.proofs.CallsReturns.{sound-with}

-- ## the tests, each after those before it that failed
module _ (s : State) (w bound : ℕ) where
  pub is_unpermitted : (r : Refusal) → some r ≡ first (call_rows s w committing) → answer (refused r) s ≡ commit s w bound
  unfolding commit
  is_unpermitted r e = sym (guarded-refused (call_rows s w committing) s _ r (sym e))

  module _ (e : none ≡ first (call_rows s w committing)) where
    -- the rows in front are passed
    in_front_lem : (a : Answer Bool State) → guarded (call_rows s w committing) s a ≡ a
    in_front_lem a = guarded-passed (call_rows s w committing) s a (first_none (call_rows s w committing) (sym e))

    pub is_unchanged : bound ≤ s.cursor.committed → answer (done false) s ≡ commit s w bound
    unfolding commit
    is_unchanged h = rw (in_front_lem _, le-leb bound s.cursor.committed h)

    pub is_open : s.cursor.committed < bound → answer (done true) (with_committed s bound) ≡ commit s w bound
    unfolding commit
    is_open h = rw (in_front_lem _, lt-leb bound s.cursor.committed h)

    -- the test of a worker who may commit
    pub is_tested : decided (Ok (ltb s.cursor.committed bound)) s bound ≡ commit s w bound
    is_tested =
        split (ltb s.cursor.committed bound)
        (λ e. rw e (is_open (ltb-true s.cursor.committed bound e)))
        (λ e. rw e (is_unchanged (ltb-false s.cursor.committed bound e)))

  -- what the test answers, by whether it is met
  module _ (right : Answer Bool State) where
    pub is_answered : (r : std.Result Bool code_refusal.Refusal) → result_unwrap_or r false ≡ false → decided r s bound ≡ right → answer (as_is r) s ≡ right
    is_answered (Ok false) h e = e
    is_answered (Ok true) h e = absurd (true≢false h)
    is_answered (Err r) h e = e

    pub takes_effect : (r : std.Result Bool code_refusal.Refusal) → result_unwrap_or r false ≡ true → decided r s bound ≡ right → answer (done true) (with_committed s bound) ≡ right
    takes_effect (Ok true) h e = e
    takes_effect (Ok false) h e = absurd (true≢false (sym h))
    takes_effect (Err r) h e = absurd (true≢false (sym h))

-- ## the answer
-- whatever is answered, the very struct may be given back
unmoved : (x : Result Bool) (c : Consumer) → Unmoved x c c
unmoved (refused r) c = refl
unmoved (done true) c = tt
unmoved (done false) c = refl

module _ (c : Consumer) (ok : Sound c) (right : Answer Bool State) where
  pub commit-answered : (outcome : Result Bool) → answer outcome (view c) ≡ right → Commits outcome c c right
  commit-answered outcome e = record { is = e; sound = ok; kept = unmoved outcome c }

  module _ (bound : ℕ) (effect : answer (done true) (with_committed (view c) bound) ≡ right) (fits : bound ≤ MAX) (moved : Result Bool) (k : AckCursor)
      (u : cursor.Updated c.cursor moved k (commit_up_to (view c).cursor bound)) (t : LeaseTable)
      (e : answers.Becomes t (release_below (view c).table bound)) where
    shows : view (holding_both c k t) ≡ with_committed (view c) bound
    shows =
        ap (λ (a : Answer Bool Cursor). with_both (view c) a.state (state.view t)) u.is
        ∙ ap (with_both (view c) (commit_up_to (view c).cursor bound).state) e.is

    pub commit-done : Commits (done true) c (holding_both c k t) right
    commit-done =
        record {
          is = ap (answer (done true)) shows ∙ effect;
          sound = sound-with c ok u.sound e.sound shows (committed-valid (view c) bound ok.valid fits);
          kept = tt;
        }
