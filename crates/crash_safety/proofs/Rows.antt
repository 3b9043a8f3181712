-- No call is answered 30: the refusals of every table are another's, on whatever state, record and area. Assumes nothing.
use Prim.Native.Nat.{ℕ, zero, suc, ◌+◌}
use mathlib.Core.Path.{◌≡◌, refl, sym}
use mathlib.Core.Bool.{Bool, true, false, cond, true≢false}
use mathlib.Core.List.{List, [], ◌∷◌, ◌++◌}
use mathlib.Core.Option.{Option, none, some}
use lib.Dec.{eqb, ltb, leb}
use lib.ListN.{length, take, drop}
use borrow.Author.Tests.{eqb-false}
use Rattle.types.specs.Refusal.{Refusal, Result, refused, done, OutTooShort, numbered}
use Rattle.types.specs.Table.{Row, ◌⇒◌, first, unless, checked, Answer, unless_kept, guarded}
use Rattle.types.specs.Keyed.{Entry}
use Rattle.types.proofs.Cases.{split}
use Rattle.cursor.specs.declared.Range.{Range}
use Rattle.cursor.specs.Cursor.{Cursor, ranges_table}
use Rattle.cursor.specs.Unsettled.{open_table}
use Rattle.cursor.specs.Plan.{plan_table, fall_rows, pair_rows}
use Rattle.cursor.specs.Snapshot as cursors
use Rattle.cursor.specs.Snapshot.{decode_cursor}
use Rattle.attempt.specs.Snapshot as attempts
use Rattle.attempt.specs.Snapshot.{order_after, decode_attempts}
use Rattle.journal.specs.Area.{block_at}
use Rattle.journal.specs.Blocks.{cursor_length, attempt_length, ceiling_of}
use Rattle.journal.specs.Walks.{Found, nothing, unsound, group, after, Stop, stop, group_at, walk_over, walk_from, payload}
use Rattle.consumer.specs.State.{Configuration, State, NextGroup}
use Rattle.consumer.specs.Rights.{committing, looking}
use Rattle.consumer.specs.Calls as consumer
use Rattle.consumer.specs.Calls.{call_rows, claim_table, ack_table, nack_table, progress_table}
use Rattle.consumer.specs.Export.{exported, export_table}
use Rattle.consumer.specs.Questions.{Question, Waiting, Committed, IsSettled, LeaseOf, CountOf, InFlight, IsDue, BlocksLeft, ViewOf, OpenBetween, NearestOpen, Plan, Export, waiting_at, reply}
use Rattle.checkpoint.specs.Checkpoint as checkpoint
use Rattle.checkpoint.specs.Checkpoint.{Writing, begin_table, step_table}
use Rattle.starts.specs.Restart as restarts
use Rattle.starts.specs.Restart.{start_table, from_snapshots, end_table, last_group, from_walk, walk_of}
use Rattle.machine.specs.Calls.{Ask, claim, ack, term, nack, progress, commit, look}
use Rattle.machine.specs.Transitions.{Phase, idle, writing, off, After, asked, began_as, stepped_as, restarted_as}
use Rattle.power_cut.specs.Cut.{Cut, old, new, torn, is_torn, cut_at, cut_on}
use Rattle.crash_safety.specs.Runs.{Item, World, keeps_journal, next}
use Rattle.crash_safety.specs.Workers.{refusal_in, refusal_of}
use Rattle.crash_safety.specs.Commits.{Not30, NeverHeld}
use Rattle.crash_safety.proofs.Items.{Shown, next_cases}

-- ## tables
-- no row is for 30: this computes where the refusals are named, whatever the tests are
abbrev pub without30 : List Row → Bool
without30 [] = true
without30 (w ∷ ws) = cond (eqb (numbered w.refusal).number 30) false (without30 ws)

pub first_not : (ws : List Row) → without30 ws ≡ true → Not30 (first ws)
first_not [] h = tt
first_not (w ∷ ws) h =
    split (eqb (numbered w.refusal).number 30)
    (λ e. absurd (true≢false (sym (rw e at h))))
    (λ e. split w.test (λ t. rw t (eqb-false (numbered w.refusal).number 30 e)) (λ t. rw t (first_not ws (rw e at h))))

both-without : (ws vs : List Row) → without30 ws ≡ true → without30 vs ≡ true → without30 (ws ++ vs) ≡ true
both-without [] vs h k = k
both-without (w ∷ ws) vs h k =
    split (eqb (numbered w.refusal).number 30)
    (λ e. absurd (true≢false (sym (rw e at h))))
    (λ e. rw e (both-without ws vs (rw e at h) k))

module _ {A : Type 0} where
  abbrev Other : Result A → Type 0
  Other a = Not30 (refusal_in a)

  checked_not : (ws : List Row) (a : Result A) → without30 ws ≡ true → Other a → Other (checked ws a)
  checked_not ws a h k = go (first ws) (first_not ws h)
    where
      go : (o : Option Refusal) → Not30 o → Other (unless o a)
      go none n = k
      go (some r) n = n

  guarded_not : {S : Type 0} (ws : List Row) (s : S) (a : Answer A S) → without30 ws ≡ true → Other a.outcome → Other (guarded ws s a).outcome
  guarded_not {S} ws s a h k = go (first ws) (first_not ws h)
    where
      go : (o : Option Refusal) → Not30 o → Other (unless_kept o s a).outcome
      go none n = k
      go (some r) n = n

-- the rows of a plan's pairs
falls-without : (before place : ℕ) (os : List ℕ) → without30 (fall_rows before place os) ≡ true
falls-without before place [] = refl
falls-without before place (o ∷ os) = falls-without o (place + 1) os

plan-without : (os : List ℕ) → without30 (pair_rows os) ≡ true
plan-without [] = refl
plan-without (o ∷ os) = falls-without o 1 os

-- ## calls on the state
-- what is seen of an item is not 30
abbrev Seen : Option After → Type 0
Seen none = Unit {0}
Seen (some t) = Not30 (refusal_of t.event)

module _ (s : State) (w : ℕ) where
  claim_not : (o now : ℕ) → Other (consumer.claim s w o now).outcome
  unfolding consumer.claim
  claim_not o now = guarded_not (claim_table s w o now) s _ refl tt

  ack_not : (o g : ℕ) → Other (consumer.ack s w o g).outcome
  unfolding consumer.ack
  ack_not o g = guarded_not (ack_table s w o g) s _ refl tt

  nack_not : (o g now : ℕ) (d : Option ℕ) → Other (consumer.nack s w o g now d).outcome
  unfolding consumer.nack
  nack_not o g now d = guarded_not (nack_table s w o g) s _ refl tt

  progress_not : (o g now : ℕ) → Other (consumer.progress s w o g now).outcome
  unfolding consumer.progress
  progress_not o g now = guarded_not (progress_table s w o g now) s _ refl tt

  commit_not : (bound : ℕ) → Other (consumer.commit s w bound).outcome
  unfolding consumer.commit
  commit_not bound =
      guarded_not (call_rows s w committing) s _ refl
      (split (leb bound s.cursor.committed) (λ e. rw e tt) (λ e. rw e tt))

  reply_not : (q : Question) → Other (reply s w q)
  reply_not (Waiting now room) = checked_not (ltb room (length (waiting_at s now)) ⇒ OutTooShort ∷ []) (done (waiting_at s now)) refl tt
  reply_not Committed = tt
  reply_not (IsSettled o) = tt
  reply_not (LeaseOf o) = tt
  reply_not (CountOf o) = tt
  reply_not InFlight = tt
  reply_not IsDue = tt
  reply_not BlocksLeft = tt
  reply_not (ViewOf o now) = tt
  reply_not (OpenBetween a b room) = checked_not (open_table s.cursor a b room) _ refl tt
  reply_not (NearestOpen o) = tt
  reply_not (Plan os room) = checked_not (plan_table os room) _ (plan-without os) tt
  reply_not (Export cursorRoom attemptRoom) = checked_not (export_table (exported s) cursorRoom attemptRoom) _ refl tt

  ask_not : (a : List ℕ) (q : Ask) → Seen (asked s a w q)
  ask_not a (claim o now) = claim_not o now
  ask_not a (ack o g) = ack_not o g
  ask_not a (term o g) = ack_not o g
  ask_not a (nack o g now d) = nack_not o g now d
  ask_not a (progress o g now) = progress_not o g now
  ask_not a (commit bound) = commit_not bound
  ask_not a (look q) = checked_not (call_rows s w looking) (reply s w q) refl (reply_not q)

  -- ## checkpoints
  begin_not : Other (checkpoint.begin s w)
  unfolding checkpoint.begin
  begin_not = checked_not (begin_table s w) _ refl tt

began_not : (s : State) (a : List ℕ) (r : Result Writing) → Other r → Seen (began_as s a r)
began_not s a (refused r) h = h
began_not s a (done x) h = tt

module _ (w : Writing) (a : List ℕ) where
  step_not : Seen (stepped_as (checkpoint.step w a))
  unfolding checkpoint.step
  step_not = guarded_not (step_table w a) _ _ refl tt

  cut-at_not : (x : Cut) → Seen (cut_at w a x)
  cut-at_not old = tt
  cut-at_not new = tt
  cut-at_not (torn b) = split (is_torn b) (λ e. rw e tt) (λ e. rw e tt)

  cut_not : (x : Cut) → Seen (cut_on w a x)
  cut_not x = split (eqb (length a) w.state.size) (λ e. rw e (cut-at_not x)) (λ e. rw e tt)

elsewhere_not : (a : List ℕ) (x : Option After) → Seen x → Seen (keeps_journal a x)
elsewhere_not a none h = tt
elsewhere_not a (some t) h = h

-- ## start and restart
ranges-without : (prev-end : ℕ) (rs : List Range) → without30 (ranges_table prev-end rs) ≡ true
ranges-without prev-end [] = refl
ranges-without prev-end (r ∷ rs) = ranges-without r.end rs

order-without : (prev : ℕ) (l : List (Entry ℕ)) → without30 (order_after prev l) ≡ true
order-without prev [] = refl
order-without prev (p ∷ l) = order-without p.key l

cursor_not : (b : List ℕ) → Other (decode_cursor b)
unfolding decode_cursor
cursor_not b =
    checked_not (cursors.decode_table b) _
    (both-without (ranges_table (cursors.cursor_in b).committed (cursors.cursor_in b).ahead) _
    (ranges-without (cursors.cursor_in b).committed (cursors.cursor_in b).ahead) refl) tt

pairs-without : (l : List (Entry ℕ)) → without30 (attempts.pairs_table l) ≡ true
pairs-without [] = refl
pairs-without (p ∷ l) = both-without (order_after p.key l) _ (order-without p.key l) refl

attempts_not : (b : List ℕ) → Other (decode_attempts b)
unfolding decode_attempts
attempts_not b = checked_not (attempts.decode_table b) _ (pairs-without (attempts.pairs_in b)) tt

found_not : (f : Found) (here : Result Stop) (on : ℕ → Result Stop) → Other here → ((e : ℕ) → Other (on e)) → Other (after f here on)
found_not nothing here on h k = h
found_not (unsound j) here on h k = eqb-false 5 30 refl
found_not (group e) here on h k = k e

module _ (a : List ℕ) where
  walked_not : (m hi : ℕ) (last : Option ℕ) (k i : ℕ) → Other (walk_over m a hi last k i)
  unfolding walk_over
  walked_not zero hi last k i = tt
  walked_not (suc m) hi last k i = found_not (group_at a hi k i) (stop last k i) _ tt (λ e. walked_not m hi (some i) (suc k) e)

  walk_not : Other (walk_of a)
  unfolding walk_from
  walk_not = walked_not _ _ none _ _

  module _ (c : Configuration) where
    snapshots_not : (size ceiling : ℕ) (n : NextGroup) (x : Result Cursor) (y : Result (List (Entry ℕ))) → Other x → Other y
        → Other (from_snapshots c size x y ceiling n)
    snapshots_not size ceiling n (refused r) y h k = h
    snapshots_not size ceiling n (done x) (refused r) h k = k
    snapshots_not size ceiling n (done x) (done y) h k = tt

    last_not : (last : Option ℕ) (n : NextGroup) → Other (last_group c a last n)
    last_not none n = tt
    last_not (some i) n =
        let first : List ℕ = take (cursor_length (block_at a i)) (payload a i) in
        let second : List ℕ = take (attempt_length (block_at a i)) (drop (cursor_length (block_at a i)) (payload a i)) in
        snapshots_not (length a) (ceiling_of (block_at a i)) n (decode_cursor first) (decode_attempts second) (cursor_not first) (attempts_not second)

    from_not : (x : Result Stop) → Other x → Other (from_walk c a x)
    unfolding from_walk
    from_not (refused r) h = h
    from_not (done end) h = checked_not (end_table a end) _ refl (last_not end.last _)

    restart_not : Other (restarts.restart c a)
    unfolding restarts.restart
    restart_not = checked_not (start_table c (length a)) _ refl (from_not (walk_of a) walk_not)

  restarted_not : (p : Phase) (r : Result State) → Other r → Seen (restarted_as p a r)
  restarted_not p (refused r) h = h
  restarted_not p (done s) h = tt

start_not : (c : Configuration) (size : ℕ) → Other (restarts.start c size)
unfolding restarts.start
start_not c size = checked_not (start_table c size) _ refl tt

-- ## every item
shown : (p : Phase) (a : List ℕ) → Shown (λ i. Seen) a p
shown (idle s) a = (λ w q e. ask_not s w a q, λ w. began_not s a (checkpoint.begin s w) (begin_not s w))
shown (writing w) a = (step_not w a, λ b e. elsewhere_not a (stepped_as (checkpoint.step w b)) (step_not w b), cut_not w a)
shown off a = tt

seen : (c : Configuration) (w : World) (i : Item) → Seen (next c w i)
seen c w i =
    next_cases c (λ j. Seen) (λ j e. tt) w.phase w.journal
    (restarted_not w.journal w.phase (restarts.restart c w.journal) (restart_not w.journal c))
    (shown w.phase w.journal) i

pub never-held : NeverHeld
unfolding NeverHeld
never-held c = record { starts = start_not c; calls = λ w i t e. rw e at (seen c w i) }
