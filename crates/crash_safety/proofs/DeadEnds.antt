-- No dead end but one: someone can always be called, a commit settles any offset, and jobs do outside a dead end; in a dead end nothing is
-- settled, and a restart after a checkpoint leads out of it unless the counts are jammed. Assumes nothing.
use Prim.Native.Nat.{ℕ, suc, ◌+◌, ◌≤◌, ◌<◌, max}
use native.Mathlib.Omega.{arith}
use native.Mathlib.Decide.{dec_lt, ℕ_discrete}
use mathlib.Core.Path.{◌≡◌, refl, sym, ap, ◌∙◌}
use mathlib.Core.Bool.{Bool, true, false, cond, ◌&&◌, ◌||◌}
use mathlib.Core.List.{List, [], ◌∷◌, ◌++◌}
use mathlib.Core.Option.{Option, none, some, none-ne-some, get_or}
use lib.Dec.{eqb, leb}
use lib.ListN.{length}
use borrow.Author.Tests.{eq-eqb, ne_eqb, eqb-false, le-leb, lt-ltb, le-ltb, leb-true}
use Rattle.types.specs.Limits.{MAX, MAX32, CARRIED, RANGES}
use Rattle.types.specs.Refusal.{Result, refused, done}
use Rattle.types.specs.Table.{Answer, answer, Passed}
use Rattle.types.specs.Keyed.{Entry, Rising, lookup}
use Rattle.types.proofs.Cases.{split}
use Rattle.types.proofs.Table.{guarded-passed}
use Rattle.types.proofs.Keyed.{lookup-under, lookup-put-other, lookup-map_values, length-put-new, length-map_values, rising-map_values}
use Rattle.cursor.specs.Cursor.{Cursor, settled, fragments}
use Rattle.cursor.proofs.Cursor as cursors
use Rattle.hours.specs.Hours.{WEEK}
use Rattle.lease.specs.declared.Lease.{Lease}
use Rattle.lease.specs.Operations.{lease_of, running, extended, with_deadline, requeued_as}
use Rattle.lease.specs.Rest.{deliveries_of}
use Rattle.lease.specs.Counts.{raise, raise_all, attempt_counts, all_attempt_counts}
use Rattle.lease.proofs.Counts.{larger, all-counts-lookup}
use Rattle.journal.proofs.Sound.{differ}
use Rattle.consumer.specs.State.{Configuration, State}
use Rattle.consumer.specs.Valid.{Fits, Valid}
use Rattle.consumer.specs.Rights.{committing, checkpointing}
use Rattle.consumer.specs.Calls as consumer
use Rattle.consumer.specs.Calls.{HandOut, call_rows, claimed, is_shed, nack_deadline, with_committed}
use Rattle.consumer.proofs.Open.{claim_cases, AckOpen, ack_cases, nack_cases, progress_cases}
use Rattle.consumer.proofs.Valid.{acked-leased, committed-settled}
use Rattle.consumer.proofs.Counts.{counts-rising}
use Rattle.checkpoint.specs.Checkpoint as checkpoints
use Rattle.checkpoint.specs.Checkpoint.{flushed, Writing, is_last, going}
use Rattle.checkpoint.proofs.Open.{begin-says}
use Rattle.starts.specs.Restart.{start_table, start}
use Rattle.machine.specs.Calls.{Ask, claim, ack, term, nack, progress, commit, look, ask, restart, u64}
use Rattle.machine.specs.Calls as calls
use Rattle.machine.specs.Transitions.{Phase, idle, writing, off, After, left_as, asked, began_as, stepped_as, transition}
use Rattle.power_cut.specs.Cut.{Cut, old, new, torn, is_torn, cut_at, cut_on}
use Rattle.crash_safety.specs.Runs.{Item, call, World, world, next, keeps_journal, ends, fresh_world}
use Rattle.crash_safety.specs.Demand3.{restart_in, restarts_in}
use Rattle.crash_safety.specs.Settled.{state_in}
use Rattle.crash_safety.specs.Hours.{OpensWithin, InOpeningHours}
use Rattle.crash_safety.specs.Workers.{May}
use Rattle.crash_safety.specs.Useful.{checkpoint}
use Rattle.crash_safety.specs.DeadEnds.{NoneRefused, first, LeadsTo, AlwaysCallable, Free, none_settled, is_jammed, is_dead, SettlesBy, CanSettle, MayWork, Quiet, QuietSoon, job, jobs, Enough, Onward, NoDeadEnd, commit_in, commits_in, DeadEnd, Freed, RestartFrees}
use Rattle.crash_safety.proofs.Law.{Ledger, noted, Law}
use Rattle.crash_safety.proofs.Runs.{Made, Answered, run-made, ends-made, run_none, ends_none, ends-behind}
use Rattle.crash_safety.proofs.Items.{Shown, next_cases}
use Rattle.crash_safety.proofs.Invariant.{Saved, restored, Journal, is-ready, Inv}
use Rattle.crash_safety.proofs.Journals.{stored, restart-finds}
use Rattle.crash_safety.proofs.Steps.{same_length}
use Rattle.crash_safety.proofs.Kept.{item-kept}
use Rattle.crash_safety.proofs.Reached.{Reached, reached}
use Rattle.crash_safety.proofs.Checkpoints.{Finished, checkpoint-made}
use Rattle.crash_safety.proofs.Halves.{finish}
use Rattle.crash_safety.proofs.Hours.{in_opening-hours}
use Rattle.crash_safety.proofs.Room.{Room, says-room, leased-room, has_room, Some, none_at, some_at, one-is-free, none_is-free, room-before, room-updated}
use Rattle.crash_safety.proofs.Jobs.{accepted-answered, answered-all, worker-fits, job_left, job-done, already, climb-from}

-- ## somebody can be called
-- a restart of what the journal holds
module _ (c : Configuration) (n : ℕ) (p : Phase) (a : List ℕ) (v : Saved) (accepted : Passed (start_table c n)) (j : Journal c n a v) where
  pub restart-made : next c (world p a) (call restart) ≡ some (record { event = calls.restarted (done (restored c n v)); phase = idle (restored c n v); area = a })
  unfolding next transition
  restart-made = rw (restart-finds c n a v accepted j)

  restart-leads : LeadsTo c (world p a) (call restart ∷ [])
  unfolding NoneRefused
  restart-leads =
      record {
        answered = rw (run-made c (world p a) (call restart) [] _ restart-made, run_none c _) (refl, tt);
        left = restored c n v;
        leaves = ap (λ (w : World). w.phase) (ends-made c (world p a) (call restart) [] _ restart-made ∙ ends_none c _);
      }

callable-at : (c : Configuration) (n : ℕ) (l : Ledger) (p : Phase) (a : List ℕ) → Passed (start_table c n) → Inv c n l (world p a)
    → LeadsTo c (world p a) (first p)
unfolding NoneRefused
callable-at c n l (idle s) a accepted inv =
    record { answered = rw (run_none c (world (idle s) a)) tt; left = s; leaves = rw (ends_none c (world (idle s) a)) refl }
callable-at c n l (writing w) a accepted inv =
    let d = finish c n l w a inv in
    record { answered = accepted-answered _ d.wrote; left = flushed w.state; leaves = d.leaves }
callable-at c n l off a accepted inv = restart-leads c n off a inv.saved accepted inv.journal

pub always_callable : AlwaysCallable
unfolding AlwaysCallable
always_callable c n s items f e =
    let r = reached c n s items f e in
    let w = ends c (fresh_world s n) items in
    callable-at c n r.ledger w.phase w.journal r.accepted r.inv

-- ## a commit
module _ (c : Configuration) (n : ℕ) (l : Ledger) (s : State) (a : List ℕ) (inv : Inv c n l (world (idle s) a)) (v o : ℕ) (may : May c v committing)
    (below : o < MAX) where
  abbrev here : World
  here = world (idle s) a

  abbrev it : Item
  it = call (ask v (commit (suc o)))

  bound-fits : u64 (suc o) ≡ true
  bound-fits = le-leb (suc o) MAX (omega arith)

  may-commit : Passed (call_rows s v committing)
  may-commit = rw inv.callable.settings may

  -- it was settled before, or is now
  commit-same : leb (suc o) s.cursor.committed ≡ true
      → next c here it ≡ some (record { event = calls.committed (suc o) (done false); phase = idle s; area = a })
  unfolding next transition consumer.commit
  commit-same t = rw (worker-fits c v committing may, bound-fits, t, guarded-passed (call_rows s v committing) s (answer (done false) s) may-commit)

  commit-more : leb (suc o) s.cursor.committed ≡ false
      → next c here it ≡ some (record { event = calls.committed (suc o) (done true); phase = idle (with_committed s (suc o)); area = a })
  unfolding next transition consumer.commit
  commit-more t =
      rw (worker-fits c v committing may, bound-fits, t, guarded-passed (call_rows s v committing) s (answer (done true) (with_committed s (suc o))) may-commit)

  by-commit : (b : Bool) (x : State) → next c here it ≡ some (record { event = calls.committed (suc o) (done b); phase = idle x; area = a })
      → settled x.cursor o ≡ true → SettlesBy c here o (it ∷ [])
  unfolding NoneRefused restarts_in
  by-commit b x e h =
      record {
        leads = record {
          answered = rw (run-made c here it [] _ e, run_none c _) (refl, tt);
          left = x;
          leaves = ap (λ (u : World). u.phase) (ends-made c here it [] _ e ∙ ends_none c _);
        };
        no-restart = refl;
        settles = h;
      }

  commit-settles : SettlesBy c here o (it ∷ [])
  commit-settles =
      split (leb (suc o) s.cursor.committed)
      (λ t. by-commit false s (commit-same t) (rw (lt-ltb o s.cursor.committed (omega (arith, leb-true (suc o) s.cursor.committed t)))))
      (λ t. by-commit true (with_committed s (suc o)) (commit-more t)
      (committed-settled s (suc o) inv.callable.valid o ∙ rw (lt-ltb o (suc o) (omega arith))))

-- ## jobs
module _ (c : Configuration) (n : ℕ) (s₀ : State) (items : List Item) (f : Fits c.settings) (e : start c n ≡ done s₀) (s : State)
    (here-is : (ends c (fresh_world s₀ n) items).phase ≡ idle s) where
  abbrev w : World
  w = ends c (fresh_world s₀ n) items

  abbrev is : Reached c n s₀ items
  is = reached c n s₀ items f e

  same-world : w ≡ world (idle s) w.journal
  same-world = ap (λ (p : Phase). world p w.journal) here-is

  inv : Inv c n is.ledger (world (idle s) w.journal)
  inv = rw (← same-world) is.inv

  job-settles : (v now o : ℕ) → MayWork c v → Quiet s now → Enough s 1 → Free s o → SettlesBy c w o (job v s o now)
  job-settles v now o may quiet enough free =
      let d = job-done c n is.ledger s w.journal inv v now o may free quiet.clock quiet.in-hours (quiet.none_runs o)
      (omega (arith, enough.generations)) (omega (arith, enough.numbers)) in
      rw same-world (record {
        leads = record { answered = d.answered; left = job_left v s o now; leaves = d.leaves };
        no-restart = d.no-restart;
        settles = d.settles;
      })

  works-on : (v now o : ℕ) → MayWork c v → Quiet s now → Enough s (jobs s o) → o < MAX → is_dead s ≡ false → CanSettle c w o
  works-on v now o may quiet enough below alive =
      elim (dec_lt o s.cursor.committed) [
        | yes m ↦ already c w s o here-is (rw (lt-ltb o s.cursor.committed m))
        | no m ↦
            let x = one-is-free s inv.callable.valid (omega arith) alive in
            climb-from c n s₀ f e v now o may below items s here-is x.offset x.free quiet enough.generations enough.numbers
      ]

  module _ (late : ℕ) (all : (o : ℕ) (k : Lease) → lease_of s.table o ≡ some k → k.deadline ≤ late) (fits : late + WEEK ≤ MAX) where
    over : (o : ℕ) (x : Option Lease) → lease_of s.table o ≡ x → (clock : ℕ) → late ≤ clock → running x clock ≡ false
    over o none q clock m = refl
    over o (some k) q clock m = le-ltb clock k.deadline (omega (arith, all o k q))

    quiet-from : OpensWithin c.settings.hours late → QuietSoon s late
    quiet-from t =
        record {
          clock = t.clock;
          from = t.from;
          within = t.within;
          quiet = record {
            clock = omega (arith, t.within);
            in-hours = rw inv.callable.settings t.is_open;
            none_runs = λ o. over o (lease_of s.table o) refl t.clock t.from;
          };
        }

    quiet-soon : QuietSoon s late
    unfolding InOpeningHours
    quiet-soon = quiet-from ((in_opening-hours c n s₀ items f e s here-is).opens late)

  onward : Onward c w s
  onward =
      record {
        commits = λ v o may below. rw same-world (commit-settles c n is.ledger s w.journal inv v o may below);
        at_once = job-settles;
        in_the_end = works-on;
        dead = none_is-free s inv.callable.valid;
        alive = λ e m. one-is-free s inv.callable.valid m e;
        soon = quiet-soon;
      }

pub no-dead-end : NoDeadEnd
unfolding NoDeadEnd
no-dead-end c n s items f e left here = onward c n s items f e left here

-- ## in a dead end
-- the cursor is this one, and no offset is free
abbrev Held : Cursor → Phase → Type 0
Held cur (idle s) = (s.cursor ≡ cur) × ((x : ℕ) → Free s x → ⊥)
Held cur (writing w) = (w.state.cursor ≡ cur) × ((x : ℕ) → Free w.state x → ⊥)
Held cur off = Unit {0}

abbrev HeldAfter : Cursor → Option After → Type 0
HeldAfter cur none = Unit {0}
HeldAfter cur (some t) = Held cur t.phase

-- an ack that is not refused is of a free offset
pub acked-free : (s : State) → Valid s → (w o g : ℕ) → AckOpen s w o g → Free s o
acked-free s v w o g p =
    let own = acked-leased s w o g v p in
    record {
      below = own.below;
      unsettled = own.unsettled;
      room = says-room s.table o (leased-room s.table o p.token.lease p.token.held);
      not_shed = cursors.ack_cases s.cursor o RANGES (λ (r : Answer Bool Cursor). is_shed r.outcome ≡ false → fragments s.cursor o RANGES ≡ false)
          (λ d q. absurd (differ d (rw (own.unsettled, ne_eqb o MAX (λ z. omega (arith, own.below))))))
          (λ u m t q. absurd (differ refl q))
          (λ u m t q. t)
          p.not_shed;
    }

module _ (cur : Cursor) (s : State) (v : Valid s) (h : Held cur (idle s)) where
  -- with another table, in which no offset has room that had none
  held_with : (t : State) → t.cursor ≡ s.cursor → ((x : ℕ) → Room t.table x → Room s.table x) → Held cur (idle t)
  held_with t same room = (
    same ∙ h.0,
    λ x free. h.1 x (record {
      below = free.below;
      unsettled = rw same at free.unsettled;
      room = says-room s.table x (room x (has_room t x free));
      not_shed = rw same at free.not_shed;
    }),
  )

  claim-held : (w o now : ℕ) → Held cur (idle (consumer.claim s w o now).state)
  claim-held w o now =
      claim_cases s w o now (λ (r : Answer HandOut State). Held cur (idle r.state)) (λ r. h)
      (λ p. held_with (claimed s w o now) refl
      (room-before s.table w o now v.table.rising v.table.carried-rising (record { leases = p.lease-room; counts = p.count_room })))

  ack-held : (w o g : ℕ) → Held cur (idle (consumer.ack s w o g).state)
  ack-held w o g =
      ack_cases s w o g (λ (r : Answer (Unit {0}) State). Held cur (idle r.state)) (λ r. h) (λ p. absurd (h.1 o (acked-free s v w o g p)))

  nack-held : (w o g now : ℕ) (d : Option ℕ) → Held cur (idle (consumer.nack s w o g now d).state)
  nack-held w o g now d =
      nack_cases s w o g now d (λ (r : Answer ℕ State). Held cur (idle r.state)) (λ r. h)
      (λ p. held_with _ refl
      (λ x r. room-updated s.table o x (requeued_as s.table.next_generation (nack_deadline s o now d)) (record { leases = r.leases; counts = r.counts })))

  progress-held : (w o g now : ℕ) → Held cur (idle (consumer.progress s w o g now).state)
  progress-held w o g now =
      progress_cases s w o g now (λ (r : Answer ℕ State). Held cur (idle r.state)) (λ r. h)
      (λ p. held_with _ refl (λ x r. room-updated s.table o x (with_deadline (extended s.table o now)) r))

  flushed-held : Held cur (idle (flushed s))
  flushed-held = held_with (flushed s) refl (λ x r. record { leases = r.leases; counts = r.counts })

module _ (c : Configuration) (n : ℕ) (l : Ledger) (cur : Cursor) where
  abbrev Stays : Item → Option After → Type 0
  Stays i x = restart_in i ≡ 0 → commit_in i ≡ 0 → HeldAfter cur x

  asked-held : (s : State) (a : List ℕ) → Valid s → Held cur (idle s) → (w : ℕ) (q : Ask) → Stays (call (ask w q)) (asked s a w q)
  asked-held s a v h w (claim o now) r k = claim-held cur s v h w o now
  asked-held s a v h w (ack o g) r k = ack-held cur s v h w o g
  asked-held s a v h w (term o g) r k = ack-held cur s v h w o g
  asked-held s a v h w (nack o g now d) r k = nack-held cur s v h w o g now d
  asked-held s a v h w (progress o g now) r k = progress-held cur s v h w o g now
  asked-held s a v h w (commit bound) r k = absurd (omega arith)
  asked-held s a v h w (look q) r k = h

  began-held : (s : State) (a : List ℕ) (w : ℕ) → Held cur (idle s) → (r : Result Writing) → checkpoints.begin s w ≡ r → HeldAfter cur (began_as s a r)
  began-held s a w h (refused r) e = h
  began-held s a w h (done r) e = rw (← (begin-says s w r e).1) h

  module _ (w : Writing) (a : List ℕ) (inv : Inv c n l (world (writing w) a)) (h : Held cur (writing w)) where
    step-held : HeldAfter cur (stepped_as (checkpoints.step w a))
    unfolding checkpoints.step
    step-held = rw (same_length c n l a w inv) (go (is_last w))
      where
        go : (last : Bool) → Held cur (left_as (cond last (checkpoints.finished (flushed w.state)) (going (checkpoints.writing w.state (suc w.written)))))
        go true = flushed-held cur w.state inv.callable.0.valid h
        go false = h

    elsewhere-held : (b : List ℕ) → eqb (length b) (length a) ≡ false → HeldAfter cur (keeps_journal a (stepped_as (checkpoints.step w b)))
    unfolding checkpoints.step
    elsewhere-held b e =
        rw (ne_eqb (length b) w.state.size (λ q. eqb-false (length b) (length a) e (q ∙ inv.callable.0.size ∙ sym inv.journal.size))) h

    cut-held : (k : Cut) → HeldAfter cur (cut_on w a k)
    cut-held k = rw (same_length c n l a w inv) (go k)
      where
        go : (k : Cut) → HeldAfter cur (cut_at w a k)
        go old = tt
        go new = tt
        go (torn b) = split (is_torn b) (λ t. rw t tt) (λ t. rw t tt)

  shown : (p : Phase) (a : List ℕ) → Inv c n l (world p a) → Held cur p → Shown Stays a p
  shown (idle s) a known h = (λ w q t. asked-held s a known.callable.valid h w q, λ w r k. began-held s a w h (checkpoints.begin s w) refl)
  shown (writing w) a known h = (λ r k. step-held w a known h, λ b t r k. elsewhere-held w a known h b t, λ x r k. cut-held w a known h x)
  shown off a known h = tt

  item-held : (w : World) (i : Item) → Inv c n l w → Held cur w.phase → Stays i (next c w i)
  item-held w i inv h =
      next_cases c Stays (λ j q r k. tt) w.phase w.journal (λ r k. absurd (omega arith)) (shown w.phase w.journal inv h) i

held_on : (c : Configuration) (n : ℕ) (accepted : Passed (start_table c n)) (cur : Cursor) (more : List Item) (l : Ledger) (w : World) → Inv c n l w
    → Held cur w.phase → restarts_in more ≡ 0 → commits_in more ≡ 0 → Held cur (ends c w more).phase
unfolding ends restarts_in commits_in
held_on c n accepted cur [] l w inv h r k = h
held_on c n accepted cur (i ∷ is) l w inv h r k =
    go (next c w i) refl (item-kept c n accepted l w i inv) (item-held c n l cur w i inv h (omega arith) (omega arith))
    (held_on c n accepted cur is l w inv h (omega arith) (omega arith))
    (λ m t i h. held_on c n accepted cur is m (world t.phase t.area) i h (omega arith) (omega arith))
  where
    go : (x : Option After) → next c w i ≡ x → Answered noted (Law c.settings.policy) (Inv c n) l (next c w i) → HeldAfter cur (next c w i)
        → Held cur (ends c w is).phase
        → ((m : Ledger) (t : After) → Inv c n m (world t.phase t.area) → Held cur t.phase → Held cur (ends c (world t.phase t.area) is).phase)
        → Held cur (ends c w (i ∷ is)).phase
    go none e kept held skip rest = rw (e, ends) skip
    go (some t) e kept held skip rest =
        let made : Made noted (Law c.settings.policy) (Inv c n) l t = rw e at kept in
        let then : HeldAfter cur (some t) = rw e at held in
        rw (e, ends) (rest (noted l t.event) t made.keeps then)

pub dead_end : DeadEnd
unfolding DeadEnd
dead_end c n s items f e left here dead more r k then q =
    let b = reached c n s items f e in
    let w = ends c (fresh_world s n) items in
    let same : w ≡ world (idle left) w.journal = ap (λ (p : Phase). world p w.journal) here in
    let inv : Inv c n b.ledger (world (idle left) w.journal) = rw (← same) b.inv in
    let start-held : Held left.cursor (idle left) = (refl, none_is-free left inv.callable.valid dead) in
    at_last (ends c w more).phase q
    (rw (← same) at (held_on c n b.accepted left.cursor more b.ledger (world (idle left) w.journal) inv start-held r k))
  where
    at_last : (p : Phase) → state_in p ≡ some then → Held left.cursor p → then.cursor ≡ left.cursor
    at_last (idle x) q h = let same : x ≡ then = cc in rw (← same) h.0
    at_last (writing x) q h = let same : x.state ≡ then = cc in rw (← same) h.0
    at_last off q h = absurd (none-ne-some then q)

-- ## a checkpoint and a restart
-- counts of different offsets are as many as both lists have
raise-length : (lo : ℕ) (l c : List (Entry ℕ)) → Rising lo l → ((k m : ℕ) → lookup k l ≡ some m → lookup k c ≡ none) → length (raise_all l c) ≡ length l + length c
raise-length lo [] c r apart = omega arith
raise-length lo (x ∷ l) c r apart =
    let n : ℕ = max (get_or (lookup x.key c) 0) x.value in
    let more = length-put-new x.key n c (apart x.key x.value (rw (eq-eqb x.key x.key refl))) in
    omega (
      arith,
      more,
      raise-length (suc x.key) l (raise x.key x.value c) r.1
          (λ k m q. elim (ℕ_discrete k x.key) [
            | yes y ↦ absurd (none-ne-some m (sym (lookup-under (suc x.key) k l r.1 (omega arith)) ∙ q))
            | no y ↦
                let other : eqb k x.key ≡ false = ne_eqb k x.key y in
                lookup-put-other k x.key n c other ∙ apart k m (rw other q)
          ]),
    )

module _ (s : State) (v : Valid s) where
  abbrev pub counts : List (Entry ℕ)
  counts = all_attempt_counts s.table

  pub counts-length : length counts ≡ length s.table.leases + length s.table.carried
  unfolding all_attempt_counts
  counts-length =
      raise-length 0 (attempt_counts s.table) s.table.carried (rising-map_values (λ (k : Lease). k.deliveries) 0 s.table.leases v.table.rising)
      (λ k m q. alone k m (lease_of s.table k) refl (sym (lookup-map_values (λ (x : Lease). x.deliveries) k s.table.leases) ∙ q))
      ∙ ap (λ m. m + length s.table.carried) (length-map_values (λ (k : Lease). k.deliveries) s.table.leases)
    where
      alone : (k m : ℕ) (x : Option Lease) → lease_of s.table k ≡ x → deliveries_of x ≡ some m → lookup k s.table.carried ≡ none
      alone k m none e q = absurd (none-ne-some m q)
      alone k m (some y) e q = (v.leased k y e).alone

  stuck_at : (c : Cursor) (k : ℕ) → (fragments c k RANGES || eqb k MAX) ≡ true → fragments c k RANGES ≡ false → (k ≡ MAX → ⊥) → ⊥
  stuck_at c k t no-shed no_last = differ t (rw (no-shed, ne_eqb k MAX no_last))

  -- what is stored has a count for each that is leased or carried
  pub none_stored : none_settled s.cursor counts ≡ (none_settled s.cursor s.table.leases && none_settled s.cursor s.table.carried)
  none_stored =
      split (none_settled s.cursor s.table.leases)
      (λ t. rw t (split (none_settled s.cursor s.table.carried)
      (λ u. rw u (split (none_settled s.cursor counts)
      (λ y. y)
      (λ y.
      let x : Some s.cursor counts = some_at s.cursor 0 counts (counts-rising s v) y in
      absurd (found t u x.key x.value x.not_shed x.not_last (lease_of s.table x.key) refl (lookup x.key s.table.carried) refl
      (sym (all-counts-lookup s.table v.table x.key) ∙ x.found)))))
      (λ u.
      let x : Some s.cursor s.table.carried = some_at s.cursor 0 s.table.carried v.table.carried-rising u in
      rw u (not_all x.key x.not_shed x.not_last (lease_of s.table x.key) (lookup x.key s.table.carried)
      (all-counts-lookup s.table v.table x.key) (λ p q. none-ne-some x.value (sym q ∙ x.found))))))
      (λ t.
      let x : Some s.cursor s.table.leases = some_at s.cursor 0 s.table.leases v.table.rising t in
      rw t (not_all x.key x.not_shed x.not_last (lease_of s.table x.key) (lookup x.key s.table.carried)
      (all-counts-lookup s.table v.table x.key) (λ p q. none-ne-some x.value (sym p ∙ x.found))))
    where
      found : none_settled s.cursor s.table.leases ≡ true → none_settled s.cursor s.table.carried ≡ true → (k m : ℕ)
          → fragments s.cursor k RANGES ≡ false → (k ≡ MAX → ⊥) → (x : Option Lease) → lease_of s.table k ≡ x → (y : Option ℕ)
          → lookup k s.table.carried ≡ y → larger (deliveries_of x) y ≡ some m → ⊥
      found t u k m d g (some x) p y q e = stuck_at s.cursor k (none_at s.cursor s.table.leases k x t p) d g
      found t u k m d g none p (some y) q e = stuck_at s.cursor k (none_at s.cursor s.table.carried k y u q) d g
      found t u k m d g none p none q e = none-ne-some m e

      not_all : (k : ℕ) → fragments s.cursor k RANGES ≡ false → (k ≡ MAX → ⊥) → (x : Option Lease) (y : Option ℕ)
          → lookup k counts ≡ larger (deliveries_of x) y → (x ≡ none → y ≡ none → ⊥) → none_settled s.cursor counts ≡ false
      not_all k d g (some x) y e some-count =
          split (none_settled s.cursor counts) (λ z. absurd (stuck_at s.cursor k (none_at s.cursor counts k _ z e) d g)) (λ z. z)
      not_all k d g none (some y) e some-count =
          split (none_settled s.cursor counts) (λ z. absurd (stuck_at s.cursor k (none_at s.cursor counts k y z e) d g)) (λ z. z)
      not_all k d g none none e some-count = absurd (some-count refl refl)

  stored-dead : (c : Configuration) (n : ℕ) → is_dead (restored c n (stored s)) ≡ is_jammed s
  stored-dead c n =
      rw (none_stored, counts-length)
      (or_false ((none_settled s.cursor s.table.leases && none_settled s.cursor s.table.carried) && leb CARRIED (0 + (length s.table.leases + length s.table.carried)))
      ∙ rw zero_more)
    where
      or_false : (b : Bool) → (b || false) ≡ b
      or_false true = refl
      or_false false = refl

      zero_more : 0 + (length s.table.leases + length s.table.carried) ≡ length s.table.leases + length s.table.carried
      zero_more = omega arith

module _ (c : Configuration) (n : ℕ) (l : Ledger) (s : State) (a : List ℕ) (accepted : Passed (start_table c n)) (inv : Inv c n l (world (idle s) a)) (v : ℕ)
    (may : May c v checkpointing)
    (numbered : s.next.number ≤ MAX32) where
  abbrev before : World
  before = world (idle s) a

  there : Finished c n inv.saved s (is-ready inv.callable) v may numbered a inv.journal
  there = checkpoint-made c n inv.saved s (is-ready inv.callable) v may numbered a inv.journal

  abbrev then : World
  then = world (idle (flushed s)) there.area

  once_more : LeadsTo c then (call restart ∷ [])
  once_more = restart-leads c n (idle (flushed s)) there.area (stored s) accepted there.holds

  both_leave : ends c before (checkpoint v s ++ call restart ∷ []) ≡ world (idle (restored c n (stored s))) there.area
  both_leave =
      ends-behind c (checkpoint v s) (call restart ∷ []) before
      ∙ ap (λ (u : World). ends c u (call restart ∷ [])) there.leaves
      ∙ ends-made c then (call restart) [] _ (restart-made c n (idle (flushed s)) there.area (stored s) accepted there.holds)
      ∙ ends_none c _

  freed : Freed c before s (checkpoint v s ++ call restart ∷ [])
  freed =
      record {
        leads = record {
          answered = answered-all c before (checkpoint v s) (call restart ∷ [])
              (accepted-answered _ there.wrote) (rw there.leaves once_more.answered);
          left = restored c n (stored s);
          leaves = ap (λ (u : World). u.phase) both_leave;
        };
        same = refl;
        dead = stored-dead s inv.callable.valid c n;
      }

pub restart_frees : RestartFrees
unfolding RestartFrees
restart_frees c n s₀ items f e s here numbered v may =
    let b = reached c n s₀ items f e in
    let w = ends c (fresh_world s₀ n) items in
    let same : w ≡ world (idle s) w.journal = ap (λ (p : Phase). world p w.journal) here in
    let inv : Inv c n b.ledger (world (idle s) w.journal) = rw (← same) b.inv in
    rw same (freed c n b.ledger s w.journal b.accepted inv v may numbered)
