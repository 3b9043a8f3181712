-- Jobs: a checkpoint, a claim and an ack settle an offset that is free, and leave room for any other; so all can be settled, from the
-- lowest open one on. Assumes nothing.
use Prim.Native.Nat.{ℕ, zero, suc, ◌+◌, ◌-◌, ◌≤◌, ◌<◌}
use native.Mathlib.Omega.{arith}
use native.Mathlib.Decide.{dec_lt, ℕ_discrete}
use mathlib.Core.Path.{◌≡◌, refl, ap, ◌∙◌}
use mathlib.Core.Bool.{Bool, true, false}
use mathlib.Core.List.{List, [], ◌∷◌, ◌++◌}
use mathlib.Core.Option.{Option, none, some}
use lib.Dec.{eqb}
use lib.ListN.{length, replicate}
use borrow.Author.Tests.{eqb-true, eq-eqb, ne_eqb, leb-false, le-leb, lt-ltb, ltb-false}
use Rattle.types.specs.Limits.{MAX, MAX32, WORKERS, LEASES, CARRIED, RANGES}
use Rattle.types.specs.Refusal.{done}
use Rattle.types.specs.Table.{Answer, answer, Passed}
use Rattle.types.specs.Keyed.{lookup, put, delete}
use Rattle.types.proofs.Cases.{split, neither}
use Rattle.journal.proofs.Sound.{differ}
use Rattle.types.proofs.Table.{guarded-passed, append-passed}
use Rattle.types.proofs.Keyed.{lookup-put-same, lookup-put-other, lookup-delete-same, lookup-delete-other, length-put-old, length-put-new, length-delete, length-delete-old}
use Rattle.cursor.specs.Cursor.{Cursor, settled, recorded, advanced, ackBounded}
use Rattle.cursor.specs.Cursor as cursors
use Rattle.cursor.specs.Ranges.{Above}
use Rattle.cursor.specs.declared.Range.{Range}
use Rattle.cursor.proofs.Cursor.{ack_cases, recorded-next, recorded-ahead, recorded-settled}
use Rattle.hours.specs.Hours.{isOpen}
use Rattle.lease.specs.declared.Lease.{Lease}
use Rattle.lease.specs.Operations.{lease_of, running, lease, deadline_from, next_count, consumed}
use Rattle.consumer.specs.State.{Configuration, State}
use Rattle.consumer.specs.Valid.{Fits}
use Rattle.consumer.specs.Rights.{Operation, claiming, settling}
use Rattle.consumer.specs.Calls as consumer
use Rattle.consumer.specs.Calls.{token_rows, claim_table, claimed, hand_out, ack_rows, ack_table, acked, is_shed}
use Rattle.consumer.proofs.Open.{call_open, token-passed}
use Rattle.checkpoint.specs.Checkpoint.{writes, flushed}
use Rattle.starts.specs.Restart.{start}
use Rattle.machine.specs.Calls.{claim, ack, ask, step, u64, Event}
use Rattle.machine.specs.Calls as calls
use Rattle.machine.specs.Transitions.{Phase, idle, transition}
use Rattle.crash_safety.specs.Runs.{Item, call, World, world, next, run, ends, fresh_world}
use Rattle.crash_safety.specs.Demand3.{restarts_in}
use Rattle.crash_safety.specs.Workers.{May, refusal_of}
use Rattle.crash_safety.specs.Useful.{Accepted, began, steps, AllAccepted, checkpoint, Checkpointed, Claimable}
use Rattle.crash_safety.specs.DeadEnds.{NoneRefused, LeadsTo, Free, CanSettle, MayWork, Quiet, job}
use Rattle.crash_safety.proofs.Law.{Ledger}
use Rattle.crash_safety.proofs.Invariant.{Inv}
use Rattle.crash_safety.proofs.Runs.{run-made, ends-made, run_none, ends_none, run-behind, ends-behind}
use Rattle.crash_safety.proofs.Useful.{claim-passes, checkpointed}
use Rattle.crash_safety.proofs.Reached.{reached}
use Rattle.crash_safety.proofs.Room.{Room, has_room, lowest-free}

-- ## events that are no refusals
pub accepted-answered : (es : List Event) → AllAccepted es → NoneRefused es
unfolding AllAccepted NoneRefused
accepted-answered [] h = tt
accepted-answered (e ∷ es) h = (one e h.0, accepted-answered es h.1)
  where
    one : (e : Event) → Accepted e → refusal_of e ≡ none
    one e (began n) = refl
    one e (steps w) = refl

answered-behind : (es fs : List Event) → NoneRefused es → NoneRefused fs → NoneRefused (es ++ fs)
unfolding NoneRefused
answered-behind [] fs h k = k
answered-behind (e ∷ es) fs h k = (h.0, answered-behind es fs h.1 k)

pub answered-all : (c : Configuration) (w : World) (items is : List Item) → NoneRefused (run c w items) → NoneRefused (run c (ends c w items) is)
    → NoneRefused (run c w (items ++ is))
answered-all c w items is h k = rw (run-behind c items is w) (answered-behind (run c w items) (run c (ends c w items) is) h k)

-- ## restarts
no-restart-behind : (items is : List Item) → restarts_in items ≡ 0 → restarts_in is ≡ 0 → restarts_in (items ++ is) ≡ 0
unfolding restarts_in
no-restart-behind [] is h k = k
no-restart-behind (i ∷ items) is h k = omega (arith, no-restart-behind items is (omega arith) k)

steps-no-restart : (k : ℕ) → restarts_in (replicate k (call step)) ≡ 0
unfolding restarts_in
steps-no-restart zero = refl
steps-no-restart (suc k) = omega (arith, steps-no-restart k)

checkpoint-no-restart : (v : ℕ) (s : State) → restarts_in (checkpoint v s) ≡ 0
unfolding restarts_in
checkpoint-no-restart v s = omega (arith, steps-no-restart (writes s))

-- ## a worker's number
pub worker-fits : (c : Configuration) (v : ℕ) (op : Operation) → May c v op → u64 v ≡ true
worker-fits c v op may = le-leb v MAX (omega (arith, leb-false WORKERS v may.0))

-- ## the cursor
advanced-far : (n lo : ℕ) (l : List Range) → Above lo l → n ≤ (advanced n l).committed
advanced-far n lo [] a = omega arith
advanced-far n lo (r ∷ rs) a =
    split (eqb r.start n)
    (λ t. rw t (omega (arith, eqb-true r.start n t, a.1)))
    (λ t. rw t (omega arith))

-- committed never falls, and an ack of the lowest open offset raises it
pub recorded-far : (c : Cursor) (o : ℕ) → cursors.Valid c → settled c o ≡ false → (c.committed ≤ (recorded c o).committed) × (o ≡ c.committed → o < (recorded c o).committed)
recorded-far c o v u =
    let from : c.committed ≤ o = ltb-false o c.committed (neither _ _ u).0 in
    elim (ℕ_discrete o c.committed) [
      | yes q ↦
          let more = advanced-far (c.committed + 1) c.committed c.ahead v.above in
          let far : c.committed + 1 ≤ (recorded c o).committed = rw (q, recorded-next c.committed c.ahead v.above) more in
          (omega (arith, far), λ z. omega (arith, far, q))
      | no q ↦
          let same : (recorded c o).committed ≡ c.committed =
          ap (λ (x : Cursor). x.committed) (recorded-ahead c.committed o c.ahead (omega arith) v.above) in
          (omega (arith, same), λ z. absurd (q z))
    ]

-- ## one job
-- what a job leaves
abbrev pub job_left : ℕ → State → ℕ → ℕ → State
job_left v s x now = acked (claimed (flushed s) v x now) x

-- none of it is refused, and what it leaves has the offset settled, and room for any other
pub record Job (c : Configuration) (w : World) (v : ℕ) (s : State) (x now : ℕ) : Type 0 where
  pub answered : NoneRefused (run c w (job v s x now))
  pub leaves : (ends c w (job v s x now)).phase ≡ idle (job_left v s x now)
  pub settles : settled (job_left v s x now).cursor x ≡ true
  pub no-restart : restarts_in (job v s x now) ≡ 0
  pub raises : s.cursor.committed ≤ (job_left v s x now).cursor.committed
  pub passes : x ≡ s.cursor.committed → x < (job_left v s x now).cursor.committed
  pub leases : length (job_left v s x now).table.leases < LEASES
  pub counts : length (job_left v s x now).table.leases + length (job_left v s x now).table.carried < CARRIED
  pub quiet : ((o : ℕ) → running (lease_of s.table o) now ≡ false) → (o : ℕ) → running (lease_of (job_left v s x now).table o) now ≡ false

module _ (c : Configuration) (n : ℕ) (l : Ledger) (s : State) (a : List ℕ) (inv : Inv c n l (world (idle s) a)) (v now x : ℕ) (may : MayWork c v)
    (free : Free s x)
    (clock : now ≤ MAX)
    (in-hours : isOpen s.settings.hours now ≡ true)
    (not_held : running (lease_of s.table x) now ≡ false)
    (generation : s.table.next_generation < MAX)
    (numbered : s.next.number ≤ MAX32) where
  abbrev held : State
  held = claimed (flushed s) v x now

  abbrev left : State
  left = job_left v s x now

  claimable : Claimable s x now
  claimable =
      record {
        not_last = ne_eqb x MAX (λ q. omega (arith, free.below));
        unsettled = free.unsettled;
        in-hours = in-hours;
        not_held = not_held;
        generations = ne_eqb s.table.next_generation MAX (λ q. omega arith);
        room = free.room;
      }

  small : u64 v ≡ true
  small = worker-fits c v claiming may.claims

  offset-fits : u64 x ≡ true
  offset-fits = le-leb x MAX (omega (arith, free.below))

  clock-fits : u64 now ≡ true
  clock-fits = le-leb now MAX clock

  claim-made : (b : List ℕ) → next c (world (idle (flushed s)) b) (call (ask v (claim x now)))
      ≡ some (record { event = calls.claimed x now (done (hand_out (flushed s) x)); phase = idle held; area = b })
  unfolding next transition consumer.claim
  claim-made b =
      rw (
        small,
        offset-fits,
        clock-fits,
        guarded-passed (claim_table (flushed s) v x now) (flushed s) (answer (done (hand_out (flushed s) x)) held)
            (claim-passes c s inv.callable.settings inv.callable.valid v x now may.claims claimable),
      )

  -- ## the ack
  abbrev new : Lease
  new = lease s.table.next_generation now (deadline_from s.table.config now now) (next_count s.table x) v

  leased : lease_of held.table x ≡ some new
  leased = lookup-put-same x new s.table.leases

  shed_not : is_shed (ackBounded s.cursor x RANGES).outcome ≡ false
  shed_not =
      ack_cases s.cursor x RANGES (λ (r : Answer Bool Cursor). is_shed r.outcome ≡ false) (λ d. refl)
      (λ u m f. absurd (differ f free.not_shed))
      (λ u m f. refl)

  is-recorded : (ackBounded s.cursor x RANGES).state ≡ recorded s.cursor x
  is-recorded =
      ack_cases s.cursor x RANGES (λ (r : Answer Bool Cursor). r.state ≡ recorded s.cursor x)
      (λ d. absurd (differ d (rw (free.unsettled, ne_eqb x MAX (λ q. omega (arith, free.below))))))
      (λ u m f. absurd (differ f free.not_shed))
      (λ u m f. refl)

  ack-passes : Passed (ack_table held v x s.table.next_generation)
  ack-passes =
      append-passed (token_rows held v settling x s.table.next_generation) (ack_rows held x)
      (token-passed held v settling x s.table.next_generation (call_open held v settling (rw inv.callable.settings may.acks))
      (rw (leased, eq-eqb s.table.next_generation s.table.next_generation refl))
      (rw (leased, eq-eqb v v refl)))
      (shed_not, tt)

  ack-made : (b : List ℕ) → next c (world (idle held) b) (call (ask v (ack x s.table.next_generation)))
      ≡ some (record { event = calls.acked x s.table.next_generation (done tt); phase = idle left; area = b })
  unfolding next transition consumer.ack
  ack-made b =
      rw (
        small,
        offset-fits,
        le-leb s.table.next_generation MAX (omega arith),
        guarded-passed (ack_table held v x s.table.next_generation) held (answer (done (tt {0})) left) ack-passes,
      )

  -- ## all of it
  abbrev before : World
  before = world (idle s) a

  wrote : Checkpointed c v before s
  wrote = checkpointed c n l s a inv v may.checkpoints numbered

  abbrev mid : World
  mid = ends c before (checkpoint v s)

  mid-is : mid ≡ world (idle (flushed s)) mid.journal
  mid-is = ap (λ (p : Phase). world p mid.journal) wrote.leaves

  abbrev rest : List Item
  rest = call (ask v (claim x now)) ∷ call (ask v (ack x s.table.next_generation)) ∷ []

  job-leaves : ends c before (job v s x now) ≡ world (idle left) mid.journal
  job-leaves =
      ends-behind c (checkpoint v s) rest before
      ∙ ap (λ (w : World). ends c w rest) mid-is
      ∙ ends-made c _ (call (ask v (claim x now))) _ _ (claim-made mid.journal)
      ∙ ends-made c _ (call (ask v (ack x s.table.next_generation))) _ _ (ack-made mid.journal)
      ∙ ends_none c _

  job-answered : NoneRefused (run c before (job v s x now))
  unfolding NoneRefused
  job-answered =
      answered-all c before (checkpoint v s) rest (accepted-answered _ wrote.wrote)
      (rw (
        mid-is,
        run-made c _ (call (ask v (claim x now))) _ _ (claim-made mid.journal),
        run-made c _ (call (ask v (ack x s.table.next_generation))) _ _ (ack-made mid.journal),
        run_none c _,
      ) (refl, (refl, tt)))

  job-no-restart : restarts_in (job v s x now) ≡ 0
  unfolding restarts_in
  job-no-restart = no-restart-behind (checkpoint v s) rest (checkpoint-no-restart v s) refl

  -- ## what it leaves
  job-settles : settled left.cursor x ≡ true
  job-settles = rw (is-recorded, recorded-settled s.cursor x inv.callable.valid.cursor free.unsettled, eq-eqb x x refl)

  job-far : (s.cursor.committed ≤ left.cursor.committed) × (x ≡ s.cursor.committed → x < left.cursor.committed)
  job-far = rw is-recorded (recorded-far s.cursor x inv.callable.valid.cursor free.unsettled)

  -- the lease that went, or the room that there was
  job-room : (length left.table.leases < LEASES) × (length left.table.leases + length left.table.carried < CARRIED)
  job-room = go (lease_of s.table x) refl (lookup x s.table.carried) refl
    where
      gone : length (delete x (put x new s.table.leases)) < length (put x new s.table.leases)
      gone = length-delete-old x new (put x new s.table.leases) leased

      go : (y : Option Lease) → lease_of s.table x ≡ y → (z : Option ℕ) → lookup x s.table.carried ≡ z
          → (length left.table.leases < LEASES) × (length left.table.leases + length (consumed y x s.table.carried) < CARRIED)
      go (some o) e z f =
          let same = length-put-old 0 x new o s.table.leases inv.callable.valid.table.rising e in
          (omega (arith, gone, same, inv.callable.valid.table.few), omega (arith, gone, same, inv.callable.valid.together))
      go none e (some m) f =
          let more = length-put-new x new s.table.leases e in (
            omega (arith, gone, more, (has_room s x free).leases e),
            omega (arith, gone, more, length-delete-old x m s.table.carried f, inv.callable.valid.together),
          )
      go none e none f =
          let more = length-put-new x new s.table.leases e in (
            omega (arith, gone, more, (has_room s x free).leases e),
            omega (arith, gone, more, length-delete x s.table.carried, (has_room s x free).counts e f),
          )

  -- no lease but that one changed
  job-quiet : ((o : ℕ) → running (lease_of s.table o) now ≡ false) → (o : ℕ) → running (lease_of left.table o) now ≡ false
  job-quiet none_runs o =
      elim (ℕ_discrete o x) [
        | yes q ↦
            let gone : lease_of left.table o ≡ none = rw q (lookup-delete-same x (put x new s.table.leases)) in
            rw gone
        | no q ↦
            let apart : eqb o x ≡ false = ne_eqb o x q in
            let same : lease_of left.table o ≡ lease_of s.table o =
            lookup-delete-other o x (put x new s.table.leases) apart ∙ lookup-put-other o x new s.table.leases apart in
            rw same (none_runs o)
      ]

  pub job-done : Job c (world (idle s) a) v s x now
  job-done =
      record {
        answered = job-answered;
        leaves = ap (λ (w : World). w.phase) job-leaves;
        settles = job-settles;
        no-restart = job-no-restart;
        raises = job-far.0;
        passes = job-far.1;
        leases = job-room.0;
        counts = job-room.1;
        quiet = job-quiet;
      }

-- ## job after job
settled-below : (s : State) (o : ℕ) → o < s.cursor.committed → settled s.cursor o ≡ true
settled-below s o m = rw (lt-ltb o s.cursor.committed m)

-- nothing has to be done
pub already : (c : Configuration) (w : World) (s : State) (o : ℕ) → w.phase ≡ idle s → settled s.cursor o ≡ true → CanSettle c w o
unfolding NoneRefused restarts_in
already c w s o e t =
    record {
      items = [];
      settles = record {
        leads = record { answered = rw (run_none c w) tt; left = s; leaves = rw (ends_none c w) e };
        no-restart = refl;
        settles = t;
      };
    }

module _ (c : Configuration) (n : ℕ) (s₀ : State) (f : Fits c.settings) (e : start c n ≡ done s₀) (v now o : ℕ) (may : MayWork c v) (below : o < MAX) where
  abbrev after : List Item → World
  after items = ends c (fresh_world s₀ n) items

  -- the state has room for any offset, generations and numbers for k jobs, and its lowest open offset is at most k below
  pub record Able (k : ℕ) (s : State) : Type 0 where
    pub quiet : Quiet s now
    pub leases : length s.table.leases < LEASES
    pub counts : length s.table.leases + length s.table.carried < CARRIED
    pub generations : s.table.next_generation + k ≤ MAX
    pub numbers : s.next.number + k ≤ suc MAX32
    pub near : o < s.cursor.committed + k

  -- who can be called, and the invariant
  module _ (items : List Item) (s : State) (here : (after items).phase ≡ idle s) where
    same-world : after items ≡ world (idle s) (after items).journal
    same-world = ap (λ (p : Phase). world p (after items).journal) here

    inv : Inv c n (reached c n s₀ items f e).ledger (world (idle s) (after items).journal)
    inv = rw (← same-world) (reached c n s₀ items f e).inv

    -- a job of a free offset, and what can be settled after it
    module _ (x : ℕ) (free : Free s x) (quiet : Quiet s now) (generation : s.table.next_generation < MAX) (numbered : s.next.number ≤ MAX32) where
      made : Job c (after items) v s x now
      made =
          rw same-world
          (job-done c n (reached c n s₀ items f e).ledger s (after items).journal inv v now x may free quiet.clock quiet.in-hours (quiet.none_runs x) generation numbered)

      behind : after (items ++ job v s x now) ≡ ends c (after items) (job v s x now)
      behind = ends-behind c items (job v s x now) (fresh_world s₀ n)

      then-phase : (after (items ++ job v s x now)).phase ≡ idle (job_left v s x now)
      then-phase = rw behind made.leaves

      and_then : CanSettle c (after (items ++ job v s x now)) o → CanSettle c (after items) o
      and_then r =
          let more : LeadsTo c (after (items ++ job v s x now)) r.items = r.settles.leads in
          record {
            items = job v s x now ++ r.items;
            settles = record {
              leads = record {
                answered = answered-all c (after items) (job v s x now) r.items made.answered (rw (← behind) more.answered);
                left = more.left;
                leaves = rw (ends-behind c (job v s x now) r.items (after items), ← behind) more.leaves;
              };
              no-restart = no-restart-behind (job v s x now) r.items made.no-restart r.settles.no-restart;
              settles = r.settles.settles;
            };
          }

      able_then : (k : ℕ) → s.table.next_generation + suc k ≤ MAX → s.next.number + suc k ≤ suc MAX32 → o < (job_left v s x now).cursor.committed + k
          → Able k (job_left v s x now)
      able_then k generations numbers near =
          record {
            quiet = record { clock = quiet.clock; in-hours = quiet.in-hours; none_runs = made.quiet quiet.none_runs };
            leases = made.leases;
            counts = made.counts;
            generations = omega arith;
            numbers = omega arith;
            near = near;
          }

  -- from the lowest open offset on
  climb : (k : ℕ) (items : List Item) (s : State) → (after items).phase ≡ idle s → Able k s → CanSettle c (after items) o
  climb zero items s here able = already c (after items) s o here (settled-below s o (omega (arith, able.near)))
  climb (suc k) items s here able =
      elim (dec_lt o s.cursor.committed) [
        | yes m ↦ already c (after items) s o here (settled-below s o m)
        | no m ↦
            let low : ℕ = s.cursor.committed in
            let room : Room s.table low = record { leases = λ p. able.leases; counts = λ p q. able.counts } in
            let free : Free s low = lowest-free s (inv items s here).callable.valid (omega arith) room in
            let generation : s.table.next_generation < MAX = omega (arith, able.generations) in
            let numbered : s.next.number ≤ MAX32 = omega (arith, able.numbers) in
            let far = (made items s here low free able.quiet generation numbered).passes refl in
            and_then items s here low free able.quiet generation numbered
            (climb k (items ++ job v s low now) (job_left v s low now) (then-phase items s here low free able.quiet generation numbered)
            (able_then items s here low free able.quiet generation numbered k able.generations able.numbers (omega (arith, far, able.near))))
      ]

  -- a free offset first, which leaves room for any other
  pub climb-from : (items : List Item) (s : State) (here : (after items).phase ≡ idle s) (x : ℕ) → Free s x → Quiet s now
      → s.table.next_generation + suc (suc o - s.cursor.committed) ≤ MAX → s.next.number + suc (suc o - s.cursor.committed) ≤ suc MAX32
      → CanSettle c (after items) o
  climb-from items s here x free quiet generations numbers =
      let k : ℕ = suc o - s.cursor.committed in
      let generation : s.table.next_generation < MAX = omega arith in
      let numbered : s.next.number ≤ MAX32 = omega arith in
      let far = (made items s here x free quiet generation numbered).raises in
      and_then items s here x free quiet generation numbered
      (climb k (items ++ job v s x now) (job_left v s x now) (then-phase items s here x free quiet generation numbered)
      (able_then items s here x free quiet generation numbered k generations numbers (omega (arith, far))))
