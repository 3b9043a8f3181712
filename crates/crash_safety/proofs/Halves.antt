-- The two halves: where a group goes and that it fits; that a consumer never stops; and what a restart finds after a checkpoint that
-- was interrupted, or one that went to the other half. Assumes nothing.
use Prim.Native.Nat.{ℕ, zero, suc, ◌+◌, ◌-◌, ◌/◌, ◌≤◌, ◌<◌}
use native.Mathlib.Omega.{arith}
use mathlib.Core.Path.{◌≡◌, refl, sym, ap, ◌∙◌}
use mathlib.Core.Bool.{Bool, true, false}
use mathlib.Core.List.{List, [], ◌∷◌, ◌++◌, append-nil}
use lib.ListN.{replicate, length-append}
use lib.Dec.{ltb}
use borrow.Author.Tests.{lt-ltb, le-ltb, ltb-true}
use Rattle.types.specs.Limits.{MAX32}
use Rattle.types.specs.Refusal.{JournalFull}
use Rattle.types.specs.Table.{◌⇒◌, Passed}
use Rattle.types.proofs.Table.{append-passed, checked-passed, first-met}
use Rattle.cursor.proofs.Snapshot.{cursor-length}
use Rattle.attempt.proofs.Snapshot.{attempts-length}
use Rattle.lease.specs.Counts.{all_attempt_counts}
use Rattle.journal.specs.Area.{block_at}
use Rattle.journal.proofs.Sound.{differ}
use Rattle.consumer.specs.State.{Configuration, State, half_blocks, half_in_use, half_end, otherHalf}
use Rattle.consumer.specs.Valid.{Valid}
use Rattle.consumer.specs.Rights.{checkpointing}
use Rattle.consumer.specs.Calls.{call_rows}
use Rattle.consumer.proofs.Area.{Halves, area-halves, InUse, first, second, in_use}
use Rattle.checkpoint.specs.Checkpoint as checkpoints
use Rattle.checkpoint.specs.Checkpoint.{cursor_bytes, attempt_bytes, bodies, switches, group_block, writes, begin_rows, Writing, next_place}
use Rattle.checkpoint.proofs.Payload.{payload-fits}
use Rattle.checkpoint.proofs.Places.{Goes, stays, moves, goes, Next, zeroing, body, header, next-is}
use Rattle.starts.specs.Restart.{start_table}
use Rattle.machine.specs.Calls.{begin, step, restart}
use Rattle.machine.specs.Transitions.{Phase, idle, writing}
use Rattle.power_cut.specs.Cut.{Cut, old, new, torn}
use Rattle.crash_safety.specs.Book.{Page}
use Rattle.crash_safety.specs.Runs.{call, World, world, ends, fresh_world}
use Rattle.crash_safety.specs.Settled.{state_in}
use Rattle.crash_safety.specs.Workers.{May}
use Rattle.crash_safety.specs.Recovery.{begun, then_cut, HasNumber, WritesCount, EveryWriteCounts}
use Rattle.crash_safety.specs.Useful.{steps, AllAccepted, checkpoint, NotUseless}
use Rattle.crash_safety.specs.Halves.{Placed, NineBlocks, NumbersUsed, steps_left, Finished, NeverStops, unfinished, Recovers, InterruptedSwitch, InHalf, Switched, AfterSwitch}
use Rattle.crash_safety.proofs.Law.{Ledger}
use Rattle.crash_safety.proofs.Runs.{run-made, ends-made, ends_none}
use Rattle.crash_safety.proofs.Invariant.{restored, Ready, is-ready, Inv}
use Rattle.crash_safety.proofs.Journals.{stored}
use Rattle.crash_safety.proofs.Writes.{other-kept}
use Rattle.crash_safety.proofs.Steps.{stored-found}
use Rattle.crash_safety.proofs.Reached.{reached}
use Rattle.crash_safety.proofs.Checkpoints.{before, none_wrote, steps-more, Midway, longer, made, not_last, midway-more, last_step, further, begin-step, midway_none}
use Rattle.crash_safety.proofs.Recovery.{restart-gives, finished-gives, every_write-counts}
use Rattle.crash_safety.proofs.Useful.{not_useless}
use Rattle.crash_safety.proofs.Numbers.{numbers-used}

-- ## a group fits
module _ (s : State) (v : Valid s) where
  goes_where : Goes s.size s.next.block (bodies s)
  goes_where = goes s.size s.next.block (bodies s)

  placed : Placed s
  unfolding checkpoints.begin
  placed =
      let few = (payload-fits s v).few-bodies in
      record {
        nine-blocks = omega arith;
        in_a-half = omega (arith, (area-halves s.size v.area).enough);
        stays = λ t. stay t goes_where;
        moves = λ t. move t goes_where;
        begins = λ w p h. checked-passed (call_rows s w checkpointing ++ begin_rows s) _ (append-passed (call_rows s w checkpointing) (begin_rows s) p (le-ltb MAX32 s.next.number h, tt));
        is-full = λ w p h. rw (first-met (call_rows s w checkpointing) [] (ltb MAX32 s.next.number ⇒ JournalFull) p (lt-ltb MAX32 s.next.number h));
      }
    where
      stay : switches s ≡ false → Goes s.size s.next.block (bodies s) → (group_block s ≡ s.next.block) × (group_block s + suc (bodies s) ≤ half_end s.size s.next.block)
      stay t (stays u h p z) = (p, omega (arith, p, h))
      stay t (moves u h p z) = absurd (differ u t)

      move : switches s ≡ true → Goes s.size s.next.block (bodies s) → group_block s ≡ otherHalf s.size s.next.block
      move t (stays u h p z) = absurd (differ t u)
      move t (moves u h p z) = p

  -- a group that went to the other half has that half in use
  half-changes : switches s ≡ true → half_in_use s.size (group_block s + suc (bodies s)) ≡ 1 - half_in_use s.size s.next.block
  half-changes t =
      let at = placed.moves t in
      go at (in_use s.size s.next.block) (in_use s.size (group_block s + suc (bodies s)))
    where
      go : group_block s ≡ otherHalf s.size s.next.block → InUse s.size s.next.block → InUse s.size (group_block s + suc (bodies s))
          → half_in_use s.size (group_block s + suc (bodies s)) ≡ 1 - half_in_use s.size s.next.block
      go at (first l e) (first m f) =
          let other : otherHalf s.size s.next.block ≡ half_blocks s.size = rw e in
          absurd (omega (arith, at, other))
      go at (first l e) (second m f) = rw (e, f)
      go at (second l e) (first m f) = rw (e, f)
      go at (second l e) (second m f) =
          let other : otherHalf s.size s.next.block ≡ 0 = rw e in
          absurd (omega (arith, at, other, placed.in_a-half))

pub nine-blocks : NineBlocks
nine-blocks =
    record {
      placed = placed;
      largest = λ s ranges counts.
          omega (
            arith,
            length-append (cursor_bytes s) (attempt_bytes s),
            cursor-length s.cursor,
            attempts-length 2 (all_attempt_counts s.table),
            ranges,
            counts,
          );
    }

-- ## a consumer never stops
-- the steps that are left of a checkpoint under way
pub finish : (c : Configuration) (n : ℕ) (l : Ledger) (w : Writing) (a : List ℕ) → Inv c n l (world (writing w) a) → Finished c (world (writing w) a) w
unfolding AllAccepted
finish c n l w a inv =
    let s : State = w.state in
    let v = inv.saved in
    let now = is-ready inv.callable.0 in
    let few : w.written ≤ before s = inv.callable.1.valid.few in
    let m : ℕ = before s - w.written in
    let mid : Midway c n v s now w.written a = record { journal = inv.journal; written = inv.callable.1 } in
    let b = further c n v s now m w.written (before s) (omega arith) (omega arith) a mid in
    let end : World = world (writing (checkpoints.writing s (before s))) b.area in
    let last = last_step c n v s now (before s) b.area b.midway (omega arith) in
    let many : writes s - w.written ≡ suc m = omega arith in
    let items : steps_left w ≡ replicate m (call step) ++ call step ∷ [] =
    ap (λ k. replicate k (call step)) many ∙ sym (append-nil (replicate (suc m) (call step))) ∙ steps-more m [] in
    record {
      wrote = rw items (b.leads.wrote (call step ∷ []) (rw (run-made c end (call step) [] _ last) (steps _, none_wrote c _)));
      leaves = rw items (ap (λ (u : World). u.phase)
          (b.leads.ends_there (call step ∷ []) ∙ ends-made c end (call step) [] _ last ∙ ends_none c _));
    }

finish-at : (c : Configuration) (n : ℕ) (l : Ledger) (p : Phase) (a : List ℕ) (w : Writing) → p ≡ writing w → Inv c n l (world p a)
    → Finished c (world p a) w
finish-at c n l p a w e = rw e (finish c n l w a)

pub never-stops : NeverStops
unfolding NeverStops NotUseless NumbersUsed
never-stops c n s items f e few =
    let u = ends c (fresh_world s n) items in
    let r = reached c n s items f e in
    record {
      checkpoints = λ v may left here.
          (not_useless c n s items f e left here).checkpoints v may
          (omega (arith, numbers-used c n s items f e left (ap state_in here)));
      finishes = λ w here. finish-at c n r.ledger u.phase u.journal w here r.inv;
    }

-- ## an interrupted checkpoint
as_in_place : (c : Configuration) (v : ℕ) (w : World) (s : State) → WritesCount c v w s → (k : ℕ) (x : Cut) → k < writes s → unfinished s k x ≡ true
    → (ends c w (begun v k ++ then_cut x)).phase ≡ (ends c w (call restart ∷ [])).phase
as_in_place c v w s h k old l t = h.left-old k l
as_in_place c v w s h k new l t = h.body_new k (ltb-true (suc k) (writes s) t)
as_in_place c v w s h k (torn b) l t = h.left-torn k b l t

pub interrupted_switch : InterruptedSwitch
unfolding InterruptedSwitch EveryWriteCounts
interrupted_switch c n s items f e left here numbered v may k x l t =
    let r = reached c n s items f e in
    let w = ends c (fresh_world s n) items in
    let given = restart-gives c n r.accepted w r.inv.saved r.inv.journal in
    record {
      state = restored c n r.inv.saved;
      found = as_in_place c v w left (every_write-counts c n s items f e left here numbered v may) k x l t ∙ given;
      in_place = given;
      finds = rw (← r.books) r.inv.finds;
    }

-- ## after a switch
-- a checkpoint that goes to the other half writes nothing elsewhere
module _ (c : Configuration) (n : ℕ) (l : Ledger) (s : State) (a : List ℕ) (inv : Inv c n l (world (idle s) a)) (worker : ℕ)
    (may : May c worker checkpointing)
    (numbered : HasNumber s)
    (switch : switches s ≡ true)
    (i : ℕ)
    (here : InHalf s i) where
  abbrev now : Ready c n inv.saved s
  now = is-ready inv.callable

  abbrev Mid : ℕ → List ℕ → Type 0
  Mid = Midway c n inv.saved s now

  abbrev under_way : ℕ → List ℕ → World
  under_way k b = world (writing (checkpoints.writing s k)) b

  -- every block write lies in that half
  elsewhere : (k : ℕ) → i ≡ next_place (checkpoints.writing s k) → ⊥
  elsewhere k e = go (goes_where s now.valid) (in_use s.size s.next.block) (next-is (checkpoints.writing s k))
    where
      w : Writing
      w = checkpoints.writing s k

      halves : Halves s.size
      halves = area-halves s.size now.valid.area

      few : bodies s ≤ 8
      few = (payload-fits s now.valid).few-bodies

      go : Goes s.size s.next.block (bodies s) → InUse s.size s.next.block → Next w → ⊥
      go (stays u h p z) x y = differ switch u
      go (moves u h p z) (first m f) y =
          let end : half_end s.size s.next.block ≡ half_blocks s.size = rw f in
          let other : group_block s ≡ half_blocks s.size = p ∙ rw f in
          omega (arith, here.to, end, other, from y)
        where
          from : Next w → group_block s ≤ next_place w
          from (zeroing z t q r) = omega (arith, r)
          from (body z t m q r) = omega (arith, r)
          from (header z t q r) = omega (arith, r)
      go (moves u h p z) (second m f) y =
          let end : half_end s.size s.next.block ≡ s.size / 512 = rw f in
          let other : group_block s ≡ 0 = p ∙ rw f in
          omega (arith, here.from, end, halves.equal, below other y)
        where
          below : group_block s ≡ 0 → Next w → next_place w < half_blocks s.size
          below o (zeroing x t q r) = omega (arith, r, o, z)
          below o (body x t m q r) = omega (arith, r, o, few, halves.enough)
          below o (header x t q r) = omega (arith, r, o, halves.enough)

  step-apart : (k : ℕ) (b : List ℕ) (mid : Mid k b) → block_at (longer c n inv.saved s now k b mid) i ≡ block_at b i
  step-apart k b mid = other-kept c n inv.saved b (checkpoints.writing s k) mid.journal now mid.written i (elsewhere k)

  steps_apart : (m k : ℕ) → k + m ≡ before s → (b : List ℕ) → Mid k b
      → block_at (ends c (under_way k b) (replicate (suc m) (call step))).journal i ≡ block_at b i
  steps_apart zero k q b mid =
      ap (λ (u : World). block_at u.journal i)
      (ends-made c (under_way k b) (call step) [] _ (last_step c n inv.saved s now k b mid (omega arith)) ∙ ends_none c _)
      ∙ step-apart k b mid
  steps_apart (suc m) k q b mid =
      let more : k < before s = omega arith in
      let last = not_last c n inv.saved s now k b mid more in
      ap (λ (u : World). block_at u.journal i)
      (ends-made c (under_way k b) (call step) (replicate (suc m) (call step)) _ (made c n inv.saved s now k b mid false last))
      ∙ steps_apart m (suc k) (omega arith) (longer c n inv.saved s now k b mid) (midway-more c n inv.saved s now k b mid more)
      ∙ step-apart k b mid

  old-half-kept : block_at (ends c (world (idle s) a) (checkpoint worker s)).journal i ≡ block_at a i
  old-half-kept =
      let all : writes s ≡ suc (before s) = omega arith in
      rw all
      (ap (λ (u : World). block_at u.journal i)
      (ends-made c (world (idle s) a) (call (begin worker)) (replicate (suc (before s)) (call step)) _ (begin-step c n inv.saved s now worker may numbered a inv.journal))
      ∙ steps_apart (before s) 0 (omega arith) a (midway_none c n inv.saved s now worker may numbered a inv.journal))

switched : (c : Configuration) (n : ℕ) → Passed (start_table c n) → (l : Ledger) (p : Phase) (a : List ℕ) (s : State) (page : Page) → p ≡ idle s
    → HasNumber s → switches s ≡ true → l.book.page ≡ page → (v : ℕ) → May c v checkpointing → Inv c n l (world p a) → Switched c v (world p a) s page
switched c n accepted l p a s page e numbered t b v may =
    rw e (λ inv.
    let all : writes s ≡ suc (before s) = omega arith in
    record {
      old-half = old-half-kept c n l s a inv v may numbered t;
      state = restored c n (stored s);
      found = rw all (finished-gives c n accepted inv.saved s (is-ready inv.callable) v may numbered a inv.journal);
      finds = stored-found c n s page (rw (← b) inv.callable.agrees);
      next = refl;
      other_half = half-changes s inv.callable.valid t;
    })

pub after_switch : AfterSwitch
unfolding AfterSwitch
after_switch c n s items f e left here numbered t v may =
    let r = reached c n s items f e in
    let w = ends c (fresh_world s n) items in
    switched c n r.accepted r.ledger w.phase w.journal left _ here numbered t (ap (λ b. b.page) r.books) v may r.inv
