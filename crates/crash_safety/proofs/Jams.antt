-- A jam stays one: a claim in it is of an offset that has a count already, no ack is accepted, a checkpoint stores it, and a restart finds it
-- again. So where the journal has it too, nothing but a commit settles anything. Assumes nothing.
use Prim.Native.Nat.{ℕ, suc, ◌+◌, ◌≤◌}
use native.Mathlib.Omega.{arith}
use native.Mathlib.Decide.{ℕ_discrete}
use mathlib.Core.Path.{◌≡◌, refl, sym, ap, ◌∙◌}
use mathlib.Core.Bool.{Bool, true, false, cond, ◌&&◌, ◌||◌}
use mathlib.Core.List.{List, [], ◌∷◌, ◌++◌}
use mathlib.Core.Option.{Option, none, some, none-ne-some}
use lib.Dec.{eqb, leb}
use lib.ListN.{length}
use borrow.Author.Tests.{eqb-false, ne_eqb, le-leb, leb-true}
use Rattle.types.specs.Limits.{MAX, MAX32, CARRIED, RANGES}
use Rattle.types.specs.Refusal.{Result, refused, done}
use Rattle.types.specs.Table.{Answer, Passed}
use Rattle.types.specs.Keyed.{Entry, Rising, lookup, update}
use Rattle.types.proofs.Cases.{split, both}
use Rattle.types.proofs.Checked.{done_inj}
use Rattle.types.proofs.Keyed.{lookup-put-other, lookup-delete-same, lookup-delete-other, length-update}
use Rattle.cursor.specs.Cursor.{Cursor, fragments}
use Rattle.lease.specs.declared.Lease.{Lease}
use Rattle.lease.specs.Operations.{lease_of, consumed, extended, with_deadline, requeued_as}
use Rattle.journal.specs.Area.{write_at}
use Rattle.journal.proofs.Sound.{differ}
use Rattle.consumer.specs.State.{Configuration, State}
use Rattle.consumer.specs.Valid.{Fits, Valid}
use Rattle.consumer.specs.Rights.{checkpointing}
use Rattle.consumer.specs.Calls as consumer
use Rattle.consumer.specs.Calls.{HandOut, claimed, nack_deadline, nacked, progressed}
use Rattle.consumer.proofs.Open.{ClaimOpen, claim_cases, ack_cases, nack_cases, progress_cases}
use Rattle.consumer.proofs.Valid.{claimed-valid}
use Rattle.checkpoint.specs.Checkpoint as checkpoints
use Rattle.checkpoint.specs.Checkpoint.{flushed, Writing, is_last, next_place, next_block, going}
use Rattle.checkpoint.proofs.Open.{begin-says}
use Rattle.starts.specs.Restart.{start_table, start}
use Rattle.starts.specs.Restart as restarts
use Rattle.machine.specs.Calls.{Ask, claim, ack, term, nack, progress, commit, look, ask, fits, u64}
use Rattle.machine.specs.Transitions.{Phase, idle, writing, off, After, left_as, asked, began_as, stepped_as, restarted_as}
use Rattle.power_cut.specs.Cut.{Cut, old, new, torn, is_torn, cut_at, cut_on}
use Rattle.crash_safety.specs.Runs.{Item, call, World, world, next, keeps_journal, ends, fresh_world}
use Rattle.crash_safety.specs.Settled.{state_in}
use Rattle.crash_safety.specs.Workers.{May}
use Rattle.crash_safety.specs.Useful.{checkpoint}
use Rattle.crash_safety.specs.DeadEnds.{none_settled, is_jammed, commit_in, commits_in, JammedForGood}
use Rattle.crash_safety.proofs.Law.{Ledger, noted, Law}
use Rattle.crash_safety.proofs.Runs.{Made, Answered, ends-behind}
use Rattle.crash_safety.proofs.Items.{Shown, next_cases}
use Rattle.crash_safety.proofs.Invariant.{Saved, restored, Journal, is-ready, Inv}
use Rattle.crash_safety.proofs.Journals.{stored, restart-finds}
use Rattle.crash_safety.proofs.Writes.{more-journal, torn-journal, header-journal}
use Rattle.crash_safety.proofs.Steps.{same_length}
use Rattle.crash_safety.proofs.Kept.{item-kept}
use Rattle.crash_safety.proofs.Reached.{reached}
use Rattle.crash_safety.proofs.Checkpoints.{Finished, checkpoint-made}
use Rattle.crash_safety.proofs.Room.{Room, Some, none_at, some_at, none_is-free, grant-longer}
use Rattle.crash_safety.proofs.Room as room
use Rattle.crash_safety.proofs.DeadEnds.{acked-free, counts-length, none_stored}

-- ## the parts of a jam
pub record Parts (s : State) : Type 0 where
  pub leases : none_settled s.cursor s.table.leases ≡ true
  pub carried : none_settled s.cursor s.table.carried ≡ true
  pub many : CARRIED ≤ length s.table.leases + length s.table.carried

parts-of : (s : State) → is_jammed s ≡ true → Parts s
parts-of s e =
    let total : ℕ = length s.table.leases + length s.table.carried in
    let b = both (none_settled s.cursor s.table.leases && none_settled s.cursor s.table.carried) (leb CARRIED total) e in
    let d = both (none_settled s.cursor s.table.leases) (none_settled s.cursor s.table.carried) b.0 in
    record { leases = d.0; carried = d.1; many = leb-true CARRIED total b.1 }

of_parts : (s : State) → Parts s → is_jammed s ≡ true
of_parts s p = rw (p.leases, p.carried, le-leb CARRIED (length s.table.leases + length s.table.carried) p.many)

-- an offset that can't be settled
abbrev Stuck : Cursor → ℕ → Type 0
Stuck c k = (fragments c k RANGES || eqb k MAX) ≡ true

none_all : {A : Type 0} (c : Cursor) (l : List (Entry A)) → Rising 0 l → ((k : ℕ) (v : A) → lookup k l ≡ some v → Stuck c k) → none_settled c l ≡ true
none_all {A} c l r all =
    split (none_settled c l)
    (λ t. t)
    (λ t.
    let x : Some c l = some_at c 0 l r t in
    absurd (differ (all x.key x.value x.found) (rw (x.not_shed, ne_eqb x.key MAX x.not_last))))

none_updated : {A : Type 0} (c : Cursor) (o : ℕ) (f : A → A) (l : List (Entry A)) → none_settled c (update o f l) ≡ none_settled c l
none_updated c o f [] = refl
none_updated c o f (e ∷ l) =
    split (eqb o e.key)
    (λ t. rw t)
    (λ t. rw t (ap (λ (b : Bool). (fragments c e.key RANGES || eqb e.key MAX) && b) (none_updated c o f l)))

-- ## calls
-- the cursor is this one, and the state is jammed
abbrev Jam : Cursor → State → Type 0
Jam cur s = (s.cursor ≡ cur) × (is_jammed s ≡ true)

module _ (cur : Cursor) (s : State) (v : Valid s) (h : Jam cur s) where
  abbrev p : Parts s
  p = parts-of s h.1

  -- a claim is of an offset that has a lease or a count
  module _ (w o now : ℕ) (fits-it : o ≤ MAX) (passed : ClaimOpen s w o now) where
    own : Room s.table o
    own = record { leases = passed.lease-room; counts = passed.count_room }

    abbrev given : Lease
    given = room.new s.table w o now v.table.rising v.table.carried-rising own

    stuck : Stuck s.cursor o
    stuck = go (lease_of s.table o) refl (lookup o s.table.carried) refl
      where
        go : (x : Option Lease) → lease_of s.table o ≡ x → (y : Option ℕ) → lookup o s.table.carried ≡ y → Stuck s.cursor o
        go (some l) e y q = none_at s.cursor s.table.leases o l p.leases e
        go none e (some m) q = none_at s.cursor s.table.carried o m p.carried q
        go none e none q = absurd (omega (arith, passed.count_room e q, p.many))

    kept-count : (x : Option Lease) (k m : ℕ) → lookup k (consumed x o s.table.carried) ≡ some m → lookup k s.table.carried ≡ some m
    kept-count (some l) k m q = q
    kept-count none k m q =
        elim (ℕ_discrete k o) [
          | yes e ↦ absurd (none-ne-some m (sym (rw e (lookup-delete-same o s.table.carried)) ∙ q))
          | no e ↦ sym (lookup-delete-other k o s.table.carried (ne_eqb k o e)) ∙ q
        ]

    then : Valid (claimed s w o now)
    then = claimed-valid s w o now v passed fits-it

    claimed_jam : Jam cur (claimed s w o now)
    claimed_jam = (
      h.0,
      of_parts (claimed s w o now) (record {
        leases = none_all s.cursor (claimed s w o now).table.leases then.table.rising
            (λ k l q. elim (ℕ_discrete k o) [
              | yes e ↦ rw e stuck
              | no e ↦ none_at s.cursor s.table.leases k l p.leases (sym (lookup-put-other k o given s.table.leases (ne_eqb k o e)) ∙ q)
            ]);
        carried = none_all s.cursor (claimed s w o now).table.carried then.table.carried-rising
            (λ k m q. none_at s.cursor s.table.carried k m p.carried (kept-count (lease_of s.table o) k m q));
        many = omega (arith, p.many, (grant-longer s.table w o now v.table.rising v.table.carried-rising own).1);
      }),
    )

  claim_jam : (w o now : ℕ) → o ≤ MAX → Jam cur (consumer.claim s w o now).state
  claim_jam w o now m = claim_cases s w o now (λ (r : Answer HandOut State). Jam cur r.state) (λ r. h) (claimed_jam w o now m)

  ack_jam : (w o g : ℕ) → Jam cur (consumer.ack s w o g).state
  ack_jam w o g =
      ack_cases s w o g (λ (r : Answer (Unit {0}) State). Jam cur r.state) (λ r. h)
      (λ q. absurd (none_is-free s v (rw h.1) o (acked-free s v w o g q)))

  -- a lease changed in its place
  updated_jam : (t : State) → t.cursor ≡ s.cursor → (o : ℕ) (f : Lease → Lease) → t.table.leases ≡ update o f s.table.leases
      → t.table.carried ≡ s.table.carried → Jam cur t
  updated_jam t same o f leases carried = (
    same ∙ h.0,
    of_parts t (record {
      leases = rw (same, leases, none_updated s.cursor o f s.table.leases) p.leases;
      carried = rw (same, carried) p.carried;
      many = rw (leases, carried, length-update o f s.table.leases) p.many;
    }),
  )

  nack_jam : (w o g now : ℕ) (d : Option ℕ) → Jam cur (consumer.nack s w o g now d).state
  nack_jam w o g now d =
      nack_cases s w o g now d (λ (r : Answer ℕ State). Jam cur r.state) (λ r. h)
      (λ q. updated_jam (nacked s o (nack_deadline s o now d)) refl o (requeued_as s.table.next_generation (nack_deadline s o now d)) refl refl)

  progress_jam : (w o g now : ℕ) → Jam cur (consumer.progress s w o g now).state
  progress_jam w o g now =
      progress_cases s w o g now (λ (r : Answer ℕ State). Jam cur r.state) (λ r. h)
      (λ q. updated_jam (progressed s o (extended s.table o now)) refl o (with_deadline (extended s.table o now)) refl refl)

  -- what a checkpoint stores of it
  stored_jam : (c : Configuration) (n : ℕ) → Jam cur (restored c n (stored s))
  stored_jam c n = (
    h.0,
    of_parts (restored c n (stored s)) (record {
      leases = refl;
      carried = none_stored s v ∙ rw (p.leases, p.carried);
      many = omega (arith, counts-length s v, p.many);
    }),
  )

-- ## items
-- who can be called, and what a restart would make
module _ (c : Configuration) (n : ℕ) (cur : Cursor) where
  abbrev JamIn : Phase → Type 0
  JamIn (idle s) = Jam cur s
  JamIn (writing w) = Jam cur w.state
  JamIn off = Unit {0}

  abbrev JamOn : List ℕ → Type 0
  JamOn a = (r : State) → restarts.restart c a ≡ done r → Jam cur r

  abbrev JamAfter : Option After → Type 0
  JamAfter none = Unit {0}
  JamAfter (some t) = JamIn t.phase × JamOn t.area

  abbrev Stays : Item → Option After → Type 0
  Stays i x = commit_in i ≡ 0 → JamAfter x

  -- the journal holds this
  jam_on : (accepted : Passed (start_table c n)) (a : List ℕ) (v : Saved) → Journal c n a v → Jam cur (restored c n v) → JamOn a
  jam_on accepted a v j h r q =
      let same : restored c n v ≡ r = done_inj (sym (restart-finds c n a v accepted j) ∙ q) in
      rw (← same) h

  module _ (accepted : Passed (start_table c n)) (l : Ledger) where
    asked_jam : (s : State) (a : List ℕ) → Valid s → Jam cur s → JamOn a → (w : ℕ) (q : Ask) → fits q ≡ true → Stays (call (ask w q)) (asked s a w q)
    asked_jam s a v h on w (claim o now) t k = (claim_jam cur s v h w o now (leb-true o MAX (both (u64 o) (u64 now) t).0), on)
    asked_jam s a v h on w (ack o g) t k = (ack_jam cur s v h w o g, on)
    asked_jam s a v h on w (term o g) t k = (ack_jam cur s v h w o g, on)
    asked_jam s a v h on w (nack o g now d) t k = (nack_jam cur s v h w o g now d, on)
    asked_jam s a v h on w (progress o g now) t k = (progress_jam cur s v h w o g now, on)
    asked_jam s a v h on w (commit bound) t k = absurd (omega arith)
    asked_jam s a v h on w (look q) t k = (h, on)

    began_jam : (s : State) (a : List ℕ) (w : ℕ) → Jam cur s → JamOn a → (r : Result Writing) → checkpoints.begin s w ≡ r → JamAfter (began_as s a r)
    began_jam s a w h on (refused r) e = (h, on)
    began_jam s a w h on (done r) e = (rw (← (begin-says s w r e).1) h, on)

    restarted_jam : (p : Phase) (a : List ℕ) → Inv c n l (world p a) → JamOn a → JamAfter (restarted_as p a (restarts.restart c a))
    restarted_jam p a inv on =
        let found = restart-finds c n a inv.saved accepted inv.journal in
        rw found (on (restored c n inv.saved) found, on)

    module _ (w : Writing) (a : List ℕ) (inv : Inv c n l (world (writing w) a)) (h : Jam cur w.state) (on : JamOn a) where
      abbrev longer : List ℕ
      longer = write_at a (next_place w) (next_block w)

      held : Jam cur (restored c n inv.saved)
      held = on (restored c n inv.saved) (restart-finds c n a inv.saved accepted inv.journal)

      longer_jam : (last : Bool) → is_last w ≡ last → JamOn longer
      longer_jam false t =
          jam_on accepted longer inv.saved (more-journal c n inv.saved a w inv.journal (is-ready inv.callable.0) inv.callable.1 t) held
      longer_jam true t =
          jam_on accepted longer (stored w.state) (header-journal c n inv.saved a w inv.journal (is-ready inv.callable.0) inv.callable.1 t)
          (stored_jam cur w.state inv.callable.0.valid h c n)

      step_jam : JamAfter (stepped_as (checkpoints.step w a))
      unfolding checkpoints.step
      step_jam = rw (same_length c n l a w inv) (go (is_last w), longer_jam (is_last w) refl)
        where
          go : (last : Bool) → JamIn (left_as (cond last (checkpoints.finished (flushed w.state)) (going (checkpoints.writing w.state (suc w.written)))))
          go true = h
          go false = h

      elsewhere_jam : (b : List ℕ) → eqb (length b) (length a) ≡ false → JamAfter (keeps_journal a (stepped_as (checkpoints.step w b)))
      unfolding checkpoints.step
      elsewhere_jam b e =
          rw (ne_eqb (length b) w.state.size (λ q. eqb-false (length b) (length a) e (q ∙ inv.callable.0.size ∙ sym inv.journal.size))) (h, on)

      cut_jam : (k : Cut) → JamAfter (cut_on w a k)
      cut_jam k = rw (same_length c n l a w inv) (go k)
        where
          go : (k : Cut) → JamAfter (cut_at w a k)
          go old = (tt, on)
          go new = (tt, longer_jam (is_last w) refl)
          go (torn b) =
              split (is_torn b)
              (λ t. rw t (
                tt,
                jam_on accepted (write_at a (next_place w) b) inv.saved
                    (torn-journal c n inv.saved a w inv.journal (is-ready inv.callable.0) inv.callable.1 b t) held,
              ))
              (λ t. rw t tt)

    shown : (p : Phase) (a : List ℕ) → Inv c n l (world p a) → JamIn p → JamOn a → Shown Stays a p
    shown (idle s) a inv h on = (asked_jam s a inv.callable.valid h on, λ w k. began_jam s a w h on (checkpoints.begin s w) refl)
    shown (writing w) a inv h on = (λ k. step_jam w a inv h on, λ b t k. elsewhere_jam w a inv h on b t, λ x k. cut_jam w a inv h on x)
    shown off a inv h on = tt

    item_jam : (w : World) (i : Item) → Inv c n l w → JamIn w.phase → JamOn w.journal → Stays i (next c w i)
    item_jam w i inv h on =
        next_cases c Stays (λ j q k. tt) w.phase w.journal (λ k. restarted_jam w.phase w.journal inv on)
        (shown w.phase w.journal inv h on) i

  jammed_on : (accepted : Passed (start_table c n)) (more : List Item) (l : Ledger) (w : World) → Inv c n l w → JamIn w.phase → JamOn w.journal
      → commits_in more ≡ 0 → JamIn (ends c w more).phase
  unfolding ends commits_in
  jammed_on accepted [] l w inv h on k = h
  jammed_on accepted (i ∷ is) l w inv h on k =
      go (next c w i) refl (item-kept c n accepted l w i inv) (item_jam accepted l w i inv h on (omega arith))
      (jammed_on accepted is l w inv h on (omega arith))
      (λ m t i h on. jammed_on accepted is m (world t.phase t.area) i h on (omega arith))
    where
      go : (x : Option After) → next c w i ≡ x → Answered noted (Law c.settings.policy) (Inv c n) l (next c w i) → JamAfter (next c w i)
          → JamIn (ends c w is).phase
          → ((m : Ledger) (t : After) → Inv c n m (world t.phase t.area) → JamIn t.phase → JamOn t.area → JamIn (ends c (world t.phase t.area) is).phase)
          → JamIn (ends c w (i ∷ is)).phase
      go none e kept jam skip rest = rw (e, ends) skip
      go (some t) e kept jam skip rest =
          let made : Made noted (Law c.settings.policy) (Inv c n) l t = rw e at kept in
          let here : JamAfter (some t) = rw e at jam in
          rw (e, ends) (rest (noted l t.event) t made.keeps here.0 here.1)

-- ## after the checkpoint that stores it
module _ (c : Configuration) (n : ℕ) (s₀ : State) (items : List Item) (f : Fits c.settings) (e : start c n ≡ done s₀) (s : State)
    (here : (ends c (fresh_world s₀ n) items).phase ≡ idle s)
    (numbered : s.next.number ≤ MAX32)
    (jam : is_jammed s ≡ true)
    (v : ℕ)
    (may : May c v checkpointing) where
  abbrev before : World
  before = ends c (fresh_world s₀ n) items

  same-world : before ≡ world (idle s) before.journal
  same-world = ap (λ (q : Phase). world q before.journal) here

  inv : Inv c n (reached c n s₀ items f e).ledger (world (idle s) before.journal)
  inv = rw (← same-world) (reached c n s₀ items f e).inv

  there : Finished c n inv.saved s (is-ready inv.callable) v may numbered before.journal inv.journal
  there = checkpoint-made c n inv.saved s (is-ready inv.callable) v may numbered before.journal inv.journal

  abbrev after-it : World
  after-it = world (idle (flushed s)) there.area

  leads-there : ends c (fresh_world s₀ n) (items ++ checkpoint v s) ≡ after-it
  leads-there =
      ends-behind c items (checkpoint v s) (fresh_world s₀ n) ∙ ap (λ (w : World). ends c w (checkpoint v s)) same-world ∙ there.leaves

  inv-there : Inv c n (reached c n s₀ (items ++ checkpoint v s) f e).ledger after-it
  inv-there = rw (← leads-there) (reached c n s₀ (items ++ checkpoint v s) f e).inv

  stays_jammed : (more : List Item) → commits_in more ≡ 0 → JamIn c n s.cursor (ends c before (checkpoint v s ++ more)).phase
  stays_jammed more k =
      let accepted = (reached c n s₀ items f e).accepted in
      let moved : ends c before (checkpoint v s ++ more) ≡ ends c after-it more =
      ends-behind c (checkpoint v s) more before
      ∙ ap (λ (w : World). ends c w more) (ap (λ (w : World). ends c w (checkpoint v s)) same-world ∙ there.leaves) in
      rw moved
      (jammed_on c n s.cursor accepted more (reached c n s₀ (items ++ checkpoint v s) f e).ledger after-it inv-there (refl, jam)
      (jam_on c n s.cursor accepted there.area (stored s) there.holds (stored_jam s.cursor s inv.callable.valid (refl, jam) c n))
      k)

pub jammed_for_good : JammedForGood
unfolding JammedForGood
jammed_for_good c n s items f e left here numbered jam v may more k then q =
    at_last (ends c (ends c (fresh_world s n) items) (checkpoint v left ++ more)).phase q (stays_jammed c n s items f e left here numbered jam v may more k)
  where
    at_last : (p : Phase) → state_in p ≡ some then → JamIn c n left.cursor p → then.cursor ≡ left.cursor
    at_last (idle x) q h = let same : x ≡ then = cc in rw (← same) h.0
    at_last (writing x) q h = let same : x.state ≡ then = cc in rw (← same) h.0
    at_last off q h = absurd (none-ne-some then q)
