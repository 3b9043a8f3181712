-- The lists of Runs.antt among those of Unordered.antt; demand 3 again, from there; and that all that is pending after a list is blocks of
-- 512 bytes in the area. Assumes nothing.
use Prim.Native.Nat.{ℕ, ◌+◌}
use native.Mathlib.Omega.{arith}
use mathlib.Core.Path.{◌≡◌, refl, sym, ap, ◌∙◌}
use mathlib.Core.Bool.{true, false, ◌&&◌, ◌||◌}
use mathlib.Core.List.{List, [], ◌∷◌, ◌++◌}
use mathlib.Core.Option.{Option, none, some, none-ne-some}
use lib.ListN.{length}
use Rattle.types.specs.Refusal.{Result, refused, done}
use Rattle.types.specs.Table.{Passed}
use Rattle.types.proofs.Cases.{split}
use Rattle.journal.specs.Area.{block_at, write_at}
use Rattle.consumer.specs.State.{Configuration, State}
use Rattle.checkpoint.specs.Checkpoint as checkpoint
use Rattle.checkpoint.specs.Checkpoint.{Writing, is_last, next_place, next_block, left_by}
use Rattle.starts.specs.Restart.{start_table, origin}
use Rattle.starts.specs.Restart as restarts
use Rattle.machine.specs.Calls.{Ask, claim, ack, term, nack, progress, commit, look, ask, begin, step, restart, Event, stepped, failed}
use Rattle.machine.specs.Transitions.{Phase, idle, writing, off, After, gives, left_as, asked, began_as, restarted_as, transition}
use Rattle.power_cut.specs.Cut.{Cut, old, new, torn, is_torn, cut_at}
use Rattle.crash_safety.specs.Runs.{Item, call, step_on, cut, World, world, next, after, run, ends, fresh_world}
use Rattle.crash_safety.specs.Demand3.{restart_in, restarts_in, Demand3}
use Rattle.crash_safety.specs.Disk.{Write, write, Disk, disk, written, area, has_header, answers, survivors, first, later, Whole, BlockByBlock}
use Rattle.crash_safety.specs.Unordered.{DiskItem, does, steps_on, syncs, fails, on_disk, leads, leads_as, next_on, run_on, ends_on, fresh_disk, restart_on, restarts_on, Unordered}
use Rattle.crash_safety.specs.AsToday.{AsToday, FailsBlockByBlock}
use Rattle.crash_safety.proofs.Law.{Ledger, empty_ledger, noted, Law, folded}
use Rattle.crash_safety.proofs.Runs.{Made, Answered, run-made, ends-made, run-skipped, ends-skipped}
use Rattle.crash_safety.proofs.Items.{Shown, next_cases}
use Rattle.crash_safety.proofs.Restarts.{made, next-made}
use Rattle.crash_safety.proofs.Invariant.{is-ready, Inv}
use Rattle.crash_safety.proofs.Writes.{same_kept, inside, next-whole}
use Rattle.crash_safety.proofs.Steps.{same_length}
use Rattle.crash_safety.proofs.Kept.{item-kept}
use Rattle.crash_safety.proofs.Start.{begins_well}
use Rattle.crash_safety.proofs.Disk.{AllHarmless}
use Rattle.crash_safety.proofs.OnDisk.{at-end-on}
use Rattle.crash_safety.proofs.Unordered.{Finishing, Standing, InvOn, kept_on, unordered}
use Rattle.crash_safety.proofs.Failure.{block-by-block}

-- ## items that leave the area as it was
abbrev SameArea : List ℕ → Option After → Type 0
SameArea a none = Unit {0}
SameArea a (some t) = t.area ≡ a

abbrev Keeps : List ℕ → Item → Option After → Type 0
Keeps a (call (ask w q)) x = SameArea a x
Keeps a (call (begin w)) x = SameArea a x
Keeps a (call step) x = Unit {0}
Keeps a (call restart) x = SameArea a x
Keeps a (step_on b) x = SameArea a x
Keeps a (cut k) x = Unit {0}

asked-keeps : (s : State) (a : List ℕ) (w : ℕ) (q : Ask) → SameArea a (asked s a w q)
asked-keeps s a w (claim o now) = refl
asked-keeps s a w (ack o g) = refl
asked-keeps s a w (term o g) = refl
asked-keeps s a w (nack o g now d) = refl
asked-keeps s a w (progress o g now) = refl
asked-keeps s a w (commit b) = refl
asked-keeps s a w (look x) = refl

began-keeps : (s : State) (a : List ℕ) (r : Result Writing) → SameArea a (began_as s a r)
began-keeps s a (refused r) = refl
began-keeps s a (done w) = refl

restarted-keeps : (p : Phase) (a : List ℕ) (r : Result State) → SameArea a (restarted_as p a r)
restarted-keeps p a (refused r) = refl
restarted-keeps p a (done s) = refl

shown : (p : Phase) (a : List ℕ) → Shown (Keeps a) a p
shown (idle s) a = (λ w q t. asked-keeps s a w q, λ w. began-keeps s a (checkpoint.begin s w))
shown (writing w) a = (tt, λ b t. refl, λ k. tt)
shown off a = tt

skips : (a : List ℕ) (i : Item) → Keeps a i none
skips a (call (ask w q)) = tt
skips a (call (begin w)) = tt
skips a (call step) = tt
skips a (call restart) = tt
skips a (step_on b) = tt
skips a (cut k) = tt

module _ (c : Configuration) (p : Phase) (a : List ℕ) where
  keeps : (i : Item) → Keeps a i (next c (world p a) i)
  keeps i = next_cases c (Keeps a) (λ j e. skips a j) p a (restarted-keeps p a (restarts.restart c a)) (shown p a) i

  -- ## one item, as items on the disk: whatever comes behind them
  record Copied (i : Item) (t : After) : Type 0 where
    list : List DiskItem
    seen : (is : List DiskItem) → run_on c (on_disk p (disk a [])) (list ++ is) ≡ t.event ∷ run_on c (on_disk t.phase (disk t.area [])) is
    leaves : (is : List DiskItem) → ends_on c (on_disk p (disk a [])) (list ++ is) ≡ ends_on c (on_disk t.phase (disk t.area [])) is
    restarts : (is : List DiskItem) → restarts_on (list ++ is) ≡ restart_in i + restarts_on is

  -- by one item
  one : (i : Item) (j : DiskItem) (t : After) → restart_on j ≡ restart_in i
      → next_on c p (disk a []) j ≡ leads_as [] (disk a []) (next c (world p a) i)
      → next c (world p a) i ≡ some t → SameArea a (next c (world p a) i) → Copied i t
  unfolding run_on ends_on restarts_on
  one i j t n e made same =
      let there : t.area ≡ a = rw made at same in
      let is : next_on c p (disk a []) j ≡ leads (t.event ∷ []) t.phase (disk t.area []) = e ∙ rw (made, there) in
      record {
        list = j ∷ [];
        seen = λ rest. rw (is, run_on);
        leaves = λ rest. rw (is, ends_on);
        restarts = λ rest. rw n;
      }

  -- by two, of which the first is seen when the second is
  two : (i : Item) (j k : DiskItem) (t : After) (q : Phase) (d : Disk) → restart_on j + restart_on k ≡ restart_in i
      → next_on c p (disk a []) j ≡ leads [] q d → next_on c q d k ≡ leads (t.event ∷ []) t.phase (disk t.area []) → Copied i t
  unfolding run_on ends_on restarts_on
  two i j k t q d n e f =
      record {
        list = j ∷ k ∷ [];
        seen = λ rest. rw (e, run_on, f, run_on);
        leaves = λ rest. rw (e, ends_on, f, ends_on);
        restarts = λ rest. omega (arith, n);
      }

-- ## a step, and a power failure in it
module _ (c : Configuration) (n : ℕ) (l : Ledger) (w : Writing) (a : List ℕ) (inv : Inv c n l (world (writing w) a)) where
  abbrev at : ℕ
  at = next_place w

  abbrev longer : List ℕ
  longer = write_at a at (next_block w)

  -- the block is pending
  abbrev pended : Disk
  pended = disk a (write at (is_last w) (next_block w) ∷ [])

  reads-back : block_at longer at ≡ next_block w
  reads-back = same_kept c n inv.saved a w inv.journal (is-ready inv.callable.0) inv.callable.1

  pends : next_on c (writing w) (disk a []) (does step) ≡ leads [] (left_as (left_by w)) pended
  unfolding next_on checkpoint.step written
  pends =
      let free : (is_last w && false) ≡ false = split (is_last w) (λ t. rw t) (λ t. rw t) in
      rw (free, same_length c n l a w inv, reads-back)

  step-copied : (t : After) → next c (world (writing w) a) (call step) ≡ some t → Copied c (writing w) a (call step) t
  unfolding next transition checkpoint.step next_on written answers
  step-copied t e =
      let is : gives (stepped (done (record { block = at; last = is_last w }))) (left_as (left_by w)) longer ≡ some t = rw (same_length c n l a w inv) at e in
      let same : record { event = stepped (done (record { block = at; last = is_last w })); phase = left_as (left_by w); area = longer } ≡ t = cc in
      rw (← same) (two c (writing w) a (call step) (does step) syncs _ (left_as (left_by w)) pended refl pends refl)

  cut-gives : (k : Cut) (e : Event) (a' : List ℕ) → next_on c (left_as (left_by w)) pended (fails (k ∷ [])) ≡ leads (e ∷ []) off (disk a' [])
      → Copied c (writing w) a (cut k) (record { event = e; phase = off; area = a' })
  cut-gives k e a' f = two c (writing w) a (cut k) (does step) (fails (k ∷ [])) (record { event = e; phase = off; area = a' }) (left_as (left_by w)) pended refl pends f

  cut-at-copied : (k : Cut) (t : After) → cut_at w a k ≡ some t → Copied c (writing w) a (cut k) t
  unfolding next_on survivors written has_header
  cut-at-copied old t e =
      let same : record { event = failed false; phase = off; area = a } ≡ t = cc in
      rw (← same) (cut-gives old (failed false) a refl)
  cut-at-copied new t e =
      let same : record { event = failed (is_last w); phase = off; area = longer } ≡ t = cc in
      let or_false : (is_last w || false) ≡ is_last w = split (is_last w) (λ q. rw q) (λ q. rw q) in
      rw (← same) (cut-gives new (failed (is_last w)) longer (rw or_false))
  cut-at-copied (torn b) t e =
      split (is_torn b)
      (λ q.
      let is : gives (failed false) off (write_at a at b) ≡ some t = rw q at e in
      let same : record { event = failed false; phase = off; area = write_at a at b } ≡ t = cc in
      rw (← same) (cut-gives (torn b) (failed false) (write_at a at b) (rw q)))
      (λ q. absurd (none-ne-some t (rw q at e)))

-- ## every item
module _ (c : Configuration) (n : ℕ) (l : Ledger) where
  copied : (p : Phase) (a : List ℕ) (i : Item) (t : After) → Inv c n l (world p a) → next c (world p a) i ≡ some t → Copied c p a i t
  unfolding next next_on transition has_header written answers
  copied p a (call (ask w q)) t inv e = one c p a (call (ask w q)) (does (ask w q)) t refl refl e (keeps c p a (call (ask w q)))
  copied p a (call (begin w)) t inv e = one c p a (call (begin w)) (does (begin w)) t refl refl e (keeps c p a (call (begin w)))
  copied p a (call restart) t inv e = one c p a (call restart) (does restart) t refl refl e (keeps c p a (call restart))
  copied p a (step_on b) t inv e = one c p a (step_on b) (steps_on b) t refl refl e (keeps c p a (step_on b))
  copied (idle s) a (call step) t inv e = absurd (none-ne-some t e)
  copied (writing w) a (call step) t inv e = step-copied c n l w a inv t e
  copied off a (call step) t inv e = absurd (none-ne-some t e)
  copied (idle s) a (cut k) t inv e = absurd (none-ne-some t e)
  copied (writing w) a (cut k) t inv e = cut-at-copied c n l w a inv k t (rw (same_length c n l a w inv) at e)
  copied off a (cut k) t inv e = absurd (none-ne-some t e)

-- ## every list
record Alike (c : Configuration) (w : World) (items : List Item) : Type 0 where
  list : List DiskItem
  seen : run_on c (on_disk w.phase (disk w.journal [])) list ≡ run c w items
  leaves : ends_on c (on_disk w.phase (disk w.journal [])) list ≡ on_disk (ends c w items).phase (disk (ends c w items).journal [])
  restarts : restarts_on list ≡ restarts_in items

alike : (c : Configuration) (n : ℕ) → Passed (start_table c n) → (items : List Item) (l : Ledger) (w : World) → Inv c n l w → Alike c w items
unfolding run ends run_on ends_on restarts_on restarts_in
alike c n accepted [] l w inv = record { list = []; seen = refl; leaves = refl; restarts = refl }
alike c n accepted (i ∷ is) l w inv =
    go (next c w i) refl (item-kept c n accepted l w i inv) (alike c n accepted is l w inv) (λ m t. alike c n accepted is m (after t))
  where
    go : (x : Option After) → next c w i ≡ x → Answered noted (Law c.settings.policy) (Inv c n) l (next c w i) → Alike c w is
        → ((m : Ledger) (t : After) → Inv c n m (after t) → Alike c (after t) is) → Alike c w (i ∷ is)
    go none e m skip rest =
        record {
          list = skip.list;
          seen = skip.seen ∙ sym (run-skipped c w i is e);
          leaves = rw (ends-skipped c w i is e) skip.leaves;
          restarts = skip.restarts ∙ omega (arith, sym (ap made e) ∙ next-made c w i);
        }
    go (some t) e m skip rest =
        let k : Made noted (Law c.settings.policy) (Inv c n) l t = rw e at m in
        let r = rest (noted l t.event) t k.keeps in
        let d = copied c n l w.phase w.journal i t inv e in
        record {
          list = d.list ++ r.list;
          seen = d.seen r.list ∙ ap (λ es. t.event ∷ es) r.seen ∙ sym (run-made c w i is t e);
          leaves = d.leaves r.list ∙ rw (ends-made c w i is t e) r.leaves;
          restarts = d.restarts r.list ∙ ap (λ m. restart_in i + m) r.restarts;
        }

pub as_today : AsToday
unfolding AsToday
as_today c n s items f e =
    let b = begins_well c n s f e in
    let k = alike c n b.accepted items empty_ledger (fresh_world s n) b.inv in
    record { list = k.list; seen = k.seen; leaves = k.leaves; restarts = k.restarts }

-- demand 3, from the disk that keeps no order
pub demand_3_again : Demand3
unfolding Demand3 Unordered AsToday
demand_3_again c n s items f e =
    let k = as_today c n s items f e in
    let h = unordered c n s k.list f e in
    record {
      bound = λ p o. rw (← k.seen, ← k.restarts) (h.holds.bound p o);
      generations = λ g. rw (← k.seen) (h.holds.generations g);
      found = rw (← k.seen) h.holds.found;
    }

-- ## what is pending
harmless-whole : (n : ℕ) (a : List ℕ) (lo : ℕ) (v : _) (ws : List Write) → length a ≡ n → AllHarmless n lo v ws → Whole (disk a ws)
unfolding AllHarmless
harmless-whole n a lo v [] e h x m = elim m [ ]
harmless-whole n a lo v (w ∷ ws) e h x first = rw e (h.0.inside, h.0.whole)
harmless-whole n a lo v (w ∷ ws) e h x (later m) = harmless-whole n a lo v ws e h.1 x m

header-whole : (c : Configuration) (n : ℕ) (l : Ledger) (s : State) (a : List ℕ) (ws : List Write) → Finishing c n l s a ws → Whole (disk a ws)
header-whole c n l s a ws f = rw f.header (go f.record_of f.inv)
  where
    go : (w : Writing) → Inv c n l (world (writing w) a) → Whole (disk a (write (next_place w) true (next_block w) ∷ []))
    go w inv x first =
        rw inv.journal.size (inside c n inv.saved a w inv.journal (is-ready inv.callable.0) inv.callable.1, next-whole w)
    go w inv x (later m) = elim m [ ]

nothing-pending : (a : List ℕ) → Whole (disk a [])
nothing-pending a x m = elim m [ ]

pub standing-whole : (c : Configuration) (n : ℕ) (l : Ledger) (p : Phase) (a : List ℕ) (ws : List Write) → Standing c n l p a ws → Whole (disk a ws)
standing-whole c n l (idle s) a (k ∷ ks) f = header-whole c n l s a (k ∷ ks) f
standing-whole c n l (writing w) a ws u = harmless-whole n a (origin a).block u.saved ws u.journal.size u.harmless
standing-whole c n l off a (k ∷ ks) f = absurd f
standing-whole c n l (idle s) a [] f = nothing-pending a
standing-whole c n l off a [] f = nothing-pending a

pub fails-block-by-block : FailsBlockByBlock
unfolding FailsBlockByBlock BlockByBlock
fails-block-by-block c n s items f e =
    let b = begins_well c n s f e in
    let w = fresh_disk s n in
    let left = ends_on c w items in
    block-by-block left.disk
    (standing-whole c n (folded noted empty_ledger (run_on c w items)) left.phase left.disk.held left.disk.pending
    (at-end-on noted (Law c.settings.policy) (InvOn c n) c (kept_on c n b.accepted) items empty_ledger w b.inv))
