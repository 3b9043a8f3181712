-- An import's first checkpoint is made and leaves a world within the invariant, with a book that begins with what the two snapshots have and a
-- floor at the first generation; so all that holds of such worlds holds from there. Assumes nothing.
use Prim.Native.Nat.{ℕ, suc, ◌<◌}
use native.Mathlib.Omega.{arith}
use mathlib.Core.Path.{◌≡◌, refl, ap, ◌∙◌, sym}
use mathlib.Core.Bool.{Bool, true, false, cond, ◌||◌}
use mathlib.Core.List.{List, [], ◌∷◌}
use mathlib.Core.Option.{Option, none, some, none-ne-some}
use lib.Dec.{eqb}
use lib.ListN.{replicate}
use borrow.Author.Tests.{eqb-true}
use Rattle.types.specs.Refusal.{Result, refused, done}
use Rattle.types.specs.Table.{Passed}
use Rattle.types.specs.Keyed.{Entry, lookup, Rising}
use Rattle.types.proofs.Cases.{split}
use Rattle.types.proofs.Checked.{refused_not_done, done_inj, checked-says}
use Rattle.types.proofs.Keyed.{lookup-under}
use Rattle.cursor.specs.Cursor.{Cursor, settled}
use Rattle.cursor.specs.Snapshot.{decode_cursor}
use Rattle.attempt.specs.Snapshot.{decode_attempts}
use Rattle.attempt.proofs.Snapshot.{decoded-rising}
use Rattle.lease.specs.Counts.{all_attempt_counts}
use Rattle.consumer.specs.State.{Configuration, State, count_or0, next_group_at}
use Rattle.checkpoint.specs.Checkpoint.{flushed}
use Rattle.checkpoint.proofs.Valid.{flushed-valid}
use Rattle.starts.specs.Restart.{start_table, is_dropped, unsettled_counts, from_snapshots}
use Rattle.starts.specs.Import.{import}
use Rattle.starts.proofs.Open.{start_open}
use Rattle.starts.proofs.Valid.{fresh-valid, import-valid}
use Rattle.machine.specs.Calls.{ask, Event}
use Rattle.machine.specs.Transitions.{idle}
use Rattle.crash_safety.specs.Runs.{Item, World, world, ends}
use Rattle.crash_safety.specs.Book.{Page}
use Rattle.crash_safety.specs.Recovery.{HasNumber}
use Rattle.crash_safety.specs.Workers.{refusal_of}
use Rattle.crash_safety.specs.Disk.{disk}
use Rattle.crash_safety.specs.Unordered.{DiskItem, on_disk, run_on, ends_on}
use Rattle.crash_safety.specs.Commits.{FencedAfter}
use Rattle.crash_safety.specs.From.{HoldsFrom}
use Rattle.crash_safety.specs.Import.{page_read, snapshots_page, Imported, moved_in, moved_onto, HoldsMoved, FencedOn, ImportFound, ImportHolds, ImportOnDisk, ImportReopened, ImportReconfigured, ImportFailedSyncs, NoOldToken, NoOldTokenOnDisk}
use Rattle.crash_safety.proofs.Law.{Ledger, noted, Law, folded}
use Rattle.crash_safety.proofs.Invariant.{Agrees, Ready, Inv}
use Rattle.crash_safety.proofs.Journals.{restart-finds, stored}
use Rattle.crash_safety.proofs.Steps.{stored-found, flushed-agrees}
use Rattle.crash_safety.proofs.Start.{nothing, zeroed-journal}
use Rattle.crash_safety.proofs.Tokens.{leases_of}
use Rattle.crash_safety.proofs.Checkpoints.{Finished, checkpoint-made}
use Rattle.crash_safety.proofs.OnDisk.{at-end-on}
use Rattle.crash_safety.proofs.Unordered.{InvOn, kept_on}
use Rattle.crash_safety.proofs.InOrder.{all, likewise}
use Rattle.crash_safety.proofs.Commits.{Gone, fenced-after}
use Rattle.crash_safety.proofs.From.{ledger_from, holds-all, holds-all-on}
use Rattle.crash_safety.proofs.Reconfigured.{reopened, holds-each}
use Rattle.crash_safety.proofs.FailedSyncs.{tries_after}

-- ## what is carried
-- the count of an offset, among those that are neither zero nor of a settled offset
module _ (k : Cursor) (o : ℕ) where
  still_none : (l : List (Entry ℕ)) → lookup o l ≡ none → lookup o (unsettled_counts k l) ≡ none
  still_none [] h = refl
  still_none (e ∷ l) h =
      split (eqb o e.key)
      (λ q. absurd (none-ne-some e.value (sym (rw q at h))))
      (λ q. split (is_dropped k e) (λ t. rw t (still_none l (rw q at h))) (λ t. rw (t, q) (still_none l (rw q at h))))

  -- what becomes of a first entry of that offset
  first_count : (v : ℕ) (dropped : Bool) → (eqb v 0 || settled k o) ≡ dropped → (rest : Option ℕ) → rest ≡ none
      → count_or0 (cond dropped rest (some v)) ≡ cond (settled k o) 0 v
  first_count v dropped e rest h =
      split (settled k o)
      (λ t. split (eqb v 0)
      (λ z. let d : dropped ≡ true = sym (rw z at e) in rw (d, t, h))
      (λ z. let d : dropped ≡ true = sym (rw (z, t) at e) in rw (d, t, h)))
      (λ t. split (eqb v 0)
      (λ z. let d : dropped ≡ true = sym (rw z at e) in rw (d, t, h, eqb-true v 0 z))
      (λ z. let d : dropped ≡ false = sym (rw (z, t) at e) in rw (d, t)))

  count-read : (lo : ℕ) (l : List (Entry ℕ)) → Rising lo l
      → count_or0 (lookup o (unsettled_counts k l)) ≡ cond (settled k o) 0 (count_or0 (lookup o l))
  count-read lo [] r = split (settled k o) (λ t. rw t) (λ t. rw t)
  count-read lo (e ∷ l) r =
      split (eqb o e.key)
      (λ q.
      let same : o ≡ e.key = eqb-true o e.key q in
      let rest : lookup o (unsettled_counts k l) ≡ none = still_none l (lookup-under (suc e.key) o l r.1 (omega arith)) in
      let mine : is_dropped k e ≡ (eqb e.value 0 || settled k o) = rw same in
      rw q (step mine rest q))
      (λ q. split (is_dropped k e)
      (λ t. rw (t, q) (count-read (suc e.key) l r.1))
      (λ t. rw (t, q) (count-read (suc e.key) l r.1)))
    where
      step : is_dropped k e ≡ (eqb e.value 0 || settled k o) → lookup o (unsettled_counts k l) ≡ none → eqb o e.key ≡ true
          → count_or0 (lookup o (unsettled_counts k (e ∷ l))) ≡ cond (settled k o) 0 e.value
      step mine rest q =
          split (is_dropped k e)
          (λ t. rw t (first_count e.value true (sym mine ∙ t) (lookup o (unsettled_counts k l)) rest))
          (λ t. rw (t, q) (first_count e.value false (sym mine ∙ t) (lookup o (unsettled_counts k l)) rest))

-- ## the state
record Taken (c : Configuration) (n first : ℕ) (p : Page) (s : State) : Type 0 where
  agrees : Agrees p s
  size : s.size ≡ n
  settings : s.settings ≡ c.settings
  next : s.next ≡ next_group_at 1 0
  generation : s.table.next_generation ≡ first
  leases : s.table.leases ≡ []

taken : (c : Configuration) (n first : ℕ) (s : State) (x : Result Cursor) (y : Result (List (Entry ℕ))) → ((l : List (Entry ℕ)) → y ≡ done l → Rising 0 l)
    → from_snapshots c n x y first (next_group_at 1 0) ≡ done s → Taken c n first (page_read x y) s
unfolding all_attempt_counts
taken c n first s (refused r) y rising e = refused_not_done e
taken c n first s (done k) (refused r) rising e = refused_not_done e
taken c n first s (done k) (done l) rising e =
    rw (← done_inj e)
    (record {
      agrees = record { settles = λ o. refl; counts = λ o. count-read k o 0 l (rising l refl) };
      size = refl;
      settings = refl;
      next = refl;
      generation = refl;
      leases = refl;
    })

-- an import's settings are the configuration's
pub import-settings : (c : Configuration) (n first : ℕ) (cursor attempts : List ℕ) (s : State) → import c n first cursor attempts ≡ done s
    → s.settings ≡ c.settings
unfolding import
import-settings c n first cursor attempts s e =
    (taken c n first s (decode_cursor cursor) (decode_attempts attempts) (λ l q. decoded-rising attempts l q)
    (checked-says (start_table c n) (from_snapshots c n (decode_cursor cursor) (decode_attempts attempts) first (next_group_at 1 0)) s e).1).settings

-- ## tokens on the disk
-- one that no lease has, by the list in order that answers the same
pub fenced-on : (c : Configuration) (n : ℕ) → Passed (start_table c n) → (l : Ledger) (s : State) (a : List ℕ) (o g : ℕ) → Inv c n l (world (idle s) a)
    → Gone o g l.floor s.table.leases → (items : List DiskItem) → FencedOn c (on_disk (idle s) (disk a [])) items o g
fenced-on c n accepted l s a o g inv gone items x q token e p d asks =
    let w = world (idle s) a in
    let b = on_disk (idle s) (disk a []) in
    let left = ends_on c b items in
    let k = all c n accepted items l b w inv (record { phase = refl; led = l; inv = inv; same = refl }) in
    let there = at-end-on noted (Law c.settings.policy) (InvOn c n) c (kept_on c n accepted) items l b inv in
    let same = (likewise c n accepted (ask x q) refl (folded noted l (run_on c b items)) left.phase left.disk.held left.disk.pending there
    (ends c w k.list) k.matches e p d asks).answered in
    ap refusal_of (sym same.event) ∙ fenced-after c n accepted l w o g inv gone k.list x q token same.after same.made

-- ## the first checkpoint
module _ (c : Configuration) (n first : ℕ) (cursor attempts : List ℕ) (s : State) (v : ℕ) (m : Imported c n first cursor attempts s v) where
  abbrev page : Page
  page = snapshots_page cursor attempts

  says : Passed (start_table c n) × (from_snapshots c n (decode_cursor cursor) (decode_attempts attempts) first (next_group_at 1 0) ≡ done s)
  unfolding import
  says = checked-says (start_table c n) (from_snapshots c n (decode_cursor cursor) (decode_attempts attempts) first (next_group_at 1 0)) s m.answered

  pub accepted : Passed (start_table c n)
  accepted = says.0

  is : Taken c n first page s
  is = taken c n first s (decode_cursor cursor) (decode_attempts attempts) (λ l e. decoded-rising attempts l e) says.1

  numbered : HasNumber s
  numbered = let e = ap (λ x. x.number) is.next in omega arith

  ready : Ready c n nothing s
  ready =
      record {
        valid = import-valid c n first cursor attempts s m.generation m.cursor-bytes m.attempt_bytes_lem m.answered m.settings;
        size = is.size;
        settings = is.settings;
        next = is.next;
      }

  abbrev Made : Type 0
  Made = Finished c n nothing s ready v m.may numbered (replicate n 0) (zeroed-journal c n (fresh-valid c n (start_open c n accepted) m.settings))

  made : Made
  made =
      checkpoint-made c n nothing s ready v m.may numbered (replicate n 0) (zeroed-journal c n (fresh-valid c n (start_open c n accepted) m.settings))

  inv : Inv c n (ledger_from page first) (world (idle (flushed s)) made.area)
  inv =
      record {
        saved = stored s;
        journal = made.holds;
        finds = stored-found c n s page is.agrees;
        callable = record {
          valid = flushed-valid s numbered ready.valid;
          size = is.size;
          settings = is.settings;
          ceiling = refl;
          next = refl;
          agrees = flushed-agrees s page is.agrees;
          redeliveries = refl;
          floor = let e = is.generation in omega arith;
        };
      }

  pub moved : Inv c n (ledger_from page first) (moved_in c n s v)
  moved = rw made.leaves inv

  pub moved_onto_lem : InvOn c n (ledger_from page first) (moved_onto c n s v)
  moved_onto_lem = rw made.leaves inv

  -- no lease is out, so that what was there before is fenced
  pub none_out : leases_of (moved_in c n s v).phase ≡ []
  none_out = rw made.leaves is.leases

  old-gone : (o g : ℕ) → g < first → Gone o g first (flushed s).table.leases
  old-gone o g low = record { below = low; own = λ l e z. none-ne-some l (rw is.leases at e) }

  old-fenced : (o g : ℕ) → g < first → (items : List Item) → FencedAfter c (world (idle (flushed s)) made.area) items o g
  old-fenced o g low items = fenced-after c n accepted (ledger_from page first) (world (idle (flushed s)) made.area) o g inv (old-gone o g low) items

  old-fenced-on : (o g : ℕ) → g < first → (items : List DiskItem) → FencedOn c (on_disk (idle (flushed s)) (disk made.area [])) items o g
  old-fenced-on o g low items = fenced-on c n accepted (ledger_from page first) (flushed s) made.area o g inv (old-gone o g low) items

-- ## every import
pub import-found : ImportFound
unfolding ImportFound
import-found c n first cursor attempts s v m =
    let p = snapshots_page cursor attempts in
    let k = made c n first cursor attempts s v m in
    let agrees = (is c n first cursor attempts s v m).agrees in
    record {
      wrote = k.wrote;
      goes_on = ap (λ (w : World). w.phase) k.leaves;
      agrees = flushed-agrees s p agrees;
      found = rw (k.leaves, restart-finds c n k.area (stored s) (accepted c n first cursor attempts s v m) k.holds) (stored-found c n s p agrees);
    }

-- M − k, where k deliveries up to M were counted before
pub holds-moved : (c : Configuration) (p : Page) (first restarts : ℕ) (es : List Event) (left : Option State) → HoldsFrom c p first restarts es left
    → HoldsMoved c p first restarts es left
holds-moved c p first restarts es left h = record { holds = h; delivered = λ q o. omega (arith, (h.counts q).bound o) }

pub import-holds : ImportHolds
unfolding ImportHolds
import-holds c n first cursor attempts s v items m =
    holds-moved c _ first _ _ _
    (holds-all c n m.settings (accepted c n first cursor attempts s v m) (snapshots_page cursor attempts) first (moved_in c n s v) items
    (moved c n first cursor attempts s v m))

pub import-on-disk : ImportOnDisk
unfolding ImportOnDisk
import-on-disk c n first cursor attempts s v items m =
    holds-moved c _ first _ _ _
    (holds-all-on c n m.settings (accepted c n first cursor attempts s v m) (snapshots_page cursor attempts) first (moved_onto c n s v) items
    (moved_onto_lem c n first cursor attempts s v m))

pub import-reopened : ImportReopened
unfolding ImportReopened
import-reopened c n first cursor attempts s v m d r ok e =
    let a : List ℕ = (moved_in c n s v).journal in
    let there = accepted c n first cursor attempts s v m in
    let k = reopened c d n there ok (snapshots_page cursor attempts) first (moved_in c n s v).phase a r (moved c n first cursor attempts s v m) e in
    record {
      holds = λ items. holds-moved d _ first _ _ _ (holds-all d n ok.fits k.accepted (snapshots_page cursor attempts) first (world (idle r) a) items k.inv);
      fenced = λ items o g low. fenced-after d n k.accepted (ledger_from (snapshots_page cursor attempts) first) (world (idle r) a) o g k.inv
          (record { below = low; own = λ l q z. none-ne-some l (rw k.leases at q) }) items;
    }

pub import-reconfigured : ImportReconfigured
unfolding ImportReconfigured
import-reconfigured c n first cursor attempts s v hs m ok =
    holds-each c n m.settings (accepted c n first cursor attempts s v m) (snapshots_page cursor attempts) first (moved_onto c n s v) hs ok
    (moved_onto_lem c n first cursor attempts s v m)

pub import-failed-syncs : ImportFailedSyncs
unfolding ImportFailedSyncs
import-failed-syncs c n first cursor attempts s v items m a t =
    tries_after c n (accepted c n first cursor attempts s v m) (ledger_from (snapshots_page cursor attempts) first) (moved_onto c n s v)
    (moved_onto_lem c n first cursor attempts s v m) items a t

pub no-old-token : NoOldToken
unfolding NoOldToken
no-old-token c n first cursor attempts s v items m o g low =
    rw (made c n first cursor attempts s v m).leaves (old-fenced c n first cursor attempts s v m o g low items)

pub no-old-token-on-disk : NoOldTokenOnDisk
unfolding NoOldTokenOnDisk
no-old-token-on-disk c n first cursor attempts s v items m o g low =
    rw (made c n first cursor attempts s v m).leaves (old-fenced-on c n first cursor attempts s v m o g low items)
