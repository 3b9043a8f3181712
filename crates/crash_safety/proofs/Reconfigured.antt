-- Each restart with a configuration of its own: no other item looks at one, and what the journal holds is the same under each that a restart
-- accepts. So a list goes on within the invariant under the configuration of its last restart, and the law is obeyed under one of them. Assumes
-- nothing.
use Prim.Native.Nat.{ℕ, ◌+◌, ◌≤◌, ◌<◌}
use native.Mathlib.Omega.{arith}
use mathlib.Core.Path.{◌≡◌, refl, sym, ap, ◌∙◌}
use mathlib.Core.List.{List, [], ◌∷◌, ◌++◌}
use mathlib.Core.Option.{Option, none, some}
use lib.ListN.{length, take, drop}
use Rattle.types.specs.Refusal.{Result, refused, done, BadArea}
use Rattle.types.specs.Table.{◌⇒◌, Passed}
use Rattle.types.specs.Keyed.{Entry}
use Rattle.types.specs.Limits.{MAX32}
use Rattle.types.proofs.Cases.{split}
use Rattle.types.proofs.Checked.{refused_not_done, done_inj}
use Rattle.types.proofs.Table.{passed-append, append-passed}
use Rattle.cursor.specs.Cursor.{Cursor, resume}
use Rattle.cursor.specs.Snapshot.{decode_cursor}
use Rattle.attempt.specs.Snapshot.{decode_attempts}
use Rattle.journal.specs.Area.{block_at}
use Rattle.journal.specs.Blocks.{cursor_length, attempt_length, ceiling_of}
use Rattle.journal.specs.Walks.{payload}
use Rattle.consumer.specs.State.{Configuration, State, NextGroup, next_group_at, bad_area}
use Rattle.consumer.specs.Valid.{Fits, Valid}
use Rattle.starts.specs.Restart.{settings_table, start_table, resumed, unsettled_counts, from_snapshots, last_group}
use Rattle.starts.specs.Restart as restarts
use Rattle.starts.proofs.Open.{StartOpen, start_open}
use Rattle.machine.specs.Calls.{ask, begin, step, restart, Event, restarted}
use Rattle.machine.specs.Transitions.{Phase, idle, off, transition}
use Rattle.crash_safety.specs.Effects.{effect_of}
use Rattle.crash_safety.specs.Runs.{world}
use Rattle.crash_safety.specs.Book.{Page}
use Rattle.crash_safety.specs.From.{page_of}
use Rattle.crash_safety.specs.Demand3.{limit_of, threshold_of, Limited, restarts_seen}
use Rattle.crash_safety.specs.Settled.{state_in}
use Rattle.crash_safety.specs.Disk.{Write, Disk, disk, written, answers}
use Rattle.crash_safety.specs.Unordered.{DiskItem, does, steps_on, syncs, fails, OnDisk, on_disk, Then, next_on, restart_on}
use Rattle.crash_safety.specs.Reconfigured.{Handed, run_each, ends_each, restarts_each, Each, Accepted, largest, HoldsEach, Reconfigured}
use Rattle.crash_safety.proofs.Law.{Ledger, noted, Law, least-handed, Along, folded, found_right}
use Rattle.crash_safety.proofs.Runs.{Made}
use Rattle.crash_safety.proofs.Generations.{once-each}
use Rattle.crash_safety.proofs.Bound.{HandsFew, few-handed}
use Rattle.crash_safety.proofs.Invariant.{Saved, restored, Inv}
use Rattle.crash_safety.proofs.Journals.{restart-finds}
use Rattle.crash_safety.proofs.Steps.{below-ceiling, restart-kept}
use Rattle.crash_safety.proofs.Demand3.{limits}
use Rattle.crash_safety.proofs.OnDisk.{folded-append, along-append, MadeOn, AnsweredOn}
use Rattle.crash_safety.proofs.Unordered.{InvOn, sync-kept, behind, kept_on, seen_in, seen-append, item-seen}
use Rattle.crash_safety.proofs.ForGood.{of_open, agrees_on}
use Rattle.crash_safety.proofs.From.{ledger_from, begins-from, ceiling-on, keeps-from, counts-from}

-- ## only a restart looks at the configuration
pub only-restarts-look : (c c' : Configuration) (p : Phase) (d : Disk) (i : DiskItem) → restart_on i ≡ 0 → next_on c p d i ≡ next_on c' p d i
unfolding next_on transition
only-restarts-look c c' p d (does (ask w q)) z = refl
only-restarts-look c c' p d (does (begin w)) z = refl
only-restarts-look c c' p d (does step) z = refl
only-restarts-look c c' p d (does restart) z = absurd (omega arith)
only-restarts-look c c' p d (steps_on b) z = refl
only-restarts-look c c' p d syncs z = refl
only-restarts-look c c' p d (fails ks) z = refl

-- ## the same journal
module _ (c c' : Configuration) (n : ℕ) where
  resumed-same : (size : ℕ) (k : Cursor) (counts : List (Entry ℕ)) (ceiling : ℕ) (next : NextGroup) (v : Saved)
      → resumed c size k counts ceiling next ≡ restored c n v → resumed c' size k counts ceiling next ≡ restored c' n v
  resumed-same size k counts ceiling next v e =
      let cursors : k ≡ v.cursor = ap (λ (s : State). s.cursor) e in
      let counted : counts ≡ v.counts = ap (λ (s : State). s.table.carried) e in
      let ceilings : ceiling ≡ v.ceiling = ap (λ (s : State). s.ceiling) e in
      let nexts : next ≡ v.next = ap (λ (s : State). s.next) e in
      let sizes : size ≡ n = ap (λ (s : State). s.size) e in
      rw (cursors, counted, ceilings, nexts, sizes)

  snapshots-same : (size : ℕ) (x : Result Cursor) (y : Result (List (Entry ℕ))) (ceiling : ℕ) (next : NextGroup) (v : Saved)
      → from_snapshots c size x y ceiling next ≡ done (restored c n v) → from_snapshots c' size x y ceiling next ≡ done (restored c' n v)
  snapshots-same size (refused r) y ceiling next v e = refused_not_done e
  snapshots-same size (done k) (refused r) ceiling next v e = refused_not_done e
  snapshots-same size (done k) (done l) ceiling next v e = ap done (resumed-same size k (unsettled_counts k l) ceiling next v (done_inj e))

  group-same : (a : List ℕ) (last : Option ℕ) (next : NextGroup) (v : Saved) → last_group c a last next ≡ done (restored c n v)
      → last_group c' a last next ≡ done (restored c' n v)
  group-same a none next v e = ap done (resumed-same (length a) (resume 0) [] 0 (next_group_at 1 0) v (done_inj e))
  group-same a (some i) next v e =
      let b : List ℕ = block_at a i in
      let p : List ℕ = payload a i in
      snapshots-same (length a) (decode_cursor (take (cursor_length b) p)) (decode_attempts (take (attempt_length b) (drop (cursor_length b) p)))
      (ceiling_of b) next v e

  module _ (fits : Fits c'.settings) (opened : StartOpen c' n) where
    valid_same : (v : Saved) → Valid (restored c n v) → Valid (restored c' n v)
    valid_same v k =
        record {
          cursor = k.cursor;
          table = record {
            rising = k.table.rising;
            few = k.table.few;
            counted = k.table.counted;
            carried-rising = k.table.carried-rising;
            carried-few = k.table.carried-few;
            carried-counted = k.table.carried-counted;
            generation-fits = k.table.generation-fits;
          };
          together = k.together;
          leased = k.leased;
          carried = k.carried;
          under-ceiling = k.under-ceiling;
          ceiling-fits = k.ceiling-fits;
          counter = omega arith;
          fits = fits;
          accepted = opened.settings;
          area = k.area;
          within = k.within;
          numbered = k.numbered;
        }

    -- nobody is to be called before the restart
    inv-same : (l : Ledger) (p : Phase) (a : List ℕ) → Inv c n l (world p a) → Inv c' n l (world off a)
    inv-same l p a inv =
        let v = inv.saved in
        record {
          saved = v;
          journal = record {
            size = inv.journal.size;
            last = inv.journal.last;
            groups = inv.journal.groups;
            reads = group-same a inv.journal.last v.next v inv.journal.reads;
            valid = valid_same v inv.journal.valid;
          };
          finds = record { settles = inv.finds.settles; counts = inv.finds.counts };
          callable = below-ceiling c n l a p inv;
        }

-- a configuration that the tests of settings let through, on an area that is let through
accepted-there : (c c' : Configuration) (n : ℕ) → Passed (start_table c n) → Passed (settings_table c'.settings) → Passed (start_table c' n)
accepted-there c c' n p q =
    append-passed (settings_table c'.settings) (bad_area n ⇒ BadArea ∷ []) q
    (passed-append (settings_table c.settings) (bad_area n ⇒ BadArea ∷ []) p).1

-- ## the law, under one of the configurations
record LawUnder (P : Configuration → Type 0) (l : Ledger) (e : Event) : Type 0 where
  by : Configuration
  allowed : P by
  law : Law by.settings.policy l e

along_under : (P : Configuration → Type 0) (c : Configuration) → P c → (es : List Event) (l : Ledger) → Along noted (Law c.settings.policy) l es
    → Along noted (LawUnder P) l es
unfolding Along
along_under P c p [] l h = tt
along_under P c p (e ∷ es) l h = (record { by = c; allowed = p; law = h.0 }, along_under P c p es (noted l e) h.1)

-- block writes are allowed by every policy
steps-allowed : (c : Configuration) (ws : List Write) (l : Ledger) → Along noted (Law c.settings.policy) l (answers ws)
unfolding Along answers
steps-allowed c [] l = tt
steps-allowed c (w ∷ ws) l =
    split w.place.last (λ t. rw t ((tt, tt, tt), steps-allowed c ws _)) (λ t. rw t ((tt, tt, tt), steps-allowed c ws _))

-- ## every list
module _ (P : Configuration → Type 0) (n : ℕ) where
  -- the invariant under the configuration of the last restart
  record Current (l : Ledger) (w : OnDisk) : Type 0 where
    by : Configuration
    allowed : P by
    accepted : Passed (start_table by n)
    inv : InvOn by n l w

  abbrev Goes : Ledger → Option Then → Type 0
  Goes = AnsweredOn noted (LawUnder P) Current

  made-under : (c : Configuration) → P c → Passed (start_table c n) → (l : Ledger) (t : Then)
      → MadeOn noted (Law c.settings.policy) (InvOn c n) l t → MadeOn noted (LawUnder P) Current l t
  made-under c p accepted l t m =
      record { says = along_under P c p t.seen l m.says; keeps = record { by = c; allowed = p; accepted = accepted; inv = m.keeps } }

  answered-under : (c : Configuration) → P c → Passed (start_table c n) → (l : Ledger) (x : Option Then)
      → AnsweredOn noted (Law c.settings.policy) (InvOn c n) l x → Goes l x
  answered-under c p accepted l none m = tt
  answered-under c p accepted l (some t) m = made-under c p accepted l t m

  -- a restart with a configuration of its own
  restart-goes : (c : Configuration) → Accepted c → P c → (l : Ledger) (p : Phase) (a : List ℕ) (ws : List Write) → Current l (on_disk p (disk a ws))
      → Goes l (next_on c p (disk a ws) (does restart))
  unfolding next_on transition
  restart-goes c ok allowed l p a ws k =
      let accepted = accepted-there k.by c n k.accepted ok.passes in
      let b : List ℕ = written a ws in
      let m = folded noted l (answers ws) in
      let synced = sync-kept k.by n l p a ws k.inv in
      let inv : Inv c n m (world off b) = inv-same k.by c n ok.fits (start_open c n accepted) m p b synced.inv in
      let r : State = restored c n inv.saved in
      let found : restarts.restart c b ≡ done r = restart-finds c n b inv.saved accepted inv.journal in
      let made : Made noted (Law c.settings.policy) (Inv c n) m (record { event = restarted (done r); phase = idle r; area = b }) =
      rw found at (restart-kept c n m b accepted off inv) in
      rw found
      (made-under c allowed accepted l (record { seen = answers ws ++ (restarted (done r) ∷ []); world = on_disk (idle r) (disk b []) })
      (behind c n l (idle r) b (answers ws) (steps-allowed c ws l) (restarted (done r)) made))

  -- any other item is one under the configuration of the last restart
  other_goes : (c : Configuration) (l : Ledger) (w : OnDisk) (i : DiskItem) → restart_on i ≡ 0 → Current l w → Goes l (next_on c w.phase w.disk i)
  other_goes c l w i z k =
      rw (only-restarts-look c k.by w.phase w.disk i z)
      (answered-under k.by k.allowed k.accepted l (next_on k.by w.phase w.disk i) (kept_on k.by n k.accepted l w i k.inv))

  goes : (c : Configuration) → Accepted c → P c → (l : Ledger) (w : OnDisk) (i : DiskItem) → Current l w → Goes l (next_on c w.phase w.disk i)
  goes c ok p l w (does (ask v q)) k = other_goes c l w (does (ask v q)) refl k
  goes c ok p l w (does (begin v)) k = other_goes c l w (does (begin v)) refl k
  goes c ok p l w (does step) k = other_goes c l w (does step) refl k
  goes c ok p l w (does restart) k = restart-goes c ok p l w.phase w.disk.held w.disk.pending k
  goes c ok p l w (steps_on b) k = other_goes c l w (steps_on b) refl k
  goes c ok p l w syncs k = other_goes c l w syncs refl k
  goes c ok p l w (fails ks) k = other_goes c l w (fails ks) refl k

  -- the law along a list, and the invariant at its end
  record Gone (l : Ledger) (es : List Event) (left : OnDisk) : Type 0 where
    obeyed : Along noted (LawUnder P) l es
    current : Current (folded noted l es) left

  gone : (hs : List Handed) (l : Ledger) (w : OnDisk) → Each Accepted hs → Each P hs → Current l w → Gone l (run_each w hs) (ends_each w hs)
  unfolding run_each ends_each Each Along folded
  gone [] l w ok ps k = record { obeyed = tt; current = k }
  gone (h ∷ hs) l w ok ps k =
      go (next_on h.0 w.phase w.disk h.1) refl (goes h.0 ok.0 ps.0 l w h.1 k)
      (gone hs l w ok.1 ps.1 k) (λ m t. gone hs m t.world ok.1 ps.1)
    where
      go : (x : Option Then) → next_on h.0 w.phase w.disk h.1 ≡ x → Goes l (next_on h.0 w.phase w.disk h.1)
          → Gone l (run_each w hs) (ends_each w hs)
          → ((m : Ledger) (t : Then) → Current m t.world → Gone m (run_each t.world hs) (ends_each t.world hs))
          → Gone l (run_each w (h ∷ hs)) (ends_each w (h ∷ hs))
      go none e m skip rest = rw (e, run_each, ends_each) skip
      go (some t) e m skip rest =
          let made : MadeOn noted (LawUnder P) Current l t = rw e at m in
          let r = rest (folded noted l t.seen) t made.keeps in
          rw (e, run_each, ends_each)
          (record {
            obeyed = along-append noted (LawUnder P) t.seen (run_each t.world hs) l made.says r.obeyed;
            current = rw (folded-append noted t.seen (run_each t.world hs) l) r.current;
          })

-- ## restarts
each_seen : (hs : List Handed) (w : OnDisk) → restarts_seen (run_each w hs) ≡ restarts_each hs
unfolding run_each restarts_seen restarts_each
each_seen [] w = refl
each_seen (h ∷ hs) w = go (next_on h.0 w.phase w.disk h.1) refl (each_seen hs w) (λ t. each_seen hs t.world)
  where
    go : (x : Option Then) → next_on h.0 w.phase w.disk h.1 ≡ x → restarts_seen (run_each w hs) ≡ restarts_each hs
        → ((t : Then) → restarts_seen (run_each t.world hs) ≡ restarts_each hs)
        → restarts_seen (run_each w (h ∷ hs)) ≡ restart_on h.1 + restarts_each hs
    go none e skip rest = rw (e, run_each) (omega (arith, skip, sym (ap seen_in e) ∙ item-seen h.0 w.phase w.disk h.1))
    go (some t) e skip rest =
        rw (e, run_each)
        (omega (arith, seen-append t.seen (run_each t.world hs), rest t, sym (ap seen_in e) ∙ item-seen h.0 w.phase w.disk h.1))

-- ## the demand
abbrev Anyhow : Configuration → Type 0
Anyhow c = Unit {0}

any : (hs : List Handed) → Each Anyhow hs
unfolding Each
any [] = tt
any (h ∷ hs) = (tt, any hs)

-- a limit is set, and is at most M; the threshold is at most N
record Within (M N : ℕ) (c : Configuration) : Type 0 where
  fits : Fits c.settings
  limited : Limited c
  limit : limit_of c ≤ M
  threshold : threshold_of c ≤ N

few-under : (M N : ℕ) (l : Ledger) (e : Event) → LawUnder (Within M N) l e → HandsFew M N l (effect_of e)
few-under M N l e h =
    let k = h.allowed in
    let m = limits h.by k.limited k.fits in
    few-handed h.by.settings.policy m.0 m.1 M N k.limit k.threshold l (effect_of e) h.law.2

-- none exceeds the largest
module _ (c : Configuration) (f : Fits c.settings) (q : Limited c) where
  first-within : (hs : List Handed) → Within (largest limit_of c hs) (largest threshold_of c hs) c
  unfolding largest
  first-within [] = record { fits = f; limited = q; limit = omega arith; threshold = omega arith }
  first-within (h ∷ hs) =
      let k = first-within hs in
      record { fits = f; limited = q; limit = omega (arith, k.limit); threshold = omega (arith, k.threshold) }

  wider : (M N M' N' : ℕ) → M ≤ M' → N ≤ N' → (hs : List Handed) → Each (Within M N) hs → Each (Within M' N') hs
  unfolding Each
  wider M N M' N' m n [] w = tt
  wider M N M' N' m n (h ∷ hs) w =
      let k = w.0 in (
        record { fits = k.fits; limited = k.limited; limit = omega (arith, k.limit); threshold = omega (arith, k.threshold) },
        wider M N M' N' m n hs w.1,
      )

  each_within : (hs : List Handed) → Each Accepted hs → Each Limited hs → Each (Within (largest limit_of c hs) (largest threshold_of c hs)) hs
  unfolding Each largest
  each_within [] ok qs = tt
  each_within (h ∷ hs) ok qs = (
    record { fits = ok.0.fits; limited = qs.0; limit = omega arith; threshold = omega arith },
    wider (largest limit_of c hs) (largest threshold_of c hs) _ _ (omega arith) (omega arith) hs (each_within hs ok.1 qs.1),
  )

  largest_fires : (hs : List Handed) → Each Accepted hs → Each Limited hs → largest limit_of c hs < MAX32
  unfolding Each largest
  largest_fires [] ok qs = (limits c q f).1
  largest_fires (h ∷ hs) ok qs = omega (arith, (limits h.0 qs.0 ok.0.fits).1, largest_fires hs ok.1 qs.1)

-- from whatever is within the invariant
module _ (c : Configuration) (n : ℕ) (f : Fits c.settings) (accepted : Passed (start_table c n)) (p : Page) (g : ℕ) where
  pub holds-each : (w : OnDisk) (hs : List Handed) → Each Accepted hs → InvOn c n (ledger_from p g) w
      → HoldsEach c p g hs (run_each w hs) (state_in (ends_each w hs).phase)
  holds-each w hs ok inv =
      let es : List Event = run_each w hs in
      let left = ends_each w hs in
      let P = Anyhow in
      let first = ledger_from p g in
      let b = gone P n hs first w ok (any hs) (record { by = c; allowed = tt; accepted = accepted; inv = inv }) in
      let k = b.current in
      let l = folded noted first es in
      record {
        counts = λ q qs.
            let M : ℕ = largest limit_of c hs in
            let N : ℕ = largest threshold_of c hs in
            let m = gone (Within M N) n hs first w ok (each_within c f q hs ok qs)
            (record { by = c; allowed = first-within c f q hs; accepted = accepted; inv = inv }) in
            rw (← each_seen hs w) (counts-from M N (largest_fires c f q hs ok qs) (LawUnder (Within M N)) (few-under M N) p g es m.obeyed);
        generations = once-each (LawUnder P) (λ m x h. least-handed m.floor (effect_of x) h.law.1) es first b.obeyed;
        found = found_right (LawUnder P) (λ m x h. h.law.0) es first b.obeyed;
        keeps = keeps-from (LawUnder P) (λ m x h. h.law.1) (λ m x h. of_open h.by.settings.policy m (effect_of x) h.law.2) p g es
            (state_in left.phase) b.obeyed
            (record {
              ceiling = λ x q. ceiling-on k.by n l left.phase left.disk.held left.disk.pending x k.inv q;
              agrees = λ x q. agrees_on k.by n l left.phase left.disk.held left.disk.pending x k.inv q;
            });
      }

-- a restart that begins a list of its own: the book and the floor are as before, and no lease is out
module _ (c d : Configuration) (n : ℕ) (before : Passed (start_table c n)) (ok : Accepted d) (p : Page) (g : ℕ) where
  pub record Reopened (a : List ℕ) (r : State) : Type 0 where
    pub accepted : Passed (start_table d n)
    pub inv : Inv d n (ledger_from p g) (world (idle r) a)
    pub leases : r.table.leases ≡ []

  pub reopened : (q : Phase) (a : List ℕ) (r : State) → Inv c n (ledger_from p g) (world q a) → restarts.restart d a ≡ done r → Reopened a r
  reopened q a r inv e =
      let l = ledger_from p g in
      let there = accepted-there c d n before ok.passes in
      let k = inv-same c d n ok.fits (start_open d n there) l q a inv in
      let x : State = restored d n k.saved in
      let found : restarts.restart d a ≡ done x = restart-finds d n a k.saved there k.journal in
      let kept : Made noted (Law d.settings.policy) (Inv d n) l (record { event = restarted (done x); phase = idle x; area = a }) =
      rw found at (restart-kept d n l a there off k) in
      let same : x ≡ r = done_inj (sym found ∙ e) in
      rw (← same) (record { accepted = there; inv = kept.keeps; leases = refl })

pub reconfigured : Reconfigured
unfolding Reconfigured
reconfigured c a s hs f bytes e ok =
    let b = begins-from c a s f bytes e in
    holds-each c (length a) f b.accepted (page_of s) s.ceiling (on_disk (idle s) (disk a [])) hs ok b.inv
