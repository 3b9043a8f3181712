-- A journal that a restart accepts, whatever it comes from, is within the invariant, with the book that begins with what was read; so
-- demand 3 holds from there. Assumes nothing.
use Prim.Native.Nat.{ℕ, ◌≤◌, ◌<◌}
use native.Mathlib.Omega.{arith}
use mathlib.Core.Path.{◌≡◌, refl, ap, ◌∙◌}
use mathlib.Core.Bool.{false, ◌&&◌}
use mathlib.Core.List.{List, [], ◌∷◌}
use mathlib.Core.Option.{Option, none, some, none-ne-some}
use lib.Dec.{ltb}
use lib.ListN.{length, take, drop}
use borrow.Author.Tests.{lt-ltb}
use Rattle.types.specs.Limits.{MAX32}
use Rattle.types.specs.Refusal.{Result, refused, done}
use Rattle.types.specs.Keyed.{Entry}
use Rattle.types.specs.Table.{Passed}
use Rattle.types.proofs.Checked.{refused_not_done, done_inj, checked-says}
use Rattle.raw.specs.Bytes.{IsBytes}
use Rattle.cursor.specs.Cursor.{Cursor}
use Rattle.cursor.specs.Snapshot.{decode_cursor}
use Rattle.attempt.specs.Snapshot.{decode_attempts}
use Rattle.journal.specs.Area.{block_at}
use Rattle.journal.specs.Sound.{sound_but_fit}
use Rattle.journal.specs.Blocks.{cursor_length, attempt_length, ceiling_of}
use Rattle.journal.specs.Walks.{Stop, stop, payload}
use Rattle.journal.proofs.Walks.{LastIs, at_once, behind, walk-ended, behind_none}
use Rattle.consumer.specs.State.{Configuration, State, NextGroup, next_group_at}
use Rattle.consumer.specs.Valid.{Fits, Valid}
use Rattle.starts.specs.Restart.{start_table, from_snapshots, origin, limit, walk_of, end_table, last_group, from_walk, restart}
use Rattle.starts.proofs.Valid.{restart-valid}
use Rattle.machine.specs.Calls.{Event}
use Rattle.machine.specs.Transitions.{Phase, idle, writing, off}
use Rattle.crash_safety.specs.Runs.{Item, World, world, run, ends}
use Rattle.crash_safety.specs.Disk.{Write, disk}
use Rattle.crash_safety.specs.Unordered.{DiskItem, OnDisk, on_disk, run_on, ends_on, restarts_on}
use Rattle.crash_safety.specs.Settled.{state_in}
use Rattle.crash_safety.specs.Effects.{effect_of}
use Rattle.crash_safety.specs.Book.{Page}
use Rattle.crash_safety.specs.Demand3.{Finds, restarts_in, Limited, limit_of, threshold_of}
use Rattle.crash_safety.specs.From.{page_of, book_from, CountsWithin, Keeps, HoldsFrom, Demand3From, UnorderedFrom}
use Rattle.crash_safety.proofs.Law.{Ledger, ledger, noted, AtLeast, Law, Seen, all-seen, Along, folded, restarts-right}
use Rattle.crash_safety.proofs.Generations.{none_shared, all-at-least, floor-after}
use Rattle.crash_safety.proofs.Bound.{restarts_seen, HandsFew, few-handed, few-from}
use Rattle.crash_safety.proofs.Batch.{repeated_from}
use Rattle.crash_safety.proofs.Runs.{along, at-end}
use Rattle.crash_safety.proofs.Restarts.{all_made}
use Rattle.crash_safety.proofs.Invariant.{Groups, Saved, restored, Journal, Agrees, Inv}
use Rattle.crash_safety.proofs.Origins.{Read, empty, filled, read}
use Rattle.crash_safety.proofs.Steps.{restored-agrees}
use Rattle.crash_safety.proofs.Kept.{item-kept}
use Rattle.crash_safety.proofs.Demand3.{limits}
use Rattle.crash_safety.proofs.OnDisk.{along-on, at-end-on}
use Rattle.crash_safety.proofs.Unordered.{Standing, InvOn, kept_on, all_seen}
use Rattle.crash_safety.proofs.ForGood.{OfOpen, of_open, never-handed, both-after, agrees_in, agrees_on}

-- what the journal of a state that a restart answered holds
abbrev pub saved_of : State → Saved
saved_of s = record { cursor = s.cursor; counts = s.table.carried; ceiling = s.ceiling; next = s.next }

-- ## what a restart reads
module _ (c : Configuration) (a : List ℕ) (s : State) where
  record Was (next : NextGroup) : Type 0 where
    next-is : s.next ≡ next
    again : s ≡ restored c (length a) (saved_of s)

  snapshots-was : (x : Result Cursor) (y : Result (List (Entry ℕ))) (ceiling : ℕ) (next : NextGroup)
      → from_snapshots c (length a) x y ceiling next ≡ done s → Was next
  snapshots-was (refused r) y ceiling next e = refused_not_done e
  snapshots-was (done k) (refused r) ceiling next e = refused_not_done e
  snapshots-was (done k) (done l) ceiling next e = rw (← done_inj e) (record { next-is = refl; again = refl })

  -- where no group is read, the first one goes to block 0
  first_next : (next : NextGroup) (walks : walk_of a ≡ stop none next.number next.block) → next ≡ next_group_at 1 0
  first_next next walks =
      go (read a none next walks) (walk-ended a (limit a) none (origin a).number (origin a).block none next.number next.block walks).last-is
    where
      go : Read a none next → LastIs a (limit a) none (origin a).number (origin a).block none next.number next.block → next ≡ next_group_at 1 0
      go (empty p q x w y z) t = rw (← q, ← x)
      go (filled p q x y) (at_once l m r) = absurd (omega arith)
      go (filled p q x y) (behind h m l r t u g) = absurd (none-ne-some h l)

  group-was : (last : Option ℕ) (next : NextGroup) → walk_of a ≡ stop last next.number next.block → last_group c a last next ≡ done s → Was next
  group-was none next walks e =
      let first = first_next next walks in
      rw (← done_inj e, first) (record { next-is = refl; again = refl })
  group-was (some i) next walks e =
      let p : List ℕ = payload a i in
      let b : List ℕ = block_at a i in
      snapshots-was (decode_cursor (take (cursor_length b) p)) (decode_attempts (take (attempt_length b) (drop (cursor_length b) p))) (ceiling_of b) next e

  -- the journal, and that the tests of a start passed
  record Accepts : Type 0 where
    accepted : Passed (start_table c (length a))
    again : s ≡ restored c (length a) (saved_of s)
    journal : Journal c (length a) a (saved_of s)

  module _ (valid : Valid s) (accepted : Passed (start_table c (length a))) where
    ended : (end : Stop) → walk_of a ≡ done end → Passed (end_table a end)
        → last_group c a end.last (next_group_at end.number end.block) ≡ done s → Accepts
    ended end walks passed reads =
        let next : NextGroup = next_group_at end.number end.block in
        let was = group-was end.last next walks reads in
        let groups : Groups a (limit a) (origin a).number (origin a).block end.last next =
        record {
          walks = walks;
          stops = λ m. stopped end.block end.number m passed.0;
          clear = behind_none a (limit a) end.block passed.1.0;
        } in
        record {
          accepted = accepted;
          again = was.again;
          journal = record {
            size = refl;
            last = end.last;
            groups = rw was.next-is groups;
            reads = ap (last_group c a end.last) was.next-is ∙ reads ∙ ap done was.again;
            valid = rw (← was.again) valid;
          };
        }
      where
        stopped : (i k : ℕ) → i < limit a → (ltb i (limit a) && sound_but_fit k (block_at a i)) ≡ false → sound_but_fit k (block_at a i) ≡ false
        stopped i k m e = rw (lt-ltb i (limit a) m) at e

    walked : (x : Result Stop) → walk_of a ≡ x → from_walk c a x ≡ done s → Accepts
    unfolding from_walk
    walked (refused r) q e = refused_not_done e
    walked (done end) q e =
        let d = checked-says (end_table a end) (last_group c a end.last (next_group_at end.number end.block)) s e in
        ended end q d.0 d.1

  accepts : Fits c.settings → IsBytes a → restart c a ≡ done s → Accepts
  unfolding restart
  accepts f bytes e =
      let d = checked-says (start_table c (length a)) (from_walk c a (walk_of a)) s e in
      walked (restart-valid c a s bytes e f) d.0 (walk_of a) refl d.1

-- its settings are the configuration's
module _ (c : Configuration) (a : List ℕ) (s : State) where
  walked-settings : (x : Result Stop) → walk_of a ≡ x → from_walk c a x ≡ done s → s.settings ≡ c.settings
  unfolding from_walk
  walked-settings (refused r) q e = refused_not_done e
  walked-settings (done end) q e =
      let next : NextGroup = next_group_at end.number end.block in
      let reads = (checked-says (end_table a end) (last_group c a end.last next) s e).1 in
      ap (λ (x : State). x.settings) (group-was c a s end.last next q reads).again

  pub restart-passed : restart c a ≡ done s → Passed (start_table c (length a))
  unfolding restart
  restart-passed e = (checked-says (start_table c (length a)) (from_walk c a (walk_of a)) s e).0

  pub restart-settings : restart c a ≡ done s → s.settings ≡ c.settings
  unfolding restart
  restart-settings e = walked-settings (walk_of a) refl (checked-says (start_table c (length a)) (from_walk c a (walk_of a)) s e).1

-- ## the invariant
-- the book begins with a page, and generations at a floor
abbrev pub ledger_from : Page → ℕ → Ledger
ledger_from p floor = ledger (book_from p) 0 floor

abbrev pub ledger_of : State → Ledger
ledger_of s = ledger_from (page_of s) s.ceiling

module _ (c : Configuration) (n : ℕ) (a : List ℕ) where
  read-begins : (v : Saved) → Journal c n a v → Inv c n (ledger_of (restored c n v)) (world (idle (restored c n v)) a)
  read-begins v j =
      let finds : Finds (page_of (restored c n v)) (restored c n v) = record { settles = λ o. refl; counts = λ o. refl } in
      record {
        saved = v;
        journal = j;
        finds = finds;
        callable = record {
          valid = j.valid;
          size = refl;
          settings = refl;
          ceiling = refl;
          next = refl;
          agrees = restored-agrees c n v (page_of (restored c n v)) finds;
          redeliveries = refl;
          floor = omega arith;
        };
      }

pub record BeginsFrom (c : Configuration) (a : List ℕ) (s : State) : Type 0 where
  pub accepted : Passed (start_table c (length a))
  pub inv : Inv c (length a) (ledger_of s) (world (idle s) a)

pub begins-from : (c : Configuration) (a : List ℕ) (s : State) → Fits c.settings → IsBytes a → restart c a ≡ done s → BeginsFrom c a s
begins-from c a s f bytes e =
    let d = accepts c a s f bytes e in
    record { accepted = d.accepted; inv = rw d.again (read-begins c (length a) a (saved_of s) d.journal) }

-- ## the state that is left
-- its ceiling is above every generation handed out
ceiling_in : (c : Configuration) (n : ℕ) (l : Ledger) (p : Phase) (a : List ℕ) (x : State) → Inv c n l (world p a) → state_in p ≡ some x
    → l.floor ≤ x.ceiling
ceiling_in c n l (idle s) a x inv e =
    let q : s ≡ x = cc in rw (← q) (omega (arith, inv.callable.floor, inv.callable.valid.under-ceiling))
ceiling_in c n l (writing w) a x inv e =
    let q : w.state ≡ x = cc in rw (← q) (omega (arith, inv.callable.0.floor, inv.callable.0.valid.under-ceiling))
ceiling_in c n l off a x inv e = absurd (none-ne-some x e)

pub ceiling-on : (c : Configuration) (n : ℕ) (l : Ledger) (p : Phase) (a : List ℕ) (ws : List Write) (x : State) → Standing c n l p a ws
    → state_in p ≡ some x → l.floor ≤ x.ceiling
ceiling-on c n l (idle s) a [] x inv e = ceiling_in c n l (idle s) a x inv e
ceiling-on c n l (idle s) a (k ∷ ks) x f e =
    let q : s ≡ x = cc in
    let now = f.inv.callable.0 in
    rw (← q, f.state) (omega (arith, now.floor, now.valid.under-ceiling, now.valid.ceiling-fits))
ceiling-on c n l (writing w) a ws x u e =
    let q : w.state ≡ x = cc in rw (← q) (omega (arith, u.stands.floor, u.stands.valid.under-ceiling))
ceiling-on c n l off a ws x f e = absurd (none-ne-some x e)

-- ## the demand
-- what the state that is left has, beside the ledger after the events
pub record Leaves (l : Ledger) (left : Option State) : Type 0 where
  pub ceiling : (x : State) → left ≡ some x → l.floor ≤ x.ceiling
  pub agrees : (x : State) → left ≡ some x → Agrees l.book.page x

-- what was found stays, from whatever says that floors are kept and that hand-outs are of open offsets
module _ (L : Ledger → Event → Type 0) (low : (l : Ledger) (e : Event) → L l e → AtLeast l.floor (effect_of e))
    (opens : (l : Ledger) (e : Event) → L l e → OfOpen l (effect_of e)) where
  pub keeps-from : (p : Page) (g : ℕ) (es : List Event) (left : Option State) → Along noted L (ledger_from p g) es
      → Leaves (folded noted (ledger_from p g) es) left → Keeps p g es left
  keeps-from p g es left obeyed leaves =
      let l = ledger_from p g in
      record {
        above = all-at-least L low g es l (omega arith) obeyed;
        ceiling = λ x e. omega (arith, floor-after L low es l obeyed, leaves.ceiling x e);
        never = λ o t. never-handed o L opens es l (t, t) obeyed;
        stays = λ x e o t. (leaves.agrees x e).settles o ∙ (both-after o es l (t, t)).1;
      }

-- both bounds, from whatever says that hand-outs are few
module _ (M N : ℕ) (fires : M < MAX32) (L : Ledger → Event → Type 0) (few : (l : Ledger) (e : Event) → L l e → HandsFew M N l (effect_of e)) where
  pub counts-from : (p : Page) (g : ℕ) (es : List Event) → Along noted L (ledger_from p g) es → CountsWithin M N (restarts_seen es) p es
  counts-from p g es obeyed =
      record {
        bound = few-from M N fires L few (ledger_from p g) refl refl es obeyed;
        batch = repeated_from M N fires L few (ledger_from p g) refl refl es obeyed;
      }

holds-from : (c : Configuration) (p : Page) (g : ℕ) (es : List Event) (restarts : ℕ) (left : Option State) → Fits c.settings → restarts_seen es ≡ restarts
    → Along noted (Law c.settings.policy) (ledger_from p g) es → Leaves (folded noted (ledger_from p g) es) left → HoldsFrom c p g restarts es left
holds-from c p g es restarts left f counted obeyed leaves =
    let by = c.settings.policy in
    let l = ledger_from p g in
    let seen : Along noted (Seen by) l es = all-seen by es l obeyed in
    let few : Limited c → (m : Ledger) (e : Event) → Law by m e → HandsFew (limit_of c) (threshold_of c) m (effect_of e) =
    λ q m e h. few-handed by (limits c q f).0 (limits c q f).1 (limit_of c) (threshold_of c) (omega arith) (omega arith) m (effect_of e) h.2 in
    let counts : Limited c → CountsWithin (limit_of c) (threshold_of c) restarts p es =
    λ q. rw (← counted) (counts-from (limit_of c) (threshold_of c) (limits c q f).1 (Law by) (few q) p g es obeyed) in
    record {
      holds = record {
        bound = λ q o. omega (arith, (counts q).bound o);
        generations = none_shared by es l seen;
        found = restarts-right by es l seen;
      };
      counts = counts;
      keeps = keeps-from (Law by) (λ m e h. h.1) (λ m e h. of_open by m (effect_of e) h.2) p g es left obeyed leaves;
    }

-- from whatever is within the invariant, on either disk
module _ (c : Configuration) (n : ℕ) (f : Fits c.settings) (accepted : Passed (start_table c n)) (p : Page) (g : ℕ) where
  abbrev L : Ledger → Event → Type 0
  L = Law c.settings.policy

  abbrev begun : Ledger
  begun = ledger_from p g

  pub holds-all : (w : World) (items : List Item) → Inv c n begun w
      → HoldsFrom c p g (restarts_in items) (run c w items) (state_in (ends c w items).phase)
  holds-all w items b =
      let es : List Event = run c w items in
      let left = ends c w items in
      let inv = at-end noted L (Inv c n) c (item-kept c n accepted) items begun w b in
      holds-from c p g es _ (state_in left.phase) f (all_made c items w) (along noted L (Inv c n) c (item-kept c n accepted) items begun w b)
      (record {
        ceiling = λ x q. ceiling_in c n (folded noted begun es) left.phase left.journal x inv q;
        agrees = λ x q. agrees_in c n (folded noted begun es) left.phase left.journal x inv q;
      })

  pub holds-all-on : (w : OnDisk) (items : List DiskItem) → InvOn c n begun w
      → HoldsFrom c p g (restarts_on items) (run_on c w items) (state_in (ends_on c w items).phase)
  holds-all-on w items b =
      let es : List Event = run_on c w items in
      let left = ends_on c w items in
      let inv = at-end-on noted L (InvOn c n) c (kept_on c n accepted) items begun w b in
      holds-from c p g es _ (state_in left.phase) f (all_seen c items w) (along-on noted L (InvOn c n) c (kept_on c n accepted) items begun w b)
      (record {
        ceiling = λ x q. ceiling-on c n (folded noted begun es) left.phase left.disk.held left.disk.pending x inv q;
        agrees = λ x q. agrees_on c n (folded noted begun es) left.phase left.disk.held left.disk.pending x inv q;
      })

pub demand_3_from : Demand3From
unfolding Demand3From
demand_3_from c a s items f bytes e =
    let b = begins-from c a s f bytes e in
    holds-all c (length a) f b.accepted (page_of s) s.ceiling (world (idle s) a) items b.inv

pub unordered-from : UnorderedFrom
unfolding UnorderedFrom
unordered-from c a s items f bytes e =
    let b = begins-from c a s f bytes e in
    holds-all-on c (length a) f b.accepted (page_of s) s.ceiling (on_disk (idle s) (disk a [])) items b.inv
