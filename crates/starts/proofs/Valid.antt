-- A start, a restart on any area of bytes and an import of any bytes, however foreign, are refused or give a state of which the invariant
-- holds. What was read from two snapshots is valid as their decoders say; counts of zero and of settled offsets are dropped; the walk
-- says where the next group goes. Assumes nothing.
use Prim.Native.Nat.{ℕ, zero, suc, ◌*◌, ◌/◌, ◌≤◌}
use native.Mathlib.Omega.{arith}
use mathlib.Core.Path.{◌≡◌, refl}
use mathlib.Core.Bool.{true, false, cond}
use mathlib.Core.List.{List, [], ◌∷◌}
use mathlib.Core.Option.{Option, none, some}
use lib.Dec.{eqb}
use lib.ListN.{length, take, drop}
use borrow.Author.Tests.{eqb-true, eqb-false}
use Rattle.types.specs.Limits.{MAX, MAX32, CARRIED}
use Rattle.types.specs.Refusal.{Result, refused, done}
use Rattle.types.specs.Keyed.{Entry, lookup, Rising, All}
use Rattle.types.proofs.Cases.{split, neither}
use Rattle.types.proofs.Keyed.{rising-weaken, lookup-under, lookup-all}
use Rattle.types.proofs.Entries.{absent}
use Rattle.types.proofs.Checked.{refused_not_done, done_inj, checked-says}
use Rattle.raw.specs.Bytes.{IsBytes}
use Rattle.raw.proofs.Bytes.{bytes-append, bytes_take, bytes_drop, number_lt}
use Rattle.cursor.specs.Cursor.{Cursor, settled, resume}
use Rattle.cursor.specs.Cursor as cursors
use Rattle.cursor.proofs.Snapshot.{decoded-valid}
use Rattle.cursor.specs.Snapshot.{decode_cursor}
use Rattle.attempt.specs.Snapshot.{PairsFit, decode_attempts}
use Rattle.attempt.proofs.Snapshot.{decoded-rising, decoded-fit, decoded-few}
use Rattle.lease.specs.State.{starting_at, Counted}
use Rattle.lease.proofs.Valid.{valid-start, valid-carried}
use Rattle.journal.specs.Area.{block_at}
use Rattle.journal.specs.Blocks.{bodies_for, ceiling_of, cursor_length, attempt_length, payload_length, content_of}
use Rattle.journal.specs.Walks.{Stop, contents, payload}
use Rattle.journal.proofs.Walks.{LastIs, at_once, behind, walk-ended}
use Rattle.consumer.specs.State.{Configuration, State, NextGroup, next_group_at, count_or0}
use Rattle.consumer.specs.Valid.{Fits, Valid}
use Rattle.starts.specs.Restart.{start_table, resumed, fresh, start, is_dropped, unsettled_counts, from_snapshots, read_group, origin, limit, walk_of, end_table, last_group, from_walk, restart}
use Rattle.starts.specs.Import.{import}
use Rattle.starts.proofs.Halves.{limit-within, origin-fits}
use Rattle.starts.proofs.Open.{StartOpen, start_open, start-says}

-- ## The state that is resumed
-- counts that may be carried beside a cursor
pub record Carries (c : Cursor) (counts : List (Entry ℕ)) : Type 0 where
  pub rising : Rising 0 counts
  pub few : length counts ≤ CARRIED
  pub counted : All Counted counts
  pub unsettled : All (λ o n. settled c o ≡ false) counts

-- where the next group goes lies in the area
pub record NextGroupFits (size : ℕ) (next : NextGroup) : Type 0 where
  pub within : next.block ≤ size / 512
  pub numbered : next.number ≤ suc MAX32

module _ (c : Configuration) (size : ℕ) (p : StartOpen c size) (f : Fits c.settings) where
  pub resumed-valid : (cursor : Cursor) (counts : List (Entry ℕ)) (ceiling : ℕ) (next : NextGroup)
      → cursors.Valid cursor → Carries cursor counts → ceiling ≤ MAX → NextGroupFits size next
      → Valid (resumed c size cursor counts ceiling next)
  resumed-valid cursor counts ceiling next v h fits at =
      record {
        cursor = v;
        table = valid-carried (starting_at c.lease ceiling) counts (valid-start c.lease ceiling fits) h.rising h.few h.counted;
        together = omega (arith, h.few);
        leased = λ o l e. absent refl e;
        carried = λ o n e. lookup-all (λ k m. settled cursor k ≡ false) o n counts h.unsettled e;
        under-ceiling = omega arith;
        ceiling-fits = fits;
        counter = omega arith;
        fits = f;
        accepted = p.settings;
        area = p.area;
        within = at.within;
        numbered = at.numbered;
      }

  pub fresh-valid : Valid (fresh c size)
  fresh-valid =
      resumed-valid (resume 0) [] 0 (next_group_at 1 0)
      (record { fits = omega arith; above = tt; few = omega arith })
      (record { rising = tt; few = omega arith; counted = tt; unsettled = tt })
      (omega arith)
      (record { within = omega arith; numbered = omega arith })

pub start-valid : (c : Configuration) (size : ℕ) (s : State) → start c size ≡ done s → Fits c.settings → Valid s
start-valid c size s e f =
    let d = start-says c size s e in
    rw (← d.1) (fresh-valid c size d.0 f)

-- ## What is carried of the counts that were read
module _ (c : Cursor) where
  unsettled-rising : (lo : ℕ) (l : List (Entry ℕ)) → Rising lo l → Rising lo (unsettled_counts c l)
  unsettled-rising lo [] r = tt
  unsettled-rising lo (e ∷ l) r =
      split (is_dropped c e)
      (λ t. rw t (rising-weaken lo (suc e.key) (unsettled_counts c l) (omega arith) (unsettled-rising (suc e.key) l r.1)))
      (λ t. rw t (r.0, unsettled-rising (suc e.key) l r.1))

  unsettled-length : (l : List (Entry ℕ)) → length (unsettled_counts c l) ≤ length l
  unsettled-length [] = omega arith
  unsettled-length (e ∷ l) =
      split (is_dropped c e)
      (λ t. rw t (omega (arith, unsettled-length l)))
      (λ t. rw t (omega (arith, unsettled-length l)))

  unsettled-counted : (l : List (Entry ℕ)) → PairsFit l → All Counted (unsettled_counts c l)
  unsettled-counted [] f = tt
  unsettled-counted (e ∷ l) f =
      split (is_dropped c e)
      (λ t. rw t (unsettled-counted l f.1))
      (λ t.
      let n = eqb-false e.value 0 (neither (eqb e.value 0) (settled c e.key) t).0 in
      rw t (record { offset-fits = f.0.0; once = omega (arith, n); count_fits = f.0.1 }, unsettled-counted l f.1))

  unsettled-unsettled : (l : List (Entry ℕ)) → All (λ o n. settled c o ≡ false) (unsettled_counts c l)
  unsettled-unsettled [] = tt
  unsettled-unsettled (e ∷ l) =
      split (is_dropped c e)
      (λ t. rw t (unsettled-unsettled l))
      (λ t. rw t ((neither (eqb e.value 0) (settled c e.key) t).1, unsettled-unsettled l))

  -- the count carried of an offset: what was read, or none where it is settled
  pub carried-after : (lo o : ℕ) (l : List (Entry ℕ)) → Rising lo l
      → count_or0 (lookup o (unsettled_counts c l)) ≡ cond (settled c o) 0 (count_or0 (lookup o l))
  carried-after lo o [] r = split (settled c o) (λ t. rw t) (λ t. rw t)
  carried-after lo o (e ∷ l) r =
      let rest = carried-after (suc e.key) o l r.1 in
      split (eqb o e.key)
      (λ q.
      let same : o ≡ e.key = eqb-true o e.key q in
      let behind = rw (lookup-under (suc e.key) o l r.1 (omega arith)) at rest in
      split (eqb e.value 0)
      (λ z. rw (z, q, eqb-true e.value 0 z) behind)
      (λ z. split (settled c e.key)
      (λ t. let u : settled c o ≡ true = rw same t in rw (z, t, q, u) (rw u at behind))
      (λ t. let u : settled c o ≡ false = rw same t in rw (z, t, q, u))))
      (λ q. split (is_dropped c e) (λ t. rw (t, q) rest) (λ t. rw (t, q) rest))

  carries : (l : List (Entry ℕ)) → Rising 0 l → PairsFit l → length l ≤ CARRIED → Carries c (unsettled_counts c l)
  carries l r f n =
      record {
        rising = unsettled-rising 0 l r;
        few = omega (arith, unsettled-length l);
        counted = unsettled-counted l f;
        unsettled = unsettled-unsettled l;
      }

-- ## What is read from two snapshots
module _ (c : Configuration) (size : ℕ) (s : State) (p : StartOpen c size) (f : Fits c.settings) where
  both-valid : (x : Result Cursor) (y : Result (List (Entry ℕ))) (ceiling : ℕ) (next : NextGroup)
      → ((cursor : Cursor) → x ≡ done cursor → cursors.Valid cursor)
      → ((cursor : Cursor) (l : List (Entry ℕ)) → y ≡ done l → Carries cursor (unsettled_counts cursor l))
      → ceiling ≤ MAX → NextGroupFits size next → from_snapshots c size x y ceiling next ≡ done s → Valid s
  both-valid (refused r) y ceiling next v w fits at e = refused_not_done e
  both-valid (done cursor) (refused r) ceiling next v w fits at e = refused_not_done e
  both-valid (done cursor) (done l) ceiling next v w fits at e =
      rw (← done_inj e)
      (resumed-valid c size p f cursor (unsettled_counts cursor l) ceiling next (v cursor refl) (w cursor l refl) fits at)

  snapshots-valid : (b d : List ℕ) → IsBytes b → IsBytes d → (ceiling : ℕ) (next : NextGroup) → ceiling ≤ MAX → NextGroupFits size next
      → from_snapshots c size (decode_cursor b) (decode_attempts d) ceiling next ≡ done s → Valid s
  snapshots-valid b d hb hd ceiling next fits at e =
      both-valid (decode_cursor b) (decode_attempts d) ceiling next
      (λ cursor q. decoded-valid b cursor hb q)
      (λ cursor l q. carries cursor l (decoded-rising d l q) (decoded-fit d l hd q) (decoded-few d l q))
      fits at e

-- ## What is read from an area of bytes
module _ (a : List ℕ) (h : IsBytes a) where
  bytes-block : (i : ℕ) → IsBytes (block_at a i)
  unfolding block_at
  bytes-block i = bytes_take 512 (drop (512 * i) a) (bytes_drop (512 * i) a h)

  bytes-contents : (m i : ℕ) → IsBytes (contents a m i)
  bytes-contents zero i = tt
  bytes-contents (suc m) i =
      bytes-append (content_of (block_at a i)) (contents a m (suc i))
      (bytes_take 500 (drop 8 (block_at a i)) (bytes_drop 8 (block_at a i) (bytes-block i))) (bytes-contents m (suc i))

  bytes-payload : (i : ℕ) → IsBytes (payload a i)
  unfolding payload
  bytes-payload i =
      let t = payload_length (block_at a i) in
      bytes_take t (contents a (bodies_for t) (suc i)) (bytes-contents (bodies_for t) (suc i))

  -- the number behind the last group: it is the first one expected, or one more than a header's
  next_fits : (l : Option ℕ) (k e : ℕ) → LastIs a (limit a) none (origin a).number (origin a).block l k e → k ≤ suc MAX32
  next_fits l k e (at_once p q r) = omega (arith, q, origin-fits a bytes-block)
  next_fits l k e (behind i m p q r t g) = omega (arith, q, g.header.number, number_lt 4 4 (block_at a i) (bytes-block i))

  module _ (c : Configuration) (s : State) (p : StartOpen c (length a)) (f : Fits c.settings) where
    group-valid : (i : ℕ) (next : NextGroup) → NextGroupFits (length a) next → read_group c a i next ≡ done s → Valid s
    group-valid i next at e =
        let lc = cursor_length (block_at a i) in
        let la = attempt_length (block_at a i) in
        snapshots-valid c (length a) s p f (take lc (payload a i)) (take la (drop lc (payload a i)))
        (bytes_take lc (payload a i) (bytes-payload i))
        (bytes_take la (drop lc (payload a i)) (bytes_drop lc (payload a i) (bytes-payload i)))
        (ceiling_of (block_at a i)) next
        (omega (arith, number_lt 8 8 (block_at a i) (bytes-block i)))
        at e

    last-valid : (last : Option ℕ) (next : NextGroup) → NextGroupFits (length a) next → last_group c a last next ≡ done s → Valid s
    last-valid none next at e = rw (← done_inj e) (fresh-valid c (length a) p f)
    last-valid (some i) next at e = group-valid i next at e

    walked-valid : (w : Result Stop) → walk_of a ≡ w → from_walk c a w ≡ done s → Valid s
    unfolding from_walk
    walked-valid (refused r) q e = refused_not_done e
    walked-valid (done end) q e =
        let r = walk-ended a (limit a) none (origin a).number (origin a).block end.last end.number end.block q in
        let next : NextGroup = next_group_at end.number end.block in
        let half = limit-within a in
        last-valid end.last next
        (record { within = omega (arith, r.within half.0, half.1); numbered = next_fits end.last end.number end.block r.last-is })
        (checked-says (end_table a end) (last_group c a end.last next) s e).1

-- every area: whatever its bytes are, the restart is refused or the invariant holds
pub restart-valid : (c : Configuration) (a : List ℕ) (s : State) → IsBytes a → restart c a ≡ done s → Fits c.settings → Valid s
unfolding restart
restart-valid c a s h e f =
    let d = checked-says (start_table c (length a)) (from_walk c a (walk_of a)) s e in
    walked-valid a h c s (start_open c (length a) d.0) f (walk_of a) refl d.1

-- every two lists of bytes
pub import-valid : (c : Configuration) (size first : ℕ) (b d : List ℕ) (s : State) → first ≤ MAX → IsBytes b → IsBytes d
    → import c size first b d ≡ done s → Fits c.settings → Valid s
unfolding import
import-valid c size first b d s fits hb hd e f =
    let r = checked-says (start_table c size) (from_snapshots c size (decode_cursor b) (decode_attempts d) first (next_group_at 1 0)) s e in
    snapshots-valid c size s (start_open c size r.0) f b d hb hd first (next_group_at 1 0) fits
    (record { within = omega arith; numbered = omega arith }) r.1
