-- Room for a claim among leases and counts, and for an ack among ranges: an offset that has both is free. Outside a dead end one is, and in
-- a dead end none; what takes room leaves no offset free that was not. Assumes nothing.
use Prim.Native.Nat.{ℕ, suc, ◌+◌, ◌≤◌, ◌<◌}
use native.Mathlib.Omega.{arith}
use native.Mathlib.Decide.{ℕ_discrete}
use mathlib.Core.Path.{◌≡◌, refl, sym, ◌∙◌}
use mathlib.Core.Bool.{Bool, true, false, cond, ◌&&◌, ◌||◌}
use mathlib.Core.List.{List, [], ◌∷◌}
use mathlib.Core.Option.{Option, none, some, none-ne-some}
use lib.Dec.{leb, eqb}
use lib.ListN.{length}
use borrow.Author.Tests.{eqb-true, eqb-false, ne_eqb, eq-eqb, leb-false, lt-leb, le-ltb}
use Rattle.types.specs.Limits.{MAX, LEASES, CARRIED, RANGES}
use Rattle.types.specs.Keyed.{Entry, Rising, lookup, update, delete}
use Rattle.types.proofs.Cases.{split, both, neither}
use Rattle.types.proofs.Keyed.{lookup-under, delete-absent, lookup-put-other, lookup-all, lookup-update, length-put-old, length-put-new, length-update}
use Rattle.cursor.specs.Cursor.{Cursor, fragments}
use Rattle.cursor.proofs.Ranges.{inside-above}
use Rattle.lease.specs.declared.Lease.{Lease}
use Rattle.lease.specs.State.{Table, Counted, with_leases}
use Rattle.lease.specs.Operations.{lease, lease_of, deadline_from, next_count, consumed, grant}
use Rattle.consumer.specs.State.{State}
use Rattle.consumer.specs.Calls.{is_full}
use Rattle.consumer.specs.Valid.{Valid}
use Rattle.consumer.proofs.Valid.{consumed-other}
use Rattle.crash_safety.specs.DeadEnds.{Free, FreeOne, none_settled, is_jammed, is_dead}
use Rattle.journal.proofs.Sound.{differ}

-- ## room for a claim
pub record Room (t : Table) (o : ℕ) : Type 0 where
  pub leases : lease_of t o ≡ none → length t.leases < LEASES
  pub counts : lease_of t o ≡ none → lookup o t.carried ≡ none → length t.leases + length t.carried < CARRIED

module _ (t : Table) (o : ℕ) where
  pub room_says : is_full t o ≡ false → Room t o
  room_says e =
      record {
        leases = λ p. leb-false LEASES (length t.leases) (neither (leb LEASES (length t.leases)) _ (rw p at e)).0;
        counts = λ p q. leb-false CARRIED (length t.leases + length t.carried) (neither (leb LEASES (length t.leases)) _ (rw (p, q) at e)).1;
      }

  pub says-room : Room t o → is_full t o ≡ false
  says-room r = go (lease_of t o) refl (lookup o t.carried) refl
    where
      go : (x : Option Lease) → lease_of t o ≡ x → (y : Option ℕ) → lookup o t.carried ≡ y → is_full t o ≡ false
      go (some l) e y f = rw e
      go none e (some m) f = rw (e, f, lt-leb LEASES (length t.leases) (r.leases e))
      go none e none f =
          rw (e, f, lt-leb LEASES (length t.leases) (r.leases e), lt-leb CARRIED (length t.leases + length t.carried) (r.counts e f))

-- an offset that has a lease needs none
pub leased-room : (t : Table) (o : ℕ) (l : Lease) → lease_of t o ≡ some l → Room t o
leased-room t o l f =
    record { leases = λ p. absurd (none-ne-some l (sym p ∙ f)); counts = λ p q. absurd (none-ne-some l (sym p ∙ f)) }

-- ## free offsets
pub has_room : (s : State) (x : ℕ) → Free s x → Room s.table x
has_room s x f = room_says s.table x f.room

-- of offsets in a list that can't be settled, each can't
pub none_at : {A : Type 0} (c : Cursor) (l : List (Entry A)) (k : ℕ) (v : A) → none_settled c l ≡ true → lookup k l ≡ some v
    → (fragments c k RANGES || eqb k MAX) ≡ true
none_at c [] k v e q = absurd (none-ne-some v q)
none_at c (x ∷ l) k v e q =
    let b = both (fragments c x.key RANGES || eqb x.key MAX) (none_settled c l) e in
    split (eqb k x.key)
    (λ t. rw (eqb-true k x.key t) b.0)
    (λ t. none_at c l k v b.1 (rw t at q))

-- and else one can
pub record Some {A : Type 0} (c : Cursor) (l : List (Entry A)) : Type 0 where
  pub key : ℕ
  pub value : A
  pub found : lookup key l ≡ some value
  pub not_shed : fragments c key RANGES ≡ false
  pub not_last : key ≡ MAX → ⊥

pub some_at : {A : Type 0} (c : Cursor) (lo : ℕ) (l : List (Entry A)) → Rising lo l → none_settled c l ≡ false → Some c l
some_at c lo [] r e = absurd (differ refl e)
some_at {A} c lo (x ∷ l) r e =
    split (fragments c x.key RANGES || eqb x.key MAX)
    (λ t.
    let s : Some c l = some_at c (suc x.key) l r.1 (rw t at e) in
    record {
      key = s.key;
      value = s.value;
      found = elim (ℕ_discrete s.key x.key) [
        | yes q ↦ absurd (none-ne-some s.value (sym (lookup-under (suc x.key) s.key l r.1 (omega arith)) ∙ s.found))
        | no q ↦ rw (ne_eqb s.key x.key q) s.found
      ];
      not_shed = s.not_shed;
      not_last = s.not_last;
    })
    (λ t.
    let n = neither (fragments c x.key RANGES) (eqb x.key MAX) t in
    record {
      key = x.key;
      value = x.value;
      found = rw (eq-eqb x.key x.key refl);
      not_shed = n.0;
      not_last = eqb-false x.key MAX n.1;
    })

module _ (s : State) (v : Valid s) where
  abbrev committed : ℕ
  committed = s.cursor.committed

  -- the lowest open offset can always be settled
  pub lowest-free : committed < MAX → Room s.table committed → Free s committed
  lowest-free m r =
      record {
        below = m;
        unsettled = rw (le-ltb committed committed (omega arith)) (inside-above committed committed s.cursor.ahead v.cursor.above (omega arith));
        room = says-room s.table committed r;
        not_shed = rw (eq-eqb committed committed refl) (and_nothing (leb 128 (length s.cursor.ahead)));
      }
    where
      and_nothing : (b : Bool) → (b && false) ≡ false
      and_nothing true = refl
      and_nothing false = refl

  -- ## outside a dead end
  pub one-is-free : committed < MAX → is_dead s ≡ false → FreeOne s
  one-is-free m e =
      let n = neither (is_jammed s) (none_settled s.cursor s.table.leases && leb LEASES (length s.table.leases)) e in
      split (none_settled s.cursor s.table.leases)
      (λ t. split (none_settled s.cursor s.table.carried)
      (λ u.
      let few : length s.table.leases < LEASES = leb-false LEASES (length s.table.leases) (rw t at n.1) in
      let all : length s.table.leases + length s.table.carried < CARRIED =
      leb-false CARRIED (length s.table.leases + length s.table.carried) (rw (t, u) at n.0) in
      record { offset = committed; free = lowest-free m (record { leases = λ p. few; counts = λ p q. all }) })
      (λ u.
      let few : length s.table.leases < LEASES = leb-false LEASES (length s.table.leases) (rw t at n.1) in
      let x : Some s.cursor s.table.carried = some_at s.cursor 0 s.table.carried v.table.carried-rising u in
      let fine = lookup-all Counted x.key x.value s.table.carried v.table.carried-counted x.found in
      record {
        offset = x.key;
        free = record {
          below = omega (arith, fine.offset-fits, x.not_last);
          unsettled = v.carried x.key x.value x.found;
          room = says-room s.table x.key (record { leases = λ p. few; counts = λ p q. absurd (none-ne-some x.value (sym q ∙ x.found)) });
          not_shed = x.not_shed;
        };
      }))
      (λ t.
      let x : Some s.cursor s.table.leases = some_at s.cursor 0 s.table.leases v.table.rising t in
      let own = v.leased x.key x.value x.found in
      record {
        offset = x.key;
        free = record {
          below = own.below;
          unsettled = own.unsettled;
          room = says-room s.table x.key (leased-room s.table x.key x.value x.found);
          not_shed = x.not_shed;
        };
      })

  -- ## in a dead end
  pub none_is-free : is_dead s ≡ true → (x : ℕ) → Free s x → ⊥
  none_is-free e x f = go (lease_of s.table x) refl (lookup x s.table.carried) refl
    where
      stuck : (fragments s.cursor x RANGES || eqb x MAX) ≡ true → ⊥
      stuck t = differ t (rw (f.not_shed, ne_eqb x MAX (λ q. omega (arith, f.below))))

      -- none of the leased can be settled in either case
      held : none_settled s.cursor s.table.leases ≡ true
      held =
          split (none_settled s.cursor s.table.leases)
          (λ t. t)
          (λ t. absurd (differ e (rw t)))

      go : (l : Option Lease) → lease_of s.table x ≡ l → (y : Option ℕ) → lookup x s.table.carried ≡ y → ⊥
      go (some l) p y q = stuck (none_at s.cursor s.table.leases x l held p)
      go none p y q =
          let few : leb LEASES (length s.table.leases) ≡ false = lt-leb LEASES (length s.table.leases) ((has_room s x f).leases p) in
          let jam : none_settled s.cursor s.table.carried ≡ true =
          split (none_settled s.cursor s.table.carried) (λ t. t) (λ t. absurd (differ e (rw (held, t, few)))) in
          counted p jam few y q
        where
          counted : lease_of s.table x ≡ none → none_settled s.cursor s.table.carried ≡ true → leb LEASES (length s.table.leases) ≡ false
              → (y : Option ℕ) → lookup x s.table.carried ≡ y → ⊥
          counted p jam few (some m) q = stuck (none_at s.cursor s.table.carried x m jam q)
          counted p jam few none q =
              differ e (rw (held, jam, few, lt-leb CARRIED (length s.table.leases + length s.table.carried) ((has_room s x f).counts p q)))

-- ## what takes room
-- a key is there once at most
delete-one : {A : Type 0} (lo k : ℕ) (l : List (Entry A)) → Rising lo l → length l ≤ suc (length (delete k l))
delete-one lo k [] r = omega arith
delete-one lo k (e ∷ l) r =
    split (eqb k e.key)
    (λ t. rw (t, gone e.key k l r.1 (eqb-true k e.key t)) (omega arith))
    (λ t. rw t (omega (arith, delete-one (suc e.key) k l r.1)))
  where
    gone : {A : Type 0} (x k : ℕ) (l : List (Entry A)) → Rising (suc x) l → k ≡ x → delete k l ≡ l
    gone x k l r q = delete-absent k l (lookup-under (suc x) k l r (omega arith))

-- a first grant, and one of an offset that has a lease, take no room away that was not there
module _ (t : Table) (w o now : ℕ) (rising : Rising 0 t.leases) (carried-rising : Rising 0 t.carried) (own : Room t o) where
  abbrev pub new : Lease
  new = lease t.next_generation now (deadline_from t.config now now) (next_count t o) w

  pub grant-longer : (length t.leases ≤ length (grant t w o now).leases)
      × (length t.leases + length t.carried ≤ length (grant t w o now).leases + length (grant t w o now).carried)
  grant-longer = go (lease_of t o) refl
    where
      go : (x : Option Lease) → lease_of t o ≡ x → (length t.leases ≤ length (grant t w o now).leases)
          × (length t.leases + length t.carried ≤ length (grant t w o now).leases + length (consumed x o t.carried))
      go (some l) e =
          let same = length-put-old 0 o new l t.leases rising e in
          (omega (arith, same), omega (arith, same))
      go none e =
          let more = length-put-new o new t.leases e in
          (omega (arith, more), omega (arith, more, delete-one 0 o t.carried carried-rising))

  pub room-before : (x : ℕ) → Room (grant t w o now) x → Room t x
  room-before x r =
      elim (ℕ_discrete x o) [
        | yes q ↦ rw q own
        | no q ↦
            let apart : eqb x o ≡ false = ne_eqb x o q in
            let held : lease_of (grant t w o now) x ≡ lease_of t x = lookup-put-other x o new t.leases apart in
            let count : lookup x (grant t w o now).carried ≡ lookup x t.carried = consumed-other x o t.carried (lease_of t o) apart in
            record {
              leases = λ p. omega (arith, r.leases (held ∙ p), grant-longer.0);
              counts = λ p y. omega (arith, r.counts (held ∙ p) (count ∙ y), grant-longer.1);
            }
      ]

-- a lease changed in its place takes none
pub room-updated : (t : Table) (o x : ℕ) (f : Lease → Lease) → Room (with_leases t (update o f t.leases)) x → Room t x
room-updated t o x f r =
    record {
      leases = λ p. omega (arith, r.leases (still p), length-update o f t.leases);
      counts = λ p q. omega (arith, r.counts (still p) q, length-update o f t.leases);
    }
  where
    still : lease_of t x ≡ none → lookup x (update o f t.leases) ≡ none
    still p = lookup-update x o f t.leases ∙ rw p (either (eqb x o))
      where
        either : (b : Bool) → cond {A = Option Lease} b none none ≡ none
        either true = refl
        either false = refl
