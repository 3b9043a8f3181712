-- Blocks that are written again after a sync that failed: those that it left are overwritten, and no block is left as one power failure couldn't
-- leave it. Assumes nothing.
use Prim.Native.Nat.{ℕ, zero, suc, ◌+◌, ◌*◌, ◌/◌, ◌%◌, ◌≤◌, ◌<◌}
use native.Mathlib.Omega.{arith}
use native.Mathlib.Decide.{ℕ_discrete}
use mathlib.Core.Path.{◌≡◌, refl, sym, ap, ◌∙◌}
use mathlib.Core.List.{List, [], ◌∷◌, ◌++◌}
use lib.ListN.{length, take, drop, length-drop, take-append-drop}
use lib.Seq.{drop-drop}
use Rattle.types.specs.Table.{Passed}
use Rattle.types.proofs.Cases.{split}
use Rattle.journal.specs.Area.{block_at, write_at}
use Rattle.journal.proofs.Area.{write-length, write_same, write-other, whole_says}
use Rattle.consumer.specs.State.{Configuration}
use Rattle.consumer.proofs.Area.{area-taken}
use Rattle.starts.specs.Restart.{start_table}
use Rattle.starts.proofs.Open.{start_open}
use Rattle.machine.specs.Transitions.{Phase, idle, writing, off}
use Rattle.power_cut.specs.Cut.{Cut, old, new, torn, is_torn}
use Rattle.crash_safety.specs.Book.{Book, book_after}
use Rattle.crash_safety.specs.ForGood.{FindsNow}
use Rattle.crash_safety.specs.Disk.{Write, Disk, disk, written, area, answers, survivors, failed_by, Among, first, later, LeftOf, as_held, as_written, as_torn, Whole, BlockByBlock}
use Rattle.crash_safety.specs.Unordered.{DiskItem, OnDisk, ends_on, run_on, fresh_disk}
use Rattle.crash_safety.specs.FailedSyncs.{Tried, not_yet, fails, LeftBy, AfterTries, FailedSyncs}
use Rattle.crash_safety.proofs.Law.{Ledger, empty_ledger, noted, Law, folded, folded-book}
use Rattle.crash_safety.proofs.Invariant.{restored}
use Rattle.crash_safety.proofs.Journals.{restart-finds}
use Rattle.crash_safety.proofs.Writes.{torn-block}
use Rattle.crash_safety.proofs.Start.{begins_well}
use Rattle.crash_safety.proofs.OnDisk.{at-end-on}
use Rattle.crash_safety.proofs.Unordered.{Standing, InvOn, sync-kept, kept_on}
use Rattle.crash_safety.proofs.Failure.{block-by-block}
use Rattle.crash_safety.proofs.AsToday.{standing-whole}

-- ## areas of whole blocks are their blocks
empty : (a : List ℕ) → length a ≡ 0 → a ≡ []
empty [] e = refl
empty (x ∷ a) e = absurd (omega arith)

next-block : (a : List ℕ) (i : ℕ) → block_at (drop 512 a) i ≡ block_at a (suc i)
unfolding block_at
next-block a i =
    let at : 512 + 512 * i ≡ 512 * suc i = omega arith in
    ap (take 512) (drop-drop (512 * i) 512 a ∙ ap (λ k. drop k a) at)

same_blocks : (k : ℕ) (a b : List ℕ) → length a ≡ 512 * k → length b ≡ 512 * k → ((i : ℕ) → i < k → block_at a i ≡ block_at b i) → a ≡ b
unfolding block_at
same_blocks zero a b la lb h = empty a (omega (arith, la)) ∙ sym (empty b (omega (arith, lb)))
same_blocks (suc k) a b la lb h =
    let front : take 512 a ≡ take 512 b = h 0 (omega arith) in
    let rest : drop 512 a ≡ drop 512 b =
    same_blocks k (drop 512 a) (drop 512 b) (simp length-drop (omega (arith, la))) (simp length-drop (omega (arith, lb)))
    (λ i l. next-block a i ∙ h (suc i) (omega arith) ∙ sym (next-block b i)) in
    let both : take 512 a ++ drop 512 a ≡ take 512 b ++ drop 512 b = rw (front, rest) in
    sym (take-append-drop 512 a) ∙ both ∙ take-append-drop 512 b

-- ## writes keep the length
abbrev Inside : ℕ → List Write → Type 0
Inside n ws = (w : Write) → Among w ws → (w.place.block < n / 512) × (length w.bytes ≡ 512)

written-length : (n : ℕ) (ws : List Write) (a : List ℕ) → length a ≡ n → Inside n ws → length (written a ws) ≡ n
unfolding written
written-length n [] a e h = e
written-length n (w ∷ ws) a e h =
    let k = h w first in
    written-length n ws (write_at a w.place.block w.bytes) (write-length a w.place.block w.bytes (omega (arith, k.0, e)) k.1 ∙ e) (λ x m. h x (later m))

one_inside : (n : ℕ) (y : Write) (ys : List Write) → (y.place.block < n / 512) × (length y.bytes ≡ 512) → Inside n ys → Inside n (y ∷ ys)
one_inside n y ys k r x first = k
one_inside n y ys k r x (later m) = r x m

survivors-inside : (n : ℕ) (ws : List Write) (ks : List Cut) → Inside n ws → Inside n (survivors ws ks)
unfolding survivors
survivors-inside n [] ks h = λ x m. elim m [ ]
survivors-inside n (w ∷ ws) [] h = λ x m. elim m [ ]
survivors-inside n (w ∷ ws) (old ∷ ks) h = survivors-inside n ws ks (λ x m. h x (later m))
survivors-inside n (w ∷ ws) (new ∷ ks) h = one_inside n w (survivors ws ks) (h w first) (survivors-inside n ws ks (λ x m. h x (later m)))
survivors-inside n (w ∷ ws) (torn b ∷ ks) h =
    let rest = survivors-inside n ws ks (λ x m. h x (later m)) in
    split (is_torn b) (λ t. rw t (one_inside n _ (survivors ws ks) ((h w first).0, (torn-block b t).0) rest)) (λ t. rw t rest)

-- ## what is written again
-- a block is the same on both areas, or is written
data Agree (a b : List ℕ) (ws : List Write) (i : ℕ) : Type 0 where
  same : block_at a i ≡ block_at b i → Agree a b ws i
  written-there : (w : Write) → Among w ws → w.place.block ≡ i → Agree a b ws i

again-same : (n : ℕ) (ws : List Write) (a b : List ℕ) → length a ≡ n → length b ≡ n → Inside n ws → (i : ℕ) → Agree a b ws i
    → block_at (written a ws) i ≡ block_at (written b ws) i
unfolding written
again-same n [] a b la lb h i (same e) = e
again-same n [] a b la lb h i (written-there w m e) = absurd (elim m [ ])
again-same n (w ∷ ws) a b la lb h i agree =
    let j : ℕ = w.place.block in
    let x : List ℕ = w.bytes in
    let k = h w first in
    let fa : 512 * j + 512 ≤ length a = omega (arith, k.0, la) in
    let fb : 512 * j + 512 ≤ length b = omega (arith, k.0, lb) in
    again-same n ws (write_at a j x) (write_at b j x) (write-length a j x fa k.1 ∙ la) (write-length b j x fb k.1 ∙ lb) (λ y m. h y (later m)) i
    (elim (ℕ_discrete i j) [
      | yes q ↦ same (rw q (write_same a j x fa k.1 ∙ sym (write_same b j x fb k.1)))
      | no q ↦ moved fa fb k.1 q agree
    ])
  where
    moved : 512 * w.place.block + 512 ≤ length a → 512 * w.place.block + 512 ≤ length b → length w.bytes ≡ 512 → (i ≡ w.place.block → ⊥)
        → Agree a b (w ∷ ws) i → Agree (write_at a w.place.block w.bytes) (write_at b w.place.block w.bytes) ws i
    moved fa fb whole q (same e) =
        same (write-other a w.place.block w.bytes fa whole i q ∙ e ∙ sym (write-other b w.place.block w.bytes fb whole i q))
    moved fa fb whole q (written-there y first e) = absurd (q (sym e))
    moved fa fb whole q (written-there y (later m) e) = written-there y m e

-- ## after syncs that failed
module _ (d : Disk) (n : ℕ) (size : length d.held ≡ n) (whole : Whole d) (even : n % 512 ≡ 0) where
  inside : Inside n d.pending
  inside w m = rw (← size) (whole w m)

  -- each block is as one power failure may leave it
  record Left (a : List ℕ) : Type 0 where
    long : length a ≡ n
    each : (i : ℕ) → LeftOf d i (block_at a i)

  left-on : (a : List ℕ) → Left a → (i : ℕ) (b : List ℕ) → LeftOf (disk a d.pending) i b → LeftOf d i b
  left-on a k i b (as_held e) = rw e (k.each i)
  left-on a k i b (as_written w m q t) = as_written w m q t
  left-on a k i b (as_torn w m q t) = as_torn w m q t

  tried_left : (a : List ℕ) → Tried d a → Left a
  unfolding BlockByBlock
  tried_left x not_yet = record { long = size; each = λ i. as_held refl }
  tried_left x (fails a ks t) =
      let k = tried_left a t in
      record {
        long = written-length n (survivors d.pending ks) a k.long (survivors-inside n d.pending ks inside);
        each = λ i. left-on a k i _ ((block-by-block (disk a d.pending) (λ w m. rw k.long (inside w m))).only ks i);
      }

  abbrev many : ℕ
  many = n / 512

  all_blocks : n ≡ 512 * many
  all_blocks = omega arith

  agree : (a : List ℕ) → Left a → (i : ℕ) → Agree a d.held d.pending i
  agree a k i = go (k.each i)
    where
      go : LeftOf d i (block_at a i) → Agree a d.held d.pending i
      go (as_held e) = same e
      go (as_written w m q t) = written-there w m q
      go (as_torn w m q t) = written-there w m q

  again : (a : List ℕ) → Left a → written a d.pending ≡ area d
  again a k =
      same_blocks many (written a d.pending) (area d)
      (written-length n d.pending a k.long inside ∙ all_blocks)
      (written-length n d.pending d.held size inside ∙ all_blocks)
      (λ i l. again-same n d.pending a d.held k.long size inside i (agree a k i))

  one_failure : (a : List ℕ) → Left a → LeftBy d a
  unfolding BlockByBlock
  one_failure a k =
      let x = (block-by-block d whole).any (λ i. block_at a i) (λ i l. k.each i) in
      record {
        fates = x.fates;
        left = same_blocks many (failed_by d x.fates).held a
            (written-length n (survivors d.pending x.fates) d.held size (survivors-inside n d.pending x.fates inside) ∙ all_blocks)
            (k.long ∙ all_blocks)
            (λ i l. x.left i (rw size l));
      }

  after_tries : (c : Configuration) (b : Book) (a : List ℕ) → Tried d a → FindsNow c (area d) (book_after b (answers d.pending)).copy
      → AfterTries c b d a
  after_tries c b a t found =
      let same : written a d.pending ≡ area d = again a (tried_left a t) in
      record { durable = same; found = rw same found; lost = λ ks. one_failure _ (tried_left _ (fails a ks t)) }

-- ## every list
standing-size : (c : Configuration) (n : ℕ) (l : Ledger) (p : Phase) (a : List ℕ) (ws : List Write) → Standing c n l p a ws → length a ≡ n
standing-size c n l (idle s) a [] inv = inv.journal.size
standing-size c n l (idle s) a (k ∷ ks) f = f.inv.journal.size
standing-size c n l (writing w) a ws u = u.journal.size
standing-size c n l off a [] inv = inv.journal.size
standing-size c n l off a (k ∷ ks) f = absurd f

-- from whatever is within the invariant
pub tries_after : (c : Configuration) (n : ℕ) → Passed (start_table c n) → (begun : Ledger) (w : OnDisk) → InvOn c n begun w → (items : List DiskItem)
    → (a : List ℕ) → Tried (ends_on c w items).disk a → AfterTries c (book_after begun.book (run_on c w items)) (ends_on c w items).disk a
tries_after c n accepted begun w at_first items a t =
    let left = ends_on c w items in
    let l = folded noted begun (run_on c w items) in
    let inv = at-end-on noted (Law c.settings.policy) (InvOn c n) c (kept_on c n accepted) items begun w at_first in
    let area-is = area-taken n (start_open c n accepted).area in
    let es = run_on c w items in
    let k = (sync-kept c n l left.phase left.disk.held left.disk.pending inv).inv in
    let books = folded-book (answers left.disk.pending) l ∙ ap (λ b. book_after b (answers left.disk.pending)) (folded-book es begun) in
    after_tries left.disk n (standing-size c n l left.phase left.disk.held left.disk.pending inv)
    (standing-whole c n l left.phase left.disk.held left.disk.pending inv) (whole_says n area-is).whole c
    (book_after begun.book es) a t
    (record {
      state = restored c n k.saved;
      answered = restart-finds c n (area left.disk) k.saved accepted k.journal;
      finds = rw (← books) k.finds;
    })

pub failed-syncs : FailedSyncs
unfolding FailedSyncs
failed-syncs c n s items f e a t =
    let b = begins_well c n s f e in
    tries_after c n b.accepted empty_ledger (fresh_disk s n) b.inv items a t
