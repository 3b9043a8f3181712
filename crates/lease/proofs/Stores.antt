-- What a store among the words of a table, and a column that was lent and comes back, make of the table that the words are.
-- Assumes nothing.
use Prim.Native.Nat.{ℕ, ◌+◌, ◌-◌, ◌≤◌, ◌<◌}
use native.Mathlib.Omega.{arith}
use mathlib.Core.Path.{◌≡◌, refl, sym, ap, ◌∙◌}
use mathlib.Core.Bool.{Bool, true, false, cond, ◌&&◌}
use mathlib.Core.List.{List, ◌++◌}
use lib.Dec.{leb}
use lib.ListN.{length, take, drop, get_or, set, length-set, take-append-drop}
use lib.Seq.{get_or-set_same}
use borrow.Rule.Slice.PartMut.{put_mid, same_len_mid}
use Rattle.types.specs.Limits.{MAX32, LEASES, CARRIED}
use Rattle.types.specs.Zipped.{removed}
use Rattle.words.specs.Columns.{word, column, spliced}
use Rattle.words.proofs.Columns.{column-is, spliced-is, column-length, column-at, column-stored, column-kept, column-beside, column-spliced, spliced-length, word_kept, word-beside, number-kept, other-kept}
use Rattle.tables.specs.Columns.{put_in, takenOut}
use Rattle.tables.specs.Slots.{set_aside}
use Rattle.tables.specs.Search.{Placed, span_of}
use Rattle.tables.specs.declared.counts.Span.{Span}
use Rattle.tables.specs.declared.Place.{Place}
use Rattle.tables.specs.declared.Place.TheVariants.{Found, Missing}
use Rattle.tables.proofs.Search.{found-used}
use Rattle.redeliveries.specs.Counter.{after_grant}
use Rattle.lease.specs.Operations.{lease, deadline_from}
use Rattle.lease.specs.Parts.{gathered, leasing, carrying, removing, slot_in}
use Rattle.lease.specs.Layout.{LEN, CARRIED-LEN, NEXT, REDELIVERIES, VISIBILITY, HARD-CAP, OFFSETS, SLOTS, GENERATIONS, STARTS, DEADLINES, DELIVERIES, WORKERS, CARRIED-OFFSETS, CARRIED-COUNTS, WORDS, config_in, table_in, Fits}
use Rattle.lease.specs.Stored.{held_at, holding, numbered, granting, placing, displacing, passing, Passes}
use Rattle.lease.specs.declared.Lease.{Lease}
use Rattle.lease.specs.declared.LeaseConfig.{LeaseConfig}
use Rattle.lease.specs.declared.LeaseTable.{LeaseTable}

-- ## a table with another column of leases, and with other times
abbrev regenerated : LeaseTable → List ℕ → LeaseTable
regenerated t c = leasing t.len t.offsets t.slots c t.attempt_starts t.deadlines t.deliveries t.workers t

abbrev pub timed : List ℕ → List ℕ → LeaseTable → LeaseTable
timed ss ds t = leasing t.len t.offsets t.slots t.generations ss ds t.deliveries t.workers t

abbrev recounted : LeaseTable → List ℕ → LeaseTable
recounted t c = leasing t.len t.offsets t.slots t.generations t.attempt_starts t.deadlines c t.workers t

abbrev rehired : LeaseTable → List ℕ → LeaseTable
rehired t c = leasing t.len t.offsets t.slots t.generations t.attempt_starts t.deadlines t.deliveries c t

-- and with another configuration
abbrev pub configured : LeaseConfig → LeaseTable → LeaseTable
configured c t =
    gathered c t.len t.carried_len t.next_generation.0 t.redeliveries_since_flush t.offsets t.slots t.generations t.attempt_starts t.deadlines
    t.deliveries t.workers t.carried_offsets t.carried_counts

-- ## a store in a column
module _ (w : List ℕ) (s v : ℕ) (h : s < LEASES) where
  stored_slot : table_in (set w (SLOTS + s) v) ≡ removing (table_in w).len (table_in w).offsets (set (table_in w).slots s v) (table_in w)
  stored_slot = simp (column-stored SLOTS LEASES w s v h, column-kept SLOTS LEASES, word_kept SLOTS LEASES)

  stored-generation : table_in (set w (GENERATIONS + s) v) ≡ regenerated (table_in w) (set (table_in w).generations s v)
  stored-generation = simp (column-stored GENERATIONS LEASES w s v h, column-kept GENERATIONS LEASES, word_kept GENERATIONS LEASES)

  stored-start : table_in (set w (STARTS + s) v) ≡ timed (set (table_in w).attempt_starts s v) (table_in w).deadlines (table_in w)
  stored-start = simp (column-stored STARTS LEASES w s v h, column-kept STARTS LEASES, word_kept STARTS LEASES)

  stored-deadline : table_in (set w (DEADLINES + s) v) ≡ timed (table_in w).attempt_starts (set (table_in w).deadlines s v) (table_in w)
  stored-deadline = simp (column-stored DEADLINES LEASES w s v h, column-kept DEADLINES LEASES, word_kept DEADLINES LEASES)

  stored-count : table_in (set w (DELIVERIES + s) v) ≡ recounted (table_in w) (set (table_in w).deliveries s v)
  stored-count = simp (column-stored DELIVERIES LEASES w s v h, column-kept DELIVERIES LEASES, word_kept DELIVERIES LEASES)

  stored-worker : table_in (set w (WORKERS + s) v) ≡ rehired (table_in w) (set (table_in w).workers s v)
  stored-worker = simp (column-stored WORKERS LEASES w s v h, column-kept WORKERS LEASES, word_kept WORKERS LEASES)

-- a lease stored at a place, number by number
pub stored-lease : (w : List ℕ) (at s : ℕ) → s ≡ slot_in (table_in w).slots at → s < LEASES → (l : Lease) (n k : ℕ) → n ≡ l.deliveries → k ≡ l.worker
    → table_in (set (set (set (set (set w (GENERATIONS + s) l.generation.0) (STARTS + s) l.attempt_start) (DEADLINES + s) l.deadline) (DELIVERIES + s) n) (WORKERS + s) k)
    ≡ holding at l (table_in w)
stored-lease w at s e h l n k p q =
    let w1 = set w (GENERATIONS + s) l.generation.0 in
    let w2 = set w1 (STARTS + s) l.attempt_start in
    let w3 = set w2 (DEADLINES + s) l.deadline in
    let w4 = set w3 (DELIVERIES + s) n in
    stored-worker w4 s k h
    ∙ ap (λ (t : LeaseTable). rehired t (set t.workers s k)) (stored-count w3 s n h
    ∙ ap (λ (t : LeaseTable). recounted t (set t.deliveries s n)) (stored-deadline w2 s l.deadline h
    ∙ ap (λ (t : LeaseTable). timed t.attempt_starts (set t.deadlines s l.deadline) t) (stored-start w1 s l.attempt_start h
    ∙ ap (λ (t : LeaseTable). timed (set t.attempt_starts s l.attempt_start) t.deadlines t) (stored-generation w s l.generation.0 h))))
    ∙ rw (p, q, e)

-- and read so, of the slot of the place
pub lease-stored : (w : List ℕ) (at s : ℕ) → s ≡ slot_in (table_in w).slots at → s < LEASES
    → lease (word (GENERATIONS + s) w) (word (STARTS + s) w) (word (DEADLINES + s) w) (word (DELIVERIES + s) w) (word (WORKERS + s) w) ≡ held_at at (table_in w)
lease-stored w at s e h =
    let t = table_in w in
    let stored : lease (word (GENERATIONS + s) w) (word (STARTS + s) w) (word (DEADLINES + s) w) (word (DELIVERIES + s) w) (word (WORKERS + s) w)
    ≡ lease (get_or t.generations s 0) (get_or t.attempt_starts s 0) (get_or t.deadlines s 0) (get_or t.deliveries s 0) (get_or t.workers s 0) =
    rw (column-at GENERATIONS LEASES w s h, column-at STARTS LEASES w s h, column-at DEADLINES LEASES w s h, column-at DELIVERIES LEASES w s h, column-at WORKERS LEASES w s h) in
    stored ∙ ap (λ (k : ℕ). lease (get_or t.generations k 0) (get_or t.attempt_starts k 0) (get_or t.deadlines k 0) (get_or t.deliveries k 0) (get_or t.workers k 0)) e

module _ (w : List ℕ) (f : Fits (table_in w)) (s : ℕ) (h : s < LEASES) where
  pub count_narrow : word (DELIVERIES + s) w ≤ MAX32
  count_narrow = rw (column-at DELIVERIES LEASES w s h) at (f.counts s)

  pub worker_narrow : word (WORKERS + s) w ≤ MAX32
  worker_narrow = rw (column-at WORKERS LEASES w s h) at (f.workers s)

-- ## a number stored
module _ (w : List ℕ) (l : length w ≡ WORDS) (v : ℕ) where
  stored-len : table_in (set w LEN v) ≡ removing v (table_in w).offsets (table_in w).slots (table_in w)
  stored-len = simp (get_or-set_same w LEN v 0 (omega arith), number-kept LEN, other-kept LEN)

  stored-carried-len : table_in (set w CARRIED-LEN v) ≡ carrying v (table_in w).carried_offsets (table_in w).carried_counts (table_in w)
  stored-carried-len = simp (get_or-set_same w CARRIED-LEN v 0 (omega arith), number-kept CARRIED-LEN, other-kept CARRIED-LEN)

  pub stored_next : table_in (set w NEXT v) ≡ numbered v (table_in w).redeliveries_since_flush (table_in w)
  stored_next = simp (get_or-set_same w NEXT v 0 (omega arith), number-kept NEXT, other-kept NEXT)

  pub stored-redeliveries : table_in (set w REDELIVERIES v) ≡ numbered (table_in w).next_generation.0 v (table_in w)
  stored-redeliveries = simp (get_or-set_same w REDELIVERIES v 0 (omega arith), number-kept REDELIVERIES, other-kept REDELIVERIES)

  stored_visibility : table_in (set w VISIBILITY v) ≡ configured (record { visibility_nanos = v; hard_cap_nanos = word HARD-CAP w }) (table_in w)
  stored_visibility = simp (get_or-set_same w VISIBILITY v 0 (omega arith), number-kept VISIBILITY, other-kept VISIBILITY)

  stored_hard_cap : table_in (set w HARD-CAP v) ≡ configured (record { visibility_nanos = word VISIBILITY w; hard_cap_nanos = v }) (table_in w)
  stored_hard_cap = simp (get_or-set_same w HARD-CAP v 0 (omega arith), number-kept HARD-CAP, other-kept HARD-CAP)

-- ## a column that comes back
module _ (w : List ℕ) (l : length w ≡ WORDS) (c : List ℕ) where
  spliced-offsets : length c ≡ LEASES → table_in (spliced OFFSETS LEASES c w) ≡ removing (table_in w).len c (table_in w).slots (table_in w)
  spliced-offsets e =
      let room : OFFSETS + LEASES ≤ length w = omega arith in
      simp (column-spliced OFFSETS LEASES w c room e, column-beside OFFSETS LEASES, word-beside OFFSETS LEASES)

  pub spliced-slots : length c ≡ LEASES → table_in (spliced SLOTS LEASES c w) ≡ removing (table_in w).len (table_in w).offsets c (table_in w)
  spliced-slots e =
      let room : SLOTS + LEASES ≤ length w = omega arith in
      simp (column-spliced SLOTS LEASES w c room e, column-beside SLOTS LEASES, word-beside SLOTS LEASES)

  spliced-starts : length c ≡ LEASES → table_in (spliced STARTS LEASES c w) ≡ timed c (table_in w).deadlines (table_in w)
  spliced-starts e =
      let room : STARTS + LEASES ≤ length w = omega arith in
      simp (column-spliced STARTS LEASES w c room e, column-beside STARTS LEASES, word-beside STARTS LEASES)

  spliced-deadlines : length c ≡ LEASES → table_in (spliced DEADLINES LEASES c w) ≡ timed (table_in w).attempt_starts c (table_in w)
  spliced-deadlines e =
      let room : DEADLINES + LEASES ≤ length w = omega arith in
      simp (column-spliced DEADLINES LEASES w c room e, column-beside DEADLINES LEASES, word-beside DEADLINES LEASES)

  spliced-carried-offsets : length c ≡ CARRIED → table_in (spliced CARRIED-OFFSETS CARRIED c w) ≡ carrying (table_in w).carried_len c (table_in w).carried_counts (table_in w)
  spliced-carried-offsets e =
      let room : CARRIED-OFFSETS + CARRIED ≤ length w = omega arith in
      simp (column-spliced CARRIED-OFFSETS CARRIED w c room e, column-beside CARRIED-OFFSETS CARRIED, word-beside CARRIED-OFFSETS CARRIED)

  spliced-carried-counts : length c ≡ CARRIED → table_in (spliced CARRIED-COUNTS CARRIED c w) ≡ carrying (table_in w).carried_len (table_in w).carried_offsets c (table_in w)
  spliced-carried-counts e =
      let room : CARRIED-COUNTS + CARRIED ≤ length w = omega arith in
      simp (column-spliced CARRIED-COUNTS CARRIED w c room e, column-beside CARRIED-COUNTS CARRIED, word-beside CARRIED-COUNTS CARRIED)

-- ## two columns that come back one after the other
-- a store behind them, too: as many words as before
pub same-long : (a n b m i v : ℕ) (w ks ss : List ℕ) → length ks ≡ length (take n (drop a w)) → length ss ≡ length (take m (drop b (put_mid a n w ks)))
    → length (set (put_mid b m (put_mid a n w ks) ss) i v) ≡ length w
same-long a n b m i v w ks ss p q = length-set (put_mid b m (put_mid a n w ks) ss) i v ∙ same_len_mid b m (put_mid a n w ks) ss q ∙ same_len_mid a n w ks p

-- the second is as it was before the first came back; the words with both, as `spliced` has them
module _ (a n b m : ℕ) (w : List ℕ) (in-a : a + n ≤ length w) (in_b : b + m ≤ length w) (ks : List ℕ) (k : length ks ≡ length (take n (drop a w))) where
  long-first : length ks ≡ n
  long-first = k ∙ ap length (column-is a n w) ∙ column-length a n w in-a

  module _ (beside : column b m (spliced a n ks w) ≡ column b m w) where
    second-kept : take m (drop b (put_mid a n w ks)) ≡ column b m w
    second-kept = ap (λ (x : List ℕ). take m (drop b x)) (spliced-is a n w ks) ∙ column-is b m (spliced a n ks w) ∙ beside

    module _ (ss : List ℕ) (l : length ss ≡ length (take m (drop b (put_mid a n w ks)))) where
      long-second : length ss ≡ m
      long-second = l ∙ ap length second-kept ∙ column-length b m w in_b

      both_are : put_mid b m (put_mid a n w ks) ss ≡ spliced b m ss (spliced a n ks w)
      both_are = ap (λ (x : List ℕ). put_mid b m x ss) (spliced-is a n w ks) ∙ spliced-is b m (spliced a n ks w) ss

      long-both : length (put_mid b m (put_mid a n w ks) ss) ≡ length w
      long-both = same_len_mid b m (put_mid a n w ks) ss l ∙ same_len_mid a n w ks k

-- ## offsets and slots
module _ (w : List ℕ) (l : length w ≡ WORDS) (ks : List ℕ) (k : length ks ≡ length (take LEASES (drop OFFSETS w)))
    (ss : List ℕ) (m : length ss ≡ length (take LEASES (drop SLOTS (put_mid OFFSETS LEASES w ks)))) where
  offsets-inside : OFFSETS + LEASES ≤ length w
  offsets-inside = omega arith

  slots-inside : SLOTS + LEASES ≤ length w
  slots-inside = omega arith

  long-offsets : length ks ≡ LEASES
  long-offsets = long-first OFFSETS LEASES SLOTS LEASES w offsets-inside slots-inside ks k

  slots-beside : column SLOTS LEASES (spliced OFFSETS LEASES ks w) ≡ column SLOTS LEASES w
  slots-beside = column-beside OFFSETS LEASES SLOTS LEASES refl w ks offsets-inside long-offsets

  slots_kept : take LEASES (drop SLOTS (put_mid OFFSETS LEASES w ks)) ≡ column SLOTS LEASES w
  slots_kept = second-kept OFFSETS LEASES SLOTS LEASES w offsets-inside slots-inside ks k slots-beside

  abbrev leased : List ℕ
  leased = put_mid SLOTS LEASES (put_mid OFFSETS LEASES w ks) ss

  long-leased : length leased ≡ WORDS
  long-leased = long-both OFFSETS LEASES SLOTS LEASES w offsets-inside slots-inside ks k slots-beside ss m ∙ l

  put-leased : table_in leased ≡ removing (word LEN w) ks ss (table_in w)
  put-leased =
      let w1 = spliced OFFSETS LEASES ks w in
      let l1 : length w1 ≡ WORDS = spliced-length OFFSETS LEASES w ks offsets-inside long-offsets ∙ l in
      ap table_in (both_are OFFSETS LEASES SLOTS LEASES w offsets-inside slots-inside ks k slots-beside ss m)
      ∙ spliced-slots w1 l1 ss (long-second OFFSETS LEASES SLOTS LEASES w offsets-inside slots-inside ks k slots-beside ss m)
      ∙ ap (λ (t : LeaseTable). removing t.len t.offsets ss t) (spliced-offsets w l ks long-offsets)

  put-len : (n : ℕ) → table_in (set leased LEN n) ≡ removing n ks ss (table_in w)
  put-len n = stored-len leased long-leased n ∙ ap (λ (t : LeaseTable). removing n t.offsets t.slots t) put-leased

  -- one put in
  pub offset-put : (at o : ℕ) → let n = word LEN w in n < LEASES → ks ≡ put_in n at o (take LEASES (drop OFFSETS w))
      → ss ≡ put_in n at (word (SLOTS + n) w) (take LEASES (drop SLOTS (put_mid OFFSETS LEASES w ks))) → table_in (set leased LEN (n + 1)) ≡ placing at o (table_in w)
  offset-put at o h p q =
      let n = word LEN w in
      put-len (n + 1)
      ∙ ap (λ (x : List ℕ). removing (n + 1) x ss (table_in w)) (p ∙ ap (put_in n at o) (column-is OFFSETS LEASES w))
      ∙ ap (λ (x : List ℕ). removing (n + 1) (put_in n at o (column OFFSETS LEASES w)) x (table_in w))
      (q ∙ ap (put_in n at (word (SLOTS + n) w)) slots_kept ∙ ap (λ (v : ℕ). put_in n at v (column SLOTS LEASES w)) (sym (column-at SLOTS LEASES w n h)))

  -- one taken out, its slot stored behind those in use
  pub offset-removed : (at : ℕ) → let n = word LEN w in at < n → n ≤ LEASES → ks ≡ takenOut n at (at + 1) (take LEASES (drop OFFSETS w))
      → ss ≡ takenOut n at (at + 1) (take LEASES (drop SLOTS (put_mid OFFSETS LEASES w ks)))
      → table_in (set (set leased (SLOTS + (n - 1)) (word (SLOTS + at) w)) LEN (n - 1)) ≡ displacing at (table_in w)
  offset-removed at h few p q =
      let n = word LEN w in
      let freed = word (SLOTS + at) w in
      let last : n - 1 < LEASES = omega arith in
      let placed : at < LEASES = omega arith in
      stored-len (set leased (SLOTS + (n - 1)) freed) (length-set leased (SLOTS + (n - 1)) freed ∙ long-leased) (n - 1)
      ∙ ap (λ (t : LeaseTable). removing (n - 1) t.offsets t.slots t) (stored_slot leased (n - 1) freed last
      ∙ ap (λ (t : LeaseTable). removing t.len t.offsets (set t.slots (n - 1) freed) t) put-leased)
      ∙ ap (λ (x : List ℕ). removing (n - 1) x (set ss (n - 1) freed) (table_in w)) (p ∙ ap (takenOut n at (at + 1)) (column-is OFFSETS LEASES w))
      ∙ ap (λ (x : List ℕ). removing (n - 1) (takenOut n at (at + 1) (column OFFSETS LEASES w)) (set x (n - 1) freed) (table_in w)) (q ∙ ap (takenOut n at (at + 1)) slots_kept)
      ∙ ap (λ (v : ℕ). removing (n - 1) (takenOut n at (at + 1) (column OFFSETS LEASES w)) (set (takenOut n at (at + 1) (column SLOTS LEASES w)) (n - 1) v) (table_in w))
      (sym (column-at SLOTS LEASES w at placed))

  -- those before a place taken out, their slots set aside
  pub leases-released : (to : ℕ) → let n = word LEN w in ks ≡ takenOut n 0 to (take LEASES (drop OFFSETS w)) → ss ≡ set_aside n 0 to (take LEASES (drop SLOTS (put_mid OFFSETS LEASES w ks)))
      → table_in (set leased LEN (n - to)) ≡ removing (n - to) (takenOut n 0 to (table_in w).offsets) (set_aside n 0 to (table_in w).slots) (table_in w)
  leases-released to p q =
      let n = word LEN w in
      put-len (n - to)
      ∙ ap (λ (x : List ℕ). removing (n - to) x ss (table_in w)) (p ∙ ap (takenOut n 0 to) (column-is OFFSETS LEASES w))
      ∙ ap (λ (x : List ℕ). removing (n - to) (takenOut n 0 to (column OFFSETS LEASES w)) x (table_in w)) (q ∙ ap (set_aside n 0 to) slots_kept)

-- ## times
module _ (w : List ℕ) (l : length w ≡ WORDS) (ss : List ℕ) (k : length ss ≡ length (take LEASES (drop STARTS w)))
    (ds : List ℕ) (m : length ds ≡ length (take LEASES (drop DEADLINES (put_mid STARTS LEASES w ss)))) where
  starts-inside : STARTS + LEASES ≤ length w
  starts-inside = omega arith

  deadlines-inside : DEADLINES + LEASES ≤ length w
  deadlines-inside = omega arith

  long-starts : length ss ≡ LEASES
  long-starts = long-first STARTS LEASES DEADLINES LEASES w starts-inside deadlines-inside ss k

  deadlines-beside : column DEADLINES LEASES (spliced STARTS LEASES ss w) ≡ column DEADLINES LEASES w
  deadlines-beside = column-beside STARTS LEASES DEADLINES LEASES refl w ss starts-inside long-starts

  pub deadlines-kept : take LEASES (drop DEADLINES (put_mid STARTS LEASES w ss)) ≡ column DEADLINES LEASES w
  deadlines-kept = second-kept STARTS LEASES DEADLINES LEASES w starts-inside deadlines-inside ss k deadlines-beside

  pub long-timed : length (put_mid DEADLINES LEASES (put_mid STARTS LEASES w ss) ds) ≡ WORDS
  long-timed = long-both STARTS LEASES DEADLINES LEASES w starts-inside deadlines-inside ss k deadlines-beside ds m ∙ l

  pub times-put : table_in (put_mid DEADLINES LEASES (put_mid STARTS LEASES w ss) ds) ≡ timed ss ds (table_in w)
  times-put =
      let w1 = spliced STARTS LEASES ss w in
      let l1 : length w1 ≡ WORDS = spliced-length STARTS LEASES w ss starts-inside long-starts ∙ l in
      ap table_in (both_are STARTS LEASES DEADLINES LEASES w starts-inside deadlines-inside ss k deadlines-beside ds m)
      ∙ spliced-deadlines w1 l1 ds (long-second STARTS LEASES DEADLINES LEASES w starts-inside deadlines-inside ss k deadlines-beside ds m)
      ∙ ap (λ (t : LeaseTable). timed t.attempt_starts ds t) (spliced-starts w l ss long-starts)

-- ## carried counts
module _ (w : List ℕ) (l : length w ≡ WORDS) (ks : List ℕ) (k : length ks ≡ length (take CARRIED (drop CARRIED-OFFSETS w)))
    (vs : List ℕ) (m : length vs ≡ length (take CARRIED (drop CARRIED-COUNTS (put_mid CARRIED-OFFSETS CARRIED w ks)))) where
  keys_inside : CARRIED-OFFSETS + CARRIED ≤ length w
  keys_inside = omega arith

  counts-inside : CARRIED-COUNTS + CARRIED ≤ length w
  counts-inside = omega arith

  long_keys : length ks ≡ CARRIED
  long_keys = long-first CARRIED-OFFSETS CARRIED CARRIED-COUNTS CARRIED w keys_inside counts-inside ks k

  counts-beside : column CARRIED-COUNTS CARRIED (spliced CARRIED-OFFSETS CARRIED ks w) ≡ column CARRIED-COUNTS CARRIED w
  counts-beside = column-beside CARRIED-OFFSETS CARRIED CARRIED-COUNTS CARRIED refl w ks keys_inside long_keys

  counts-kept : take CARRIED (drop CARRIED-COUNTS (put_mid CARRIED-OFFSETS CARRIED w ks)) ≡ column CARRIED-COUNTS CARRIED w
  counts-kept = second-kept CARRIED-OFFSETS CARRIED CARRIED-COUNTS CARRIED w keys_inside counts-inside ks k counts-beside

  abbrev counted : List ℕ
  counted = put_mid CARRIED-COUNTS CARRIED (put_mid CARRIED-OFFSETS CARRIED w ks) vs

  pub counts-put : (n : ℕ) → table_in (set counted CARRIED-LEN n) ≡ carrying n ks vs (table_in w)
  counts-put n =
      let w1 = spliced CARRIED-OFFSETS CARRIED ks w in
      let l1 : length w1 ≡ WORDS = spliced-length CARRIED-OFFSETS CARRIED w ks keys_inside long_keys ∙ l in
      stored-carried-len counted (long-both CARRIED-OFFSETS CARRIED CARRIED-COUNTS CARRIED w keys_inside counts-inside ks k counts-beside vs m ∙ l) n
      ∙ ap (λ (t : LeaseTable). carrying n t.carried_offsets t.carried_counts t)
      (ap table_in (both_are CARRIED-OFFSETS CARRIED CARRIED-COUNTS CARRIED w keys_inside counts-inside ks k counts-beside vs m)
      ∙ spliced-carried-counts w1 l1 vs (long-second CARRIED-OFFSETS CARRIED CARRIED-COUNTS CARRIED w keys_inside counts-inside ks k counts-beside vs m)
      ∙ ap (λ (t : LeaseTable). carrying t.carried_len t.carried_offsets vs t) (spliced-carried-offsets w l ks long_keys))

  -- those of some places taken out
  pub carried-taken : (c : Span) (i : ℕ) → let n = word CARRIED-LEN w in i ≡ n - (c.to - c.from) → ks ≡ takenOut n c.from c.to (take CARRIED (drop CARRIED-OFFSETS w))
      → vs ≡ takenOut n c.from c.to (take CARRIED (drop CARRIED-COUNTS (put_mid CARRIED-OFFSETS CARRIED w ks)))
      → table_in (set counted CARRIED-LEN i) ≡ passing c (table_in w)
  carried-taken c i e p q =
      let n = word CARRIED-LEN w in
      counts-put i
      ∙ ap (λ (x : ℕ). carrying x ks vs (table_in w)) e
      ∙ ap (λ (x : List ℕ). carrying (n - (c.to - c.from)) x vs (table_in w)) (p ∙ ap (takenOut n c.from c.to) (column-is CARRIED-OFFSETS CARRIED w))
      ∙ ap (λ (x : List ℕ). carrying (n - (c.to - c.from)) (takenOut n c.from c.to (column CARRIED-OFFSETS CARRIED w)) x (table_in w))
      (q ∙ ap (takenOut n c.from c.to) counts-kept)

-- the place of an offset among them is in use
pub carried-used : (w : List ℕ) (o : ℕ) {at : ℕ} {r : Place} → Placed o (take (word CARRIED-LEN w) (take CARRIED (drop CARRIED-OFFSETS w))) r → r ≡ Found at → at < word CARRIED-LEN w
carried-used w o p e = omega (arith, found-used o (word CARRIED-LEN w) (take CARRIED (drop CARRIED-OFFSETS w)) p e)

-- the count of an offset, where it has none and where it has one
cond_same : {A : Type 0} (b : Bool) (a : A) → cond b a a ≡ a
cond_same true a = refl
cond_same false a = refl

out_none : (n at : ℕ) (l : List ℕ) → takenOut n at at l ≡ l
out_none n at l =
    let z : n - (at - at) ≡ n = omega arith in
    let same : removed at at (take n l) ++ drop (n - (at - at)) l ≡ l = rw (take-append-drop at (take n l), z, take-append-drop n l) in
    rw same (cond_same (leb at at && leb at n && leb n (length l)) l)

module _ (w : List ℕ) (o at : ℕ) where
  pub passed_none : Placed o (take (word CARRIED-LEN w) (take CARRIED (drop CARRIED-OFFSETS w))) (Missing at) → Passes o 0 (table_in w) (table_in w)
  passed_none p =
      let t = table_in w in
      let m = t.carried_len in
      let z : m - (at - at) ≡ m = omega arith in
      record {
        span = span_of t.carried_counts (Missing at);
        spans = record { place = Missing at; placed = rw (column-is CARRIED-OFFSETS CARRIED w) at p; is = refl };
        counts = refl;
        is = sym (rw (out_none m at t.carried_offsets, out_none m at t.carried_counts, z));
      }

  pub passed-one : Placed o (take (word CARRIED-LEN w) (take CARRIED (drop CARRIED-OFFSETS w))) (Found at) → at < CARRIED → {after : LeaseTable}
      → after ≡ passing (record { from = at; to = at + 1; count = get_or (table_in w).carried_counts at 0 }) (table_in w)
      → Passes o (word (CARRIED-COUNTS + at) w) (table_in w) after
  passed-one p h e =
      let t = table_in w in
      record {
        span = span_of t.carried_counts (Found at);
        spans = record { place = Found at; placed = rw (column-is CARRIED-OFFSETS CARRIED w) at p; is = refl };
        counts = sym (column-at CARRIED-COUNTS CARRIED w at h);
        is = e;
      }

-- ## numbers after a lease was stored, and those of an empty table
pub grant-stored : (w w' : List ℕ) → length w' ≡ WORDS → (at k now d deadline r : ℕ) → deadline ≡ deadline_from (config_in w) now now
    → table_in w' ≡ holding at (lease (word NEXT w) now deadline d k) (table_in w) → r ≡ after_grant (word REDELIVERIES w) d
    → table_in (set (set w' NEXT (word NEXT w + 1)) REDELIVERIES r) ≡ granting at k now d (table_in w)
grant-stored w w' l at k now d deadline r e h q =
    let g = word NEXT w + 1 in
    stored-redeliveries (set w' NEXT g) (length-set w' NEXT g ∙ l) r
    ∙ ap (λ (t : LeaseTable). numbered t.next_generation.0 r t) (stored_next w' l g)
    ∙ ap (numbered g r) (h ∙ ap (λ (x : ℕ). holding at (lease (word NEXT w) now x d k) (table_in w)) e)
    ∙ ap (λ (x : ℕ). numbered g x (holding at (lease (word NEXT w) now (deadline_from (config_in w) now now) d k) (table_in w))) q

pub start-stored : (w : List ℕ) → length w ≡ WORDS → (g v c : ℕ)
    → table_in (set (set (set w NEXT g) VISIBILITY v) HARD-CAP c) ≡ configured (record { visibility_nanos = v; hard_cap_nanos = c }) (numbered g (table_in w).redeliveries_since_flush (table_in w))
start-stored w l g v c =
    let w1 = set w NEXT g in
    let l1 : length w1 ≡ WORDS = length-set w NEXT g ∙ l in
    let w2 = set w1 VISIBILITY v in
    let l2 : length w2 ≡ WORDS = length-set w1 VISIBILITY v ∙ l1 in
    stored_hard_cap w2 l2 c
    ∙ ap (λ (t : LeaseTable). configured (record { visibility_nanos = t.config.visibility_nanos; hard_cap_nanos = c }) t) (stored_visibility w1 l1 v
    ∙ ap (λ (t : LeaseTable). configured (record { visibility_nanos = v; hard_cap_nanos = t.config.hard_cap_nanos }) t) (stored_next w l g))
