-- The bounds over the whole batch, from the law of the events alone, by one count. Deliveries are counted from the count d + 1 on: with d 1
-- the repeated ones, with d 0 all. Of the M − d that each offset has, those used up on a page are count − d, at most M − d, and all of them
-- once it is settled. A restart forgets at most K of them, r of which were made so far: K is N and r the redeliveries since the last flush;
-- or K is 4,096 and r the generations taken since the last header. With T deliveries that are counted after C restarts, and sums over the
-- different offsets handed out in the whole list:
--   T ≤ sum of what is used up on the book's page + C × K;
--   T ≤ sum of what is used up on its copy + C × K + r, and r ≤ K.
-- A delivery that is counted uses up one more of its offset's on the page, and raises r. A restart makes the second line the first with
-- C + 1, a renewed copy the first the second. What is used up of an offset is at most M − d.
-- Assumes nothing.
use Prim.Native.Nat.{ℕ, ◌+◌, ◌*◌, ◌-◌, ◌≤◌, ◌<◌, min}
use native.Mathlib.Omega.{arith}
use mathlib.Core.Path.{◌≡◌, refl}
use mathlib.Core.Bool.{Bool, true, false, cond}
use mathlib.Core.List.{List, [], ◌∷◌, ◌++◌}
use lib.Dec.{leb, eqb}
use lib.ListN.{length}
use borrow.Author.Tests.{leb-true, eqb-true, eqb-false, eq-eqb}
use Rattle.types.specs.Limits.{MAX32, sat32}
use Rattle.types.specs.Refusal.{Refusal, refused, done}
use Rattle.types.specs.Lists.{times}
use Rattle.types.proofs.Cases.{split, both}
use Rattle.types.proofs.Lists.{times-append}
use Rattle.delivery.specs.Policy.{Policy}
use Rattle.consumer.specs.Calls.{HandOut}
use Rattle.machine.specs.Calls.{Event}
use Rattle.crash_safety.specs.Effects.{Effect, handing, settling, requeuing, renewing, restarting, nothing, effect_of}
use Rattle.crash_safety.specs.Book.{Page, Book, with_hand_out, settle, with_page, renewed, went_back, note}
use Rattle.crash_safety.specs.Runs.{run, fresh_world}
use Rattle.crash_safety.specs.Demand3.{handed, for_delivery, counted, hand_outs}
use Rattle.crash_safety.specs.From.{repeated_before, sum}
use Rattle.crash_safety.specs.Batch.{is_repeated, offset_of, offsets_handed_out, different, different_offsets, BatchBound}
use Rattle.crash_safety.specs.Totals.{is_delivery, taken_after}
use Rattle.crash_safety.proofs.Law.{Ledger, empty_ledger, noted, Law, Seen, law-seen, all-seen, Along, since}
use Rattle.crash_safety.proofs.Bound.{is_restart, restarts_seen, Counted, HandsFew, few-handed}
use Rattle.crash_safety.proofs.Runs.{fold_both, SaysBoth}
use Rattle.crash_safety.proofs.Restarts.{all_made}
use Rattle.crash_safety.proofs.Taken.{taken_seen, Few}
use Rattle.crash_safety.proofs.Demand3.{limits, lawfully}

-- ## different numbers
-- each number of a list stands in `different` just once, and no other does
pub different-once : (x : ℕ) (os : List ℕ) → times x (different os) ≡ min (times x os) 1
unfolding different
different-once x [] = refl
different-once x (o ∷ os) =
    split (eqb (times o os) 0)
    (λ z. rw z (split (eqb x o)
    (λ t. rw t (omega (arith, different-once x os, rw (← eqb-true x o t) at (eqb-true (times o os) 0 z))))
    (λ t. rw t (omega (arith, different-once x os)))))
    (λ z. rw z (split (eqb x o)
    (λ t. rw t (omega (arith, different-once x os, rw (← eqb-true x o t) at (eqb-false (times o os) 0 z))))
    (λ t. rw t (omega (arith, different-once x os)))))

-- ## sums over a list
sum-most : (f : ℕ → ℕ) (m : ℕ) → ((x : ℕ) → f x ≤ m) → (l : List ℕ) → sum f l ≤ m * length l
unfolding sum
sum-most f m h [] = omega arith
sum-most f m h (x ∷ l) = omega (arith, h x, sum-most f m h l)

module _ (f g : ℕ → ℕ) (h : (x : ℕ) → f x ≤ g x) where
  sum-rises : (l : List ℕ) → sum f l ≤ sum g l
  unfolding sum
  sum-rises [] = omega arith
  sum-rises (x ∷ l) = omega (arith, h x, sum-rises l)

  -- by one or more, where a number in the list has more
  sum_more : (o : ℕ) → f o < g o → (l : List ℕ) → 0 < times o l → sum f l < sum g l
  unfolding sum
  sum_more o more [] among = omega arith
  sum_more o more (x ∷ l) among =
      split (eqb o x)
      (λ t. omega (arith, rw (eqb-true o x t) at more, sum-rises l))
      (λ t. omega (arith, h x, sum_more o more l (omega (arith, rw t at among))))

-- ## what a restart may forget
-- r raised by each delivery that is counted, and lowered by nothing but a header and a restart
record Raised (counts : HandOut → Bool) (raise : ℕ → Effect → ℕ) : Type 0 where
  one_more : (r o : ℕ) (h : HandOut) → counts h ≡ true → r < raise r (handing o h)
  hands : (r o : ℕ) (h : HandOut) → r ≤ raise r (handing o h)
  settles : (r : ℕ) (named : ℕ → Bool) → r ≤ raise r (settling named)
  requeues : (r o : ℕ) → r ≤ raise r (requeuing o)
  refuses : (r : ℕ) (f : Refusal) → r ≤ raise r (restarting (refused f))
  idles : (r : ℕ) → r ≤ raise r nothing

-- ## the count
module _ (M N : ℕ) (fires : M < MAX32) where
  -- how many of an offset's M − d deliveries are used up on a page
  module _ (d : ℕ) where
    abbrev used : Page → ℕ → ℕ
    used q o = cond (q.settled o) (M - d) (min (q.count o - d) (M - d))

    used-most : (q : Page) (o : ℕ) → used q o ≤ M - d
    used-most q o = split (q.settled o) (λ t. rw t (omega arith)) (λ t. rw t (omega arith))

    used-settled : (q : Page) (named : ℕ → Bool) (o : ℕ) → used q o ≤ used (settle q named) o
    used-settled q named o = split (named o) (λ t. rw t (used-most q o)) (λ t. rw t (omega arith))

    used-handed : (q : Page) (o x : ℕ) → used q x ≤ used (with_hand_out q o) x
    used-handed q o x =
        split (q.settled x)
        (λ s. rw s (omega arith))
        (λ s. rw s (split (eqb x o) (λ t. rw t (omega arith)) (λ t. rw t (omega arith))))

    used-counted : (q : Page) (o : ℕ) → q.settled o ≡ false → d < sat32 (q.count o) 1 → sat32 (q.count o) 1 ≤ M → used q o < used (with_hand_out q o) o
    used-counted q o unsettled again within = rw (unsettled, eq-eqb o o refl) (omega arith)

  -- deliveries that are counted: from d + 1 on, and at most M
  abbrev Counts : ℕ → (HandOut → Bool) → Type 0
  Counts d counts = (h : HandOut) → (for_delivery h.destination ≡ true → h.deliveries ≤ M) → counts h ≡ true → 0 < h.deliveries → (d < h.deliveries) × (h.deliveries ≤ M)

  within : Counts 1 is_repeated
  within h few e some_one =
      let q = both (for_delivery h.destination) (leb 2 h.deliveries) e in
      (omega (arith, leb-true 2 h.deliveries q.1), few q.0)

  within_all : Counts 0 is_delivery
  within_all h few e some_one = (some_one, few e)

  module _ (d K : ℕ) (counts : HandOut → Bool) (is : Counts d counts) (raise : ℕ → Effect → ℕ) (rises-so : Raised counts raise) where
    -- what is known of an event: the law of hand-outs, and that no more than K would be forgotten
    abbrev Fair : Ledger × ℕ → Event → Type 0
    Fair b e = HandsFew M N b.0 (effect_of e) × (raise b.1 (effect_of e) ≤ K)

    abbrev fold : Ledger × ℕ → Event → Ledger × ℕ
    fold = fold_both noted (λ r e. raise r (effect_of e))

    -- over offsets that are the same throughout
    module _ (os : List ℕ) where
      -- each number of a list is one of them
      abbrev Among : List ℕ → Type 0
      Among l = (o : ℕ) → 0 < times o l → 0 < times o os

      among-parts : (k l : List ℕ) → Among (k ++ l) → Among k × Among l
      among-parts k l h = (λ o here. h o (omega (arith, times-append o k l)), λ o here. h o (omega (arith, times-append o k l)))

      record Tally (b : Book) (T C r : ℕ) : Type 0 where
        low : r ≤ K
        page : T ≤ sum (used d b.page) os + C * K
        copy : T ≤ sum (used d b.copy) os + C * K + r

      module _ (b : Book) (T C r : ℕ) (k : Tally b T C r) (n : ℕ) (few : n ≤ K) where
        -- a page on which nothing is used up less, with no delivery more
        rises : (q : Page) → ((o : ℕ) → used d b.page o ≤ used d q o) → r ≤ n → Tally (with_page b q) (T + 0) (C + 0) n
        rises q h more =
            record {
              low = few;
              page = omega (arith, k.page, sum-rises (used d b.page) (used d q) h os);
              copy = omega (arith, k.copy);
            }

        same : r ≤ n → Tally b (T + 0) (C + 0) n
        same = rises b.page (λ o. omega arith)

        renews : Tally (renewed b) (T + 0) (C + 0) n
        renews = record { low = few; page = omega (arith, k.page); copy = omega (arith, k.page) }

        refuses : r ≤ n → Tally b (T + 0) (C + 1) n
        refuses more = record { low = few; page = omega (arith, k.page); copy = omega (arith, k.copy) }

        goes_back : Tally (went_back b) (T + 0) (C + 1) n
        goes_back = record { low = few; page = omega (arith, k.copy, k.low); copy = omega (arith, k.copy, k.low) }

        -- a delivery that is counted
        uses_up : (o : ℕ) → used d b.page o < used d (with_hand_out b.page o) o → 0 < times o os → r < n
            → Tally (with_page b (with_hand_out b.page o)) (T + 1) (C + 0) n
        uses_up o more among raised =
            record {
              low = few;
              page = omega (
                arith,
                k.page,
                sum_more (used d b.page) (used d (with_hand_out b.page o)) (used-handed d b.page o) o more os among,
              );
              copy = omega (arith, k.copy);
            }

      module _ (l : Ledger) (T C r : ℕ) (k : Tally l.book T C r) where
        abbrev After : Effect → Type 0
        After x = Tally (note l.book x) (T + counted counts (handed x)) (C + is_restart x) (raise r x)

        hands : (o : ℕ) (h : HandOut) → 0 < times o os → Counted M N l o h → raise r (handing o h) ≤ K → After (handing o h)
        hands o h among w few =
            split (counts h)
            (λ t.
            let q = is h w.few t (omega (arith, w.counted)) in
            rw t (uses_up l.book T C r k (raise r (handing o h)) few o
            (used-counted d l.book.page o w.unsettled (omega (arith, w.counted, q.0)) (omega (arith, w.counted, q.1))) among
            (rises-so.one_more r o h t)))
            (λ t. rw t (rises l.book T C r k (raise r (handing o h)) few _ (used-handed d l.book.page o) (rises-so.hands r o h)))

        one : (x : Effect) → Among (offset_of (handed x)) → HandsFew M N l x → raise r x ≤ K → After x
        one (handing o h) among w few = hands o h (among o (rw (w.offset, eq-eqb o o refl) (omega arith))) w few
        one (settling named) among w few =
            rises l.book T C r k (raise r (settling named)) few (settle l.book.page named) (used-settled d l.book.page named) (rises-so.settles r named)
        one (requeuing o) among w few = same l.book T C r k (raise r (requeuing o)) few (rises-so.requeues r o)
        one renewing among w few = renews l.book T C r k (raise r renewing) few
        one (restarting (refused f)) among w few = refuses l.book T C r k (raise r (restarting (refused f))) few (rises-so.refuses r f)
        one (restarting (done s)) among w few = goes_back l.book T C r k (raise r (restarting (done s))) few
        one nothing among w few = same l.book T C r k (raise r nothing) few (rises-so.idles r)

      all : (es : List Event) (l : Ledger) (r T C : ℕ) → Tally l.book T C r → Along fold Fair (l, r) es → Among (offsets_handed_out es)
          → T + hand_outs counts es ≤ (M - d) * length os + (C + restarts_seen es) * K
      unfolding Along hand_outs restarts_seen offsets_handed_out
      all [] l r T C k h among = omega (arith, k.page, sum-most (used d l.book.page) (M - d) (used-most d l.book.page) os)
      all (e ∷ es) l r T C k h among =
          let x : Effect = effect_of e in
          let parts = among-parts (offset_of (handed x)) (offsets_handed_out es) among in
          omega (
            arith,
            all es (noted l e) (raise r x) (T + counted counts (handed x)) (C + is_restart x) (one l T C r k x parts.0 h.0.0 h.0.1) h.1 parts.1,
          )

    -- over the offsets that the events hand out, from a book and what was counted before
    counted-from : (es : List Event) (l : Ledger) (r T : ℕ) → Tally (different (offsets_handed_out es)) l.book T 0 r → Along fold Fair (l, r) es
        → T + hand_outs counts es ≤ (M - d) * different_offsets es + restarts_seen es * K
    unfolding different_offsets
    counted-from es l r T k h =
        omega (
          arith,
          all (different (offsets_handed_out es)) es l r T 0 k h (λ o here. omega (arith, different-once o (offsets_handed_out es))),
        )

  -- ## repeated deliveries
  since-raised : Raised is_repeated since
  since-raised =
      record {
        one_more = λ r o h t. rw (both (for_delivery h.destination) (leb 2 h.deliveries) t).1 (omega arith);
        hands = λ r o h. split (leb 2 h.deliveries) (λ t. rw t (omega arith)) (λ t. rw t (omega arith));
        settles = λ r named. omega arith;
        requeues = λ r o. omega arith;
        refuses = λ r f. omega arith;
        idles = λ r. omega arith;
      }

  -- a hand-out is made below the threshold alone
  below-threshold : (l : Ledger) (x : Effect) → l.redeliveries ≤ N → HandsFew M N l x → since l.redeliveries x ≤ N
  below-threshold l (handing o h) low w = split (leb 2 h.deliveries) (λ t. rw t (omega (arith, w.under))) (λ t. rw t low)
  below-threshold l (settling named) low w = low
  below-threshold l (requeuing o) low w = low
  below-threshold l renewing low w = omega arith
  below-threshold l (restarting (refused f)) low w = low
  below-threshold l (restarting (done s)) low w = omega arith
  below-threshold l nothing low w = low

  abbrev Repeats : Ledger × ℕ → Event → Type 0
  Repeats = Fair 1 N is_repeated within since since-raised

  abbrev Repeated : List ℕ → Book → ℕ → ℕ → ℕ → Type 0
  Repeated = Tally 1 N is_repeated within since since-raised

  -- from a book whose copy is its page, with no redeliveries since: what its page has used up of the offsets handed out is counted with them
  less-used : (q : Page) (o : ℕ) → repeated_before M q o ≤ used 1 q o
  less-used q o = split (q.settled o) (λ t. rw t (omega arith)) (λ t. rw t (omega arith))

  used-before : (q : Page) (os : List ℕ) → Repeated os (record { page = q; copy = q }) (sum (repeated_before M q) os) 0 0
  used-before q os =
      let most = sum-rises (repeated_before M q) (used 1 q) (less-used q) os in
      record { low = omega arith; page = omega (arith, most); copy = omega (arith, most) }

  -- along events of which something says so
  module _ (L : Ledger → Event → Type 0) (few : (l : Ledger) (e : Event) → L l e → HandsFew M N l (effect_of e)) where
    fair_repeats : (es : List Event) (l : Ledger) → l.redeliveries ≤ N → Along noted L l es → Along (fold_both noted (λ r e. since r (effect_of e))) Repeats (l, l.redeliveries) es
    unfolding Along
    fair_repeats [] l low h = tt
    fair_repeats (e ∷ es) l low h =
        let w = few l e h.0 in
        let under = below-threshold l (effect_of e) low w in
        ((w, under), fair_repeats es (noted l e) under h.1)

    pub repeated_from : (l : Ledger) → l.book.copy ≡ l.book.page → l.redeliveries ≡ 0 → (es : List Event) → Along noted L l es
        → sum (repeated_before M l.book.page) (different (offsets_handed_out es)) + hand_outs is_repeated es ≤ (M - 1) * different_offsets es + restarts_seen es * N
    repeated_from l same none_yet es h =
        let os : List ℕ = different (offsets_handed_out es) in
        counted-from 1 N is_repeated within since since-raised es l l.redeliveries (sum (repeated_before M l.book.page) os)
        (rw (same, none_yet) (used-before l.book.page os)) (fair_repeats es l (omega arith) h)

  -- ## all deliveries
  taken-raised : Raised is_delivery taken_after
  taken-raised =
      record {
        one_more = λ r o h t. omega arith;
        hands = λ r o h. omega arith;
        settles = λ r named. omega arith;
        requeues = λ r o. omega arith;
        refuses = λ r f. omega arith;
        idles = λ r. omega arith;
      }

  abbrev Delivers : Ledger × ℕ → Event → Type 0
  Delivers = Fair 0 4096 is_delivery within_all taken_after taken-raised

  all-counted : (es : List Event) → Along (fold_both noted taken_seen) Delivers (empty_ledger, 0) es
      → hand_outs is_delivery es ≤ M * different_offsets es + restarts_seen es * 4096
  all-counted es h =
      let whole : M - 0 ≡ M = omega arith in
      omega (arith, rw whole at (counted-from 0 4096 is_delivery within_all taken_after taken-raised es empty_ledger 0 0 nothing_yet h))
    where
      nothing_yet : Tally 0 4096 is_delivery within_all taken_after taken-raised (different (offsets_handed_out es)) empty_ledger.book 0 0 0
      nothing_yet = record { low = omega arith; page = omega arith; copy = omega arith }

-- ## under one policy
module _ (p : Policy) (limited : 0 < p.maxDeliver) (fires : p.maxDeliver < MAX32) where
  seen-few : (l : Ledger) (e : Event) → Seen p l e → HandsFew p.maxDeliver p.flush_redeliveries l (effect_of e)
  seen-few l e h = few-handed p limited fires p.maxDeliver p.flush_redeliveries (omega arith) (omega arith) l (effect_of e) h.2

  pub batch-bounded : (es : List Event) → Along noted (Seen p) empty_ledger es
      → hand_outs is_repeated es ≤ (p.maxDeliver - 1) * different_offsets es + restarts_seen es * p.flush_redeliveries
  batch-bounded es h = omega (arith, repeated_from p.maxDeliver p.flush_redeliveries fires (Seen p) seen-few empty_ledger refl refl es h)

  fair_deliveries : (es : List Event) (b : Ledger × ℕ) → Along (fold_both noted taken_seen) (SaysBoth (Law p) Few) b es
      → Along (fold_both noted taken_seen) (Delivers p.maxDeliver p.flush_redeliveries fires) b es
  unfolding Along
  fair_deliveries [] b h = tt
  fair_deliveries (e ∷ es) b h = ((seen-few b.0 e (law-seen p b.0 e h.0.0), h.0.1), fair_deliveries es (fold_both noted taken_seen b e) h.1)

  pub total-bounded : (es : List Event) → Along (fold_both noted taken_seen) (SaysBoth (Law p) Few) (empty_ledger, 0) es
      → hand_outs is_delivery es ≤ p.maxDeliver * different_offsets es + restarts_seen es * 4096
  total-bounded es h = all-counted p.maxDeliver p.flush_redeliveries fires es (fair_deliveries es (empty_ledger, 0) h)

pub batch-bound : BatchBound
unfolding BatchBound
batch-bound c n s items p f e =
    omega (
      arith,
      rw (all_made c items (fresh_world s n)) at
          (batch-bounded c.settings.policy (limits c p f).0 (limits c p f).1 (run c (fresh_world s n) items)
          (all-seen c.settings.policy (run c (fresh_world s n) items) empty_ledger (lawfully c n s items f e))),
    )
