-- The delivery bound, from the law of the events alone. With D deliveries of an offset after C restarts, r redeliveries since
-- the last flush and K = C × (N + 1), three things hold along every list:
--   D ≤ M + K;
--   D ≤ min(count, M) + K for an offset that is unsettled on the book's page;
--   D ≤ min(count, M) + K + r + 1 for one that is unsettled on its copy, and r ≤ N.
-- A redelivery raises r and the page's count. A first delivery has count 0, so the second line gave D ≤ K before it. A restart
-- makes the third line the second with C + 1, a renewed copy the second the third.
-- Assumes nothing.
use Prim.Native.Nat.{ℕ, ◌+◌, ◌*◌, ◌≤◌, ◌<◌, min}
use native.Mathlib.Omega.{arith}
use mathlib.Core.Path.{◌≡◌, refl}
use mathlib.Core.Bool.{Bool, true, false, cond, ◌&&◌}
use mathlib.Core.List.{List, [], ◌∷◌}
use lib.Dec.{leb, eqb}
use borrow.Author.Tests.{leb-true, leb-false, eqb-true, ne_eqb, lt-ltb, le-ltb}
use Rattle.types.specs.Limits.{MAX32, sat32}
use Rattle.types.specs.Refusal.{refused, done}
use Rattle.types.proofs.Cases.{split, neither}
use Rattle.delivery.specs.Policy.{Policy, disposition}
use Rattle.consumer.specs.Calls.{HandOut}
use Rattle.machine.specs.Calls.{Event}
use Rattle.crash_safety.specs.Effects.{Effect, handing, settling, requeuing, renewing, restarting, nothing, effect_of}
use Rattle.crash_safety.specs.Book.{Page, Book, with_hand_out, settle, with_page, renewed, went_back, note}
use Rattle.crash_safety.specs.Demand3.{handed, for_delivery, delivers, counted, hand_outs}
pub use Rattle.crash_safety.specs.Demand3.{is_restart}
unfoldable pub use Rattle.crash_safety.specs.Demand3.{restarts_seen}
use Rattle.crash_safety.proofs.Law.{Ledger, empty_ledger, noted, HandsOut, Seen, Along, since}

-- ## pages
-- what is unsettled on the second page is so on the first, with the same count
record Fewer (p q : Page) : Type 0 where
  unsettled : (o : ℕ) → q.settled o ≡ false → p.settled o ≡ false
  count : (o : ℕ) → q.settled o ≡ false → q.count o ≡ p.count o

fewer_settled : (p : Page) (named : ℕ → Bool) → Fewer p (settle p named)
fewer_settled p named =
    record {
      unsettled = λ x e. (neither (named x) (p.settled x) e).1;
      count = λ x e. rw (neither (named x) (p.settled x) e).0;
    }

-- ## what they need of the law
-- where a limit is set, what goes where the policy sends it is for delivery just up to that limit
module _ (p : Policy) (limited : 0 < p.maxDeliver) (fires : p.maxDeliver < MAX32) where
  pub for_delivery_lem : (n : ℕ) → for_delivery (disposition p n) ≡ leb n p.maxDeliver
  for_delivery_lem n =
      let M : ℕ = p.maxDeliver in
      split (leb n M)
      (λ t. rw (t, ne_eqb M 0 (λ z. omega arith), le-ltb M n (leb-true n M t)))
      (λ t. rw (t, ne_eqb M 0 (λ z. omega arith), lt-ltb M n (leb-false n M t)))

-- a hand-out of an offset that is unsettled, with the next count, for delivery up to count M alone, and fewer than N redeliveries before it
pub record Counted (M N : ℕ) (l : Ledger) (o : ℕ) (h : HandOut) : Type 0 where
  pub offset : h.offset ≡ o
  pub unsettled : l.book.page.settled o ≡ false
  pub counted : h.deliveries ≡ sat32 (l.book.page.count o) 1
  pub few : for_delivery h.destination ≡ true → h.deliveries ≤ M
  pub under : l.redeliveries < N

abbrev pub HandsFew : ℕ → ℕ → Ledger → Effect → Type 0
HandsFew M N l (handing o h) = Counted M N l o h
HandsFew M N l (settling named) = Unit {0}
HandsFew M N l (requeuing o) = Unit {0}
HandsFew M N l renewing = Unit {0}
HandsFew M N l (restarting a) = Unit {0}
HandsFew M N l nothing = Unit {0}

-- so does a policy have it whose limit is set and at most M, and whose threshold is at most N
module _ (p : Policy) (limited : 0 < p.maxDeliver) (fires : p.maxDeliver < MAX32) (M N : ℕ) (limit : p.maxDeliver ≤ M)
    (threshold : p.flush_redeliveries ≤ N) where
  pub few-handed : (l : Ledger) (x : Effect) → HandsOut p l x → HandsFew M N l x
  few-handed l (handing o h) w =
      record {
        offset = w.offset;
        unsettled = w.unsettled;
        counted = w.counted;
        few = λ t. omega (arith, leb-true h.deliveries p.maxDeliver (rw (w.destined, for_delivery_lem p limited fires h.deliveries) at t));
        under = omega (arith, w.under);
      }
  few-handed l (settling named) w = tt
  few-handed l (requeuing o) w = tt
  few-handed l renewing w = tt
  few-handed l (restarting a) w = tt
  few-handed l nothing w = tt

-- ## the bounds
module _ (M N : ℕ) (fires : M < MAX32) where
  record Bounds (b : Book) (D : ℕ → ℕ) (C r : ℕ) : Type 0 where
    low : r ≤ N
    always : (o : ℕ) → D o ≤ M + C * (N + 1)
    page : (o : ℕ) → b.page.settled o ≡ false → D o ≤ min (b.page.count o) M + C * (N + 1)
    copy : (o : ℕ) → b.copy.settled o ≡ false → D o ≤ min (b.copy.count o) M + C * (N + 1) + r + 1

  module _ (b : Book) (D : ℕ → ℕ) (C r : ℕ) (k : Bounds b D C r) where
    settles : (q : Page) → Fewer b.page q → Bounds (with_page b q) (λ o. D o + 0) (C + 0) r
    settles q f =
        record {
          low = k.low;
          always = λ o. omega (arith, k.always o);
          page = λ o d. rw (f.count o d) (omega (arith, k.page o (f.unsettled o d)));
          copy = λ o d. omega (arith, k.copy o d);
        }

    same : Bounds b (λ o. D o + 0) (C + 0) r
    same = settles b.page (record { unsettled = λ o e. e; count = λ o e. refl })

    renews : Bounds (renewed b) (λ o. D o + 0) (C + 0) 0
    renews =
        record {
          low = omega arith;
          always = λ o. omega (arith, k.always o);
          page = λ o d. omega (arith, k.page o d);
          copy = λ o d. omega (arith, k.page o d);
        }

    refuses : Bounds b (λ o. D o + 0) (C + 1) r
    refuses =
        record {
          low = k.low;
          always = λ o. omega (arith, k.always o);
          page = λ o d. omega (arith, k.page o d);
          copy = λ o d. omega (arith, k.copy o d);
        }

    goes_back : Bounds (went_back b) (λ o. D o + 0) (C + 1) 0
    goes_back =
        record {
          low = omega arith;
          always = λ o. omega (arith, k.always o);
          page = λ o d. omega (arith, k.copy o d, k.low);
          copy = λ o d. omega (arith, k.copy o d, k.low);
        }

    -- a hand-out of offset o with count n, for delivery or not
    module _ (o n : ℕ) (delivered : Bool) (open-on-page : b.page.settled o ≡ false) (counted : n ≡ sat32 (b.page.count o) 1)
        (few : delivered ≡ true → n ≤ M) (under : r < N) where
      open_at : (x : ℕ) → eqb x o ≡ true → b.page.settled x ≡ false
      open_at x t = rw (eqb-true x o t) open-on-page

      count_at : (x : ℕ) → eqb x o ≡ true → n ≡ sat32 (b.page.count x) 1
      count_at x t = rw (eqb-true x o t) counted

      hands : Bounds (with_page b (with_hand_out b.page o)) (λ x. D x + cond (delivered && eqb x o) 1 0) (C + 0) (cond (leb 2 n) (r + 1) r)
      hands =
          record {
            low = split (leb 2 n) (λ t. rw t (omega arith)) (λ t. rw t k.low);
            always = λ x. split delivered
                (λ q. rw q (split (eqb x o)
                (λ t. rw t (omega (arith, count_at x t, few q, k.page x (open_at x t))))
                (λ t. rw t (omega (arith, k.always x)))))
                (λ q. rw q (omega (arith, k.always x)));
            page = λ x d. split delivered
                (λ q. rw q (split (eqb x o)
                (λ t. rw t (omega (arith, count_at x t, few q, k.page x d)))
                (λ t. rw t (omega (arith, k.page x d)))))
                (λ q. rw q (split (eqb x o)
                (λ t. rw t (omega (arith, count_at x t, k.page x d)))
                (λ t. rw t (omega (arith, k.page x d)))));
            copy = λ x d. split (leb 2 n)
                (λ v. rw v (split (delivered && eqb x o)
                (λ t. rw t (omega (arith, k.copy x d)))
                (λ t. rw t (omega (arith, k.copy x d)))))
                (λ v. rw v (split delivered
                (λ q. rw q (split (eqb x o)
                (λ t. rw t (omega (arith, count_at x t, leb-false 2 n v, k.page x (open_at x t))))
                (λ t. rw t (omega (arith, k.copy x d)))))
                (λ q. rw q (omega (arith, k.copy x d)))));
          }

  module _ (l : Ledger) (D : ℕ → ℕ) (C : ℕ) (k : Bounds l.book D C l.redeliveries) where
    abbrev After : Effect → Type 0
    After x = Bounds (note l.book x) (λ o. D o + counted (delivers o) (handed x)) (C + is_restart x) (since l.redeliveries x)

    one : (x : Effect) → HandsFew M N l x → After x
    one (handing o h) w =
        rw w.offset
        (hands l.book D C l.redeliveries k o h.deliveries (for_delivery h.destination) w.unsettled w.counted w.few w.under)
    one (settling named) w = settles l.book D C l.redeliveries k (settle l.book.page named) (fewer_settled l.book.page named)
    one (requeuing o) w = same l.book D C l.redeliveries k
    one renewing w = renews l.book D C l.redeliveries k
    one (restarting (refused r)) w = refuses l.book D C l.redeliveries k
    one (restarting (done s)) w = goes_back l.book D C l.redeliveries k
    one nothing w = same l.book D C l.redeliveries k

  -- along events of which something says so
  module _ (L : Ledger → Event → Type 0) (few : (l : Ledger) (e : Event) → L l e → HandsFew M N l (effect_of e)) where
    all : (es : List Event) (l : Ledger) (D : ℕ → ℕ) (C : ℕ) → Bounds l.book D C l.redeliveries → Along noted L l es
        → (o : ℕ) → D o + hand_outs (delivers o) es ≤ M + (C + restarts_seen es) * (N + 1)
    unfolding Along hand_outs restarts_seen
    all [] l D C k h o = omega (arith, k.always o)
    all (e ∷ es) l D C k h o =
        let x : Effect = effect_of e in
        omega (
          arith,
          all es (noted l e) (λ y. D y + counted (delivers y) (handed x)) (C + is_restart x) (one l D C k x (few l e h.0)) h.1 o,
        )

    -- from a book whose copy is its page, with no redeliveries since: what its page counted before, up to M, is counted with them
    pub few-from : (l : Ledger) → l.book.copy ≡ l.book.page → l.redeliveries ≡ 0 → (es : List Event) → Along noted L l es
        → (o : ℕ) → min (l.book.page.count o) M + hand_outs (delivers o) es ≤ M + restarts_seen es * (N + 1)
    few-from l same none_yet es h o =
        omega (arith, all es l (λ x. min (l.book.page.count x) M) 0 (rw (same, none_yet) before) h o)
      where
        before : Bounds (record { page = l.book.page; copy = l.book.page }) (λ x. min (l.book.page.count x) M) 0 0
        before = record { low = omega arith; always = λ x. omega arith; page = λ x e. omega arith; copy = λ x e. omega arith }

-- ## under one policy
module _ (p : Policy) (limited : 0 < p.maxDeliver) (fires : p.maxDeliver < MAX32) where
  pub bounded-from : (l : Ledger) → l.book.copy ≡ l.book.page → l.redeliveries ≡ 0 → (es : List Event) → Along noted (Seen p) l es
      → (o : ℕ) → min (l.book.page.count o) p.maxDeliver + hand_outs (delivers o) es ≤ p.maxDeliver + restarts_seen es * (p.flush_redeliveries + 1)
  bounded-from =
      few-from p.maxDeliver p.flush_redeliveries fires (Seen p)
      (λ l e h. few-handed p limited fires p.maxDeliver p.flush_redeliveries (omega arith) (omega arith) l (effect_of e) h.2)

  pub bounded : (es : List Event) → Along noted (Seen p) empty_ledger es → (o : ℕ) → hand_outs (delivers o) es ≤ p.maxDeliver + restarts_seen es * (p.flush_redeliveries + 1)
  bounded es h o = omega (arith, bounded-from empty_ledger refl refl es h o)
