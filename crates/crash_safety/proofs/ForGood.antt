-- The law of the events is obeyed by every list. An accepted Ack, Term or Commit is settled on the book's page until a restart, and on its copy
-- for good once a header is written; a restart finds the copy. Each is said of events first, and then of every list. Assumes nothing.
use Prim.Native.Nat.{ℕ}
use native.Mathlib.Omega.{arith}
use mathlib.Core.Path.{◌≡◌, refl, ◌∙◌}
use mathlib.Core.Bool.{true, false, or-true}
use mathlib.Core.List.{List, [], ◌∷◌, ◌++◌}
use mathlib.Core.Option.{some, none-ne-some}
use lib.Dec.{eqb}
use borrow.Author.Tests.{eqb-true}
use Rattle.types.specs.Refusal.{refused, done}
use Rattle.types.specs.Table.{Passed}
use Rattle.types.proofs.Cases.{split}
use Rattle.journal.proofs.Sound.{differ}
use Rattle.delivery.specs.Policy.{Policy}
use Rattle.consumer.specs.State.{Configuration, State}
use Rattle.starts.specs.Restart.{start_table}
use Rattle.machine.specs.Calls.{Event}
use Rattle.machine.specs.Transitions.{Phase, idle, writing, off}
use Rattle.crash_safety.specs.Effects.{Effect, handing, settling, requeuing, renewing, restarting, nothing, effect_of}
use Rattle.crash_safety.specs.Book.{Book, empty_book, note, book_after}
use Rattle.crash_safety.specs.Runs.{world, run, ends, fresh_world}
use Rattle.crash_safety.specs.Demand3.{handed, counted, hand_outs, Finds, is_restart, restarts_seen}
use Rattle.crash_safety.specs.Settled.{settles, state_in}
use Rattle.crash_safety.specs.Disk.{Write}
use Rattle.crash_safety.specs.Unordered.{run_on, ends_on, fresh_disk}
use Rattle.crash_safety.specs.Law.{LawOfEvents, LawOnDisk}
use Rattle.crash_safety.specs.ForGood.{hands, SettledSince, WrittenSince, ShowsUntilRestart, SettledForGood, WrittenForGood, FindsNow, OnlyTheCopy, ShowsOnDisk, SettledOnDisk, WrittenOnDisk, HeldIsTheCopy}
use Rattle.crash_safety.proofs.Law.{Ledger, empty_ledger, noted, HandsOut, Law, Along, folded, folded-book}
use Rattle.crash_safety.proofs.Runs.{along, at-end}
use Rattle.crash_safety.proofs.Invariant.{Saved, restored, Journal, Agrees, Inv}
use Rattle.crash_safety.proofs.Journals.{restart-finds}
use Rattle.crash_safety.proofs.Reached.{reached}
use Rattle.crash_safety.proofs.Steps.{flushed-agrees}
use Rattle.crash_safety.proofs.Kept.{item-kept}
use Rattle.crash_safety.proofs.Start.{begins_well}
use Rattle.crash_safety.proofs.OnDisk.{along-behind, along-on, at-end-on}
use Rattle.crash_safety.proofs.Unordered.{Standing, InvOn, kept_on}

-- ## the events
-- a hand-out answers a claim of its offset, which the page has open
abbrev pub OfOpen : Ledger → Effect → Type 0
OfOpen l (handing o h) = (h.offset ≡ o) × (l.book.page.settled o ≡ false)
OfOpen l (settling named) = Unit {0}
OfOpen l (requeuing o) = Unit {0}
OfOpen l renewing = Unit {0}
OfOpen l (restarting a) = Unit {0}
OfOpen l nothing = Unit {0}

pub of_open : (p : Policy) (l : Ledger) (x : Effect) → HandsOut p l x → OfOpen l x
of_open p l (handing o h) w = (w.offset, w.unsettled)
of_open p l (settling named) w = tt
of_open p l (requeuing o) w = tt
of_open p l renewing w = tt
of_open p l (restarting a) w = tt
of_open p l nothing w = tt

module _ (o : ℕ) where
  abbrev OnPage : Book → Type 0
  OnPage b = b.page.settled o ≡ true

  -- what is settled on the copy is so on the page
  abbrev pub Within : Book → Type 0
  Within b = b.copy.settled o ≡ true → b.page.settled o ≡ true

  abbrev pub Both : Book → Type 0
  Both b = (b.copy.settled o ≡ true) × (b.page.settled o ≡ true)

  within-one : (b : Book) (x : Effect) → Within b → Within (note b x)
  within-one b (handing x h) k = k
  within-one b (settling named) k = λ e. rw (k e) (or-true (named o))
  within-one b (requeuing x) k = k
  within-one b renewing k = λ e. e
  within-one b (restarting (refused r)) k = k
  within-one b (restarting (done s)) k = λ e. e
  within-one b nothing k = k

  pub within-after : (es : List Event) (b : Book) → Within b → Within (book_after b es)
  unfolding book_after
  within-after [] b k = k
  within-after (e ∷ es) b k = within-after es (note b (effect_of e)) (within-one b (effect_of e) k)

  both_one : (b : Book) (x : Effect) → Both b → Both (note b x)
  both_one b (handing x h) k = k
  both_one b (settling named) k = (k.0, rw k.1 (or-true (named o)))
  both_one b (requeuing x) k = k
  both_one b renewing k = (k.1, k.1)
  both_one b (restarting (refused r)) k = k
  both_one b (restarting (done s)) k = (k.0, k.0)
  both_one b nothing k = k

  -- what the page has settled is not handed out
  none_one : (l : Ledger) (x : Effect) → OnPage l.book → OfOpen l x → counted (hands o) (handed x) ≡ 0
  none_one l (handing x h) k w =
      split (eqb o h.offset)
      (λ t. let here : o ≡ x = eqb-true o h.offset t ∙ w.0 in absurd (differ (rw here at k) w.1))
      (λ t. rw t)
  none_one l (settling named) k w = refl
  none_one l (requeuing x) k w = refl
  none_one l renewing k w = refl
  none_one l (restarting a) k w = refl
  none_one l nothing k w = refl

  -- what both have settled is never handed out, from whatever says that hand-outs are of open offsets
  module _ (L : Ledger → Event → Type 0) (opens : (l : Ledger) (e : Event) → L l e → OfOpen l (effect_of e)) where
    pub never-handed : (es : List Event) (l : Ledger) → Both l.book → Along noted L l es → hand_outs (hands o) es ≡ 0
    unfolding Along hand_outs
    never-handed [] l k h = refl
    never-handed (e ∷ es) l k h =
        omega (arith, none_one l (effect_of e) k.1 (opens l e h.0), never-handed es (noted l e) (both_one l.book (effect_of e) k) h.1)

  pub none_handed : (p : Policy) (es : List Event) (l : Ledger) → Both l.book → Along noted (Law p) l es → hand_outs (hands o) es ≡ 0
  none_handed p = never-handed (Law p) (λ l e h. of_open p l (effect_of e) h.2)

  pub both-after : (es : List Event) (l : Ledger) → Both l.book → Both (folded noted l es).book
  unfolding folded
  both-after [] l k = k
  both-after (e ∷ es) l k = both-after es (noted l e) (both_one l.book (effect_of e) k)

-- ## settled since
book-append : (es fs : List Event) (b : Book) → book_after b (es ++ fs) ≡ book_after (book_after b es) fs
unfolding book_after
book-append [] fs b = refl
book-append (e ∷ es) fs b = book-append es fs (note b (effect_of e))

module _ (o : ℕ) where
  -- what settles the offset puts it on the page
  named-noted : (b : Book) (x : Effect) → settles x o ≡ true → OnPage o (note b x)
  named-noted b (handing y h) e = absurd (differ e refl)
  named-noted b (settling named) e = rw e
  named-noted b (requeuing y) e = absurd (differ e refl)
  named-noted b renewing e = absurd (differ e refl)
  named-noted b (restarting a) e = absurd (differ e refl)
  named-noted b nothing e = absurd (differ e refl)

  page-one : (b : Book) (x : Effect) → is_restart x ≡ 0 → OnPage o b → OnPage o (note b x)
  page-one b (handing y h) z k = k
  page-one b (settling named) z k = rw k (or-true (named o))
  page-one b (requeuing y) z k = k
  page-one b renewing z k = k
  page-one b (restarting a) z k = absurd (omega arith)
  page-one b nothing z k = k

  page-after : (es : List Event) (b : Book) → restarts_seen es ≡ 0 → OnPage o b → OnPage o (book_after b es)
  unfolding book_after restarts_seen
  page-after [] b z k = k
  page-after (e ∷ es) b z k = page-after es (note b (effect_of e)) (omega arith) (page-one b (effect_of e) (omega arith) k)

  module _ (p : Policy) where
    page_none : (es : List Event) (l : Ledger) → restarts_seen es ≡ 0 → OnPage o l.book → Along noted (Law p) l es → hand_outs (hands o) es ≡ 0
    unfolding Along hand_outs restarts_seen
    page_none [] l z k h = refl
    page_none (e ∷ es) l z k h =
        omega (
          arith,
          none_one o l (effect_of e) k (of_open p l (effect_of e) h.0.2),
          page_none es (noted l e) (omega arith) (page-one l.book (effect_of e) (omega arith) k) h.1,
        )

    -- the page has it, and nobody was handed it since
    record OnPageSince (es since : List Event) : Type 0 where
      page : OnPage o (book_after empty_book es)
      never : hand_outs (hands o) since ≡ 0

    settled-since : (es : List Event) (by : SettledSince o es) → Along noted (Law p) empty_ledger es → OnPageSince es by.since
    unfolding book_after Along folded
    settled-since es by h =
        let l = folded noted empty_ledger by.before in
        let then : OnPage o (noted l by.by).book = named-noted l.book (effect_of by.by) by.named in
        let rest = along-behind noted (Law p) by.before (by.by ∷ by.since) empty_ledger (rw by.parts at h) in
        record {
          page = rw (by.parts, book-append by.before (by.by ∷ by.since) empty_book, ← folded-book by.before empty_ledger)
              (page-after by.since (noted l by.by).book by.no-restart then);
          never = page_none by.since (noted l by.by) by.no-restart then rest.1;
        }

  -- and with a header after it the copy has it, whatever comes then
  both_later : (es : List Event) (b : Book) → Both o b → Both o (book_after b es)
  unfolding book_after
  both_later [] b k = k
  both_later (e ∷ es) b k = both_later es (note b (effect_of e)) (both_one o b (effect_of e) k)

  page-since : (es : List Event) → SettledSince o es → OnPage o (book_after empty_book es)
  unfolding book_after
  page-since es by =
      rw (by.parts, book-append by.before (by.by ∷ by.since) empty_book)
      (page-after by.since (note (book_after empty_book by.before) (effect_of by.by)) by.no-restart
      (named-noted (book_after empty_book by.before) (effect_of by.by) by.named))

  pub written-copied : (es : List Event) → WrittenSince o es → (book_after empty_book es).copy.settled o ≡ true
  unfolding book_after
  written-copied es w =
      let b = book_after empty_book w.before in
      let page : OnPage o b = page-since w.before w.named in
      let both : Both o (note b (effect_of w.header)) = rw w.written (page, page) in
      rw (w.parts, book-append w.before (w.header ∷ w.since) empty_book) (both_later w.since (note b (effect_of w.header)) both).0

-- ## who can be called
pub agrees_in : (c : Configuration) (n : ℕ) (l : Ledger) (p : Phase) (a : List ℕ) (s : State) → Inv c n l (world p a) → state_in p ≡ some s
    → Agrees l.book.page s
agrees_in c n l (idle x) a s inv e = let q : x ≡ s = cc in rw (← q) inv.callable.agrees
agrees_in c n l (writing w) a s inv e = let q : w.state ≡ s = cc in rw (← q) inv.callable.0.agrees
agrees_in c n l off a s inv e = absurd (none-ne-some s e)

pub agrees_on : (c : Configuration) (n : ℕ) (l : Ledger) (p : Phase) (a : List ℕ) (ws : List Write) (s : State) → Standing c n l p a ws
    → state_in p ≡ some s → Agrees l.book.page s
agrees_on c n l (idle x) a [] s inv e = agrees_in c n l (idle x) a s inv e
agrees_on c n l (idle x) a (k ∷ ks) s f e =
    let q : x ≡ s = cc in
    rw (← q, f.state) (flushed-agrees f.record_of.state l.book.page f.inv.callable.0.agrees)
agrees_on c n l (writing w) a ws s u e = let q : w.state ≡ s = cc in rw (← q) u.stands.agrees
agrees_on c n l off a ws s f e = absurd (none-ne-some s e)

-- ## every list
pub law-of-events : LawOfEvents
unfolding LawOfEvents
law-of-events c n s items f e =
    let b = begins_well c n s f e in
    let w = fresh_world s n in
    let es : List Event = run c w items in
    let left = ends c w items in
    let inv = at-end noted (Law c.settings.policy) (Inv c n) c (item-kept c n b.accepted) items empty_ledger w b.inv in
    record {
      obeyed = along noted (Law c.settings.policy) (Inv c n) c (item-kept c n b.accepted) items empty_ledger w b.inv;
      agrees = λ x q. rw (← folded-book es empty_ledger) (agrees_in c n (folded noted empty_ledger es) left.phase left.journal x inv q);
    }

pub law-on-disk : LawOnDisk
unfolding LawOnDisk
law-on-disk c n s items f e =
    let b = begins_well c n s f e in
    let w = fresh_disk s n in
    let es : List Event = run_on c w items in
    let left = ends_on c w items in
    let inv = at-end-on noted (Law c.settings.policy) (InvOn c n) c (kept_on c n b.accepted) items empty_ledger w b.inv in
    record {
      obeyed = along-on noted (Law c.settings.policy) (InvOn c n) c (kept_on c n b.accepted) items empty_ledger w b.inv;
      agrees = λ x q. rw (← folded-book es empty_ledger)
          (agrees_on c n (folded noted empty_ledger es) left.phase left.disk.held left.disk.pending x inv q);
    }

-- the ledger after a list has the offset settled on both sides
both-there : (es : List Event) (o : ℕ) → (book_after empty_book es).copy.settled o ≡ true → Both o (folded noted empty_ledger es).book
both-there es o t = rw (folded-book es empty_ledger) (t, within-after o es empty_book (λ q. q) t)

pub settled_for_good : SettledForGood
unfolding SettledForGood
settled_for_good c n s before after o f e t =
    let b = begins_well c n s f e in
    let w = fresh_world s n in
    let l = folded noted empty_ledger (run c w before) in
    let mid = ends c w before in
    let left = ends c mid after in
    let P = Law c.settings.policy in
    let inv = at-end noted P (Inv c n) c (item-kept c n b.accepted) before empty_ledger w b.inv in
    let end = at-end noted P (Inv c n) c (item-kept c n b.accepted) after l mid inv in
    let both = both-there (run c w before) o t in
    record {
      never = none_handed o c.settings.policy (run c mid after) l both
          (along noted P (Inv c n) c (item-kept c n b.accepted) after l mid inv);
      stays = λ x q. (agrees_in c n (folded noted l (run c mid after)) left.phase left.journal x end q).settles o
          ∙ (both-after o (run c mid after) l both).1;
    }

pub shows_until_restart : ShowsUntilRestart
unfolding ShowsUntilRestart LawOfEvents
shows_until_restart c n s items f e o by =
    let law = law-of-events c n s items f e in
    let k = settled-since o c.settings.policy (run c (fresh_world s n) items) by law.obeyed in
    record { never = k.never; state = λ x q. (law.agrees x q).settles o ∙ k.page }

pub written_for_good : WrittenForGood
unfolding WrittenForGood SettledForGood
written_for_good c n s before after o f e w =
    settled_for_good c n s before after o f e (written-copied o (run c (fresh_world s n) before) w)

pub only_the_copy : OnlyTheCopy
unfolding OnlyTheCopy
only_the_copy c n s items f e =
    let r = reached c n s items f e in
    let left = ends c (fresh_world s n) items in
    record {
      state = restored c n r.inv.saved;
      answered = restart-finds c n left.journal r.inv.saved r.accepted r.inv.journal;
      finds = rw (← r.books) r.inv.finds;
    }

-- ## on the disk
pub shows-on-disk : ShowsOnDisk
unfolding ShowsOnDisk LawOnDisk
shows-on-disk c n s items f e o by =
    let law = law-on-disk c n s items f e in
    let k = settled-since o c.settings.policy (run_on c (fresh_disk s n) items) by law.obeyed in
    record { never = k.never; state = λ x q. (law.agrees x q).settles o ∙ k.page }

pub settled-on-disk : SettledOnDisk
unfolding SettledOnDisk
settled-on-disk c n s before after o f e t =
    let b = begins_well c n s f e in
    let w = fresh_disk s n in
    let l = folded noted empty_ledger (run_on c w before) in
    let mid = ends_on c w before in
    let left = ends_on c mid after in
    let P = Law c.settings.policy in
    let inv = at-end-on noted P (InvOn c n) c (kept_on c n b.accepted) before empty_ledger w b.inv in
    let end = at-end-on noted P (InvOn c n) c (kept_on c n b.accepted) after l mid inv in
    let both = both-there (run_on c w before) o t in
    record {
      never = none_handed o c.settings.policy (run_on c mid after) l both
          (along-on noted P (InvOn c n) c (kept_on c n b.accepted) after l mid inv);
      stays = λ x q. (agrees_on c n (folded noted l (run_on c mid after)) left.phase left.disk.held left.disk.pending x end q).settles o
          ∙ (both-after o (run_on c mid after) l both).1;
    }

pub written-on-disk : WrittenOnDisk
unfolding WrittenOnDisk SettledOnDisk
written-on-disk c n s before after o f e w =
    settled-on-disk c n s before after o f e (written-copied o (run_on c (fresh_disk s n) before) w)

-- what is held is the copy, whatever is pending
held_found : (c : Configuration) (n : ℕ) (l : Ledger) → Passed (start_table c n) → (p : Phase) (a : List ℕ) (ws : List Write) → Standing c n l p a ws
    → FindsNow c a l.book.copy
held_found c n l accepted p a ws st = go p ws st
  where
    found : (v : Saved) → Journal c n a v → Finds l.book.copy (restored c n v) → FindsNow c a l.book.copy
    found v j finds = record { state = restored c n v; answered = restart-finds c n a v accepted j; finds = finds }

    go : (p : Phase) (ws : List Write) → Standing c n l p a ws → FindsNow c a l.book.copy
    go (idle s) [] inv = found inv.saved inv.journal inv.finds
    go (idle s) (k ∷ ks) f = found f.inv.saved f.inv.journal f.inv.finds
    go (writing w) ws u = found u.saved u.journal u.finds
    go off [] inv = found inv.saved inv.journal inv.finds
    go off (k ∷ ks) f = absurd f

pub held-is_the_copy : HeldIsTheCopy
unfolding HeldIsTheCopy
held-is_the_copy c n s items f e =
    let b = begins_well c n s f e in
    let w = fresh_disk s n in
    let es : List Event = run_on c w items in
    let left = ends_on c w items in
    rw (← folded-book es empty_ledger)
    (held_found c n (folded noted empty_ledger es) b.accepted left.phase left.disk.held left.disk.pending
    (at-end-on noted (Law c.settings.policy) (InvOn c n) c (kept_on c n b.accepted) items empty_ledger w b.inv))
