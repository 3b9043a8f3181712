-- Every list leaves a journal that remembers the groups of the list: each item keeps what is remembered, and what a header adds is what the
-- journal holds then. Assumes nothing.
use Prim.Native.Nat.{ℕ, ◌*◌}
use native.Mathlib.Omega.{arith}
use mathlib.Core.Path.{◌≡◌, refl, sym, ap, ◌∙◌}
use mathlib.Core.Bool.{Bool, true, false}
use mathlib.Core.List.{List, [], ◌∷◌, ◌++◌, append_assoc, append-nil}
use mathlib.Core.Option.{Option, none, some}
use lib.Dec.{eqb}
use lib.ListN.{take, drop, replicate}
use borrow.Author.Tests.{eqb-true}
use Rattle.types.specs.Refusal.{Result, refused, done}
use Rattle.types.proofs.Cases.{split, both}
use Rattle.types.proofs.Checked.{done_inj}
use Rattle.raw.specs.Bytes.{all_zero}
use Rattle.journal.specs.Area.{block_at, write_at}
use Rattle.journal.specs.Blocks.{kind_of}
use Rattle.journal.specs.Sound.{is_kind}
use Rattle.journal.specs.Walks.{Stop}
use Rattle.journal.proofs.Blocks.{zeros}
use Rattle.journal.proofs.Sound.{differ, other-kind, zeros-take, zeros-drop}
use Rattle.journal.proofs.Walks.{headless-zeros}
use Rattle.consumer.specs.State.{Configuration, State, next_group_at}
use Rattle.consumer.specs.Valid.{Fits}
use Rattle.checkpoint.specs.Checkpoint as checkpoint
use Rattle.checkpoint.specs.Checkpoint.{Writing, is_last, next_place, next_block}
use Rattle.starts.specs.Restart.{start, walk_of, restart}
use Rattle.machine.specs.Calls.{Ask, claim, ack, term, nack, progress, commit, look}
use Rattle.machine.specs.Transitions.{Phase, idle, writing, off, After, asked, began_as, stepped_as, restarted_as}
use Rattle.power_cut.specs.Cut.{Cut, old, new, torn, is_torn, cut_at, cut_on}
use Rattle.crash_safety.specs.Runs.{Item, World, world, ends, fresh_world, next}
use Rattle.crash_safety.proofs.Law.{Ledger}
use Rattle.crash_safety.proofs.Runs.{ends-made, ends-skipped, ends_none, ends-behind}
use Rattle.crash_safety.proofs.Items.{Shown, next_cases}
use Rattle.crash_safety.proofs.Invariant.{Saved, Journal, is-ready, Inv}
use Rattle.crash_safety.proofs.Journals.{end_of, stored}
use Rattle.crash_safety.proofs.Writes.{more-journal, torn-journal, header-journal}
use Rattle.crash_safety.proofs.Steps.{same_length}
use Rattle.crash_safety.proofs.Known.{Remembers, remembers_more, torn_remembered, more_remembered, header_remembered}
use Rattle.crash_safety.proofs.Reached.{Reached, reached}

-- ## what each item leaves
module _ (c : Configuration) (n : ℕ) where
  -- P held of what was saved, or the journal holds it now
  data Newer (P : Saved → Type 0) (a : List ℕ) (v : Saved) : Type 0 where
    then : P v → Newer P a v
    now : Journal c n a v → Newer P a v

  -- beside the place where the walk ends
  pub record Recalls (P : Saved → Type 0) (a : List ℕ) : Type 0 where
    pub at : (e : Stop) → walk_of a ≡ done e → Remembers c n P a (next_group_at e.number e.block)

  module _ (P : Saved → Type 0) (a : List ℕ) (v : Saved) (j : Journal c n a v) where
    pub recalled : Recalls P a → Remembers c n P a v.next
    recalled r = r.at (end_of j) j.groups.walks

    recalls : Remembers c n P a v.next → Recalls P a
    recalls r =
        record {
          at = λ e w.
              let same : end_of j ≡ e = done_inj (sym j.groups.walks ∙ w) in
              rw (← same) r;
        }

  abbrev RecallsAfter : (Saved → Type 0) → Option After → Type 0
  RecallsAfter P none = Unit {0}
  RecallsAfter P (some t) = Recalls (Newer P t.area) t.area

  recalls-more : (P Q : Saved → Type 0) (a : List ℕ) → ((v : Saved) → P v → Q v) → Recalls P a → Recalls Q a
  recalls-more P Q a more r = record { at = λ e w. remembers_more c n P Q more a (next_group_at e.number e.block) (r.at e w) }

  module _ (P : Saved → Type 0) (l : Ledger) where
    -- the journal as it was
    unchanged : (a : List ℕ) → Recalls P a → Recalls (Newer P a) a
    unchanged a = recalls-more P (Newer P a) a (λ v. then)

    asked-recalls : (s : State) (a : List ℕ) (w : ℕ) (q : Ask) → Recalls P a → RecallsAfter P (asked s a w q)
    asked-recalls s a w (claim o at) = unchanged a
    asked-recalls s a w (ack o g) = unchanged a
    asked-recalls s a w (term o g) = unchanged a
    asked-recalls s a w (nack o g at d) = unchanged a
    asked-recalls s a w (progress o g at) = unchanged a
    asked-recalls s a w (commit b) = unchanged a
    asked-recalls s a w (look x) = unchanged a

    began-recalls : (s : State) (a : List ℕ) (r : Result Writing) → Recalls P a → RecallsAfter P (began_as s a r)
    began-recalls s a (refused r) = unchanged a
    began-recalls s a (done w) = unchanged a

    restarted-recalls : (p : Phase) (a : List ℕ) (r : Result State) → Recalls P a → RecallsAfter P (restarted_as p a r)
    restarted-recalls p a (refused r) = unchanged a
    restarted-recalls p a (done s) = unchanged a

    module _ (w : Writing) (a : List ℕ) (inv : Inv c n l (world (writing w) a)) (r : Recalls P a) where
      abbrev v : Saved
      v = inv.saved

      abbrev longer : List ℕ
      longer = write_at a (next_place w) (next_block w)

      here : Remembers c n P a v.next
      here = recalled P a v inv.journal r

      longer-recalls : (last : Bool) → is_last w ≡ last → Recalls (Newer P longer) longer
      longer-recalls false t =
          recalls (Newer P longer) longer v (more-journal c n v a w inv.journal (is-ready inv.callable.0) inv.callable.1 t)
          (more_remembered c n P (Newer P longer) (λ u. then) a v w inv.journal here (is-ready inv.callable.0) inv.callable.1 t)
      longer-recalls true t =
          let full : Journal c n longer (stored w.state) = header-journal c n v a w inv.journal (is-ready inv.callable.0) inv.callable.1 t in
          recalls (Newer P longer) longer (stored w.state) full
          (header_remembered c n P (Newer P longer) (λ u. then) a v w inv.journal here (is-ready inv.callable.0) inv.callable.1 t (now full))

      step-recalls : RecallsAfter P (stepped_as (checkpoint.step w a))
      unfolding checkpoint.step
      step-recalls = rw (same_length c n l a w inv) (longer-recalls (is_last w) refl)

      cut-at-recalls : (k : Cut) → RecallsAfter P (cut_at w a k)
      cut-at-recalls old = unchanged a r
      cut-at-recalls new = longer-recalls (is_last w) refl
      cut-at-recalls (torn b) =
          split (is_torn b)
          (λ t. rw t
          (recalls (Newer P (write_at a (next_place w) b)) (write_at a (next_place w) b) v (torn-journal c n v a w inv.journal (is-ready inv.callable.0) inv.callable.1 b t)
          (torn_remembered c n P (Newer P (write_at a (next_place w) b)) (λ u. then) a v w inv.journal here (is-ready inv.callable.0) inv.callable.1 b t)))
          (λ t. rw t tt)

      cut-recalls : (k : Cut) → RecallsAfter P (cut_on w a k)
      cut-recalls k = rw (same_length c n l a w inv) (cut-at-recalls k)

    shown : (p : Phase) (a : List ℕ) → Inv c n l (world p a) → Recalls P a → Shown (λ i. RecallsAfter P) a p
    shown (idle s) a inv r = (λ w q t. asked-recalls s a w q r, λ w. began-recalls s a (checkpoint.begin s w) r)
    shown (writing w) a inv r = (step-recalls w a inv r, λ b t. unchanged a r, λ k. cut-recalls w a inv r k)
    shown off a inv r = tt

    item-recalls : (w : World) (i : Item) → Inv c n l w → Recalls P w.journal → RecallsAfter P (next c w i)
    item-recalls w i inv r =
        next_cases c (λ i. RecallsAfter P) (λ j q. tt) w.phase w.journal
        (restarted-recalls w.phase w.journal (restart c w.journal) r)
        (shown w.phase w.journal inv r) i

-- ## zeros
zero-kind : (b : List ℕ) → all_zero b ≡ true → kind_of b ≡ 0
zero-kind [] e = refl
zero-kind (x ∷ b) e = eqb-true x 0 (both (eqb x 0) (all_zero b) e).0

zero-body : (n i : ℕ) → is_kind 2 (block_at (replicate n 0) i) ≡ false
unfolding block_at
zero-body n i =
    let b : List ℕ = take 512 (drop (512 * i) (replicate n 0)) in
    let nothing : kind_of b ≡ 0 = zero-kind b (zeros-take 512 (drop (512 * i) (replicate n 0)) (zeros-drop (512 * i) (replicate n 0) (zeros n))) in
    other-kind 2 b (λ q. omega arith)

-- ## every list
-- what holds of no items, and of one item more where it holds, holds of all
item-by-item : (Q : List Item → Type 0) → ((items : List Item) (i : Item) → Q items → Q (items ++ i ∷ []))
    → (is items : List Item) → Q items → Q (items ++ is)
item-by-item Q each [] items q = rw (append-nil items) q
item-by-item Q each (i ∷ is) items q = rw (append_assoc items (i ∷ []) is) at (item-by-item Q each is (items ++ i ∷ []) (each items i q))

module _ (c : Configuration) (n : ℕ) (s : State) (f : Fits c.settings) (e : start c n ≡ done s) where
  abbrev from : World
  from = fresh_world s n

  -- what the journal held after a first part of the items
  pub record Past (items : List Item) (v : Saved) : Type 0 where
    pub before : List Item
    pub after : List Item
    pub parts : before ++ after ≡ items
    pub journal : Journal c n (ends c from before).journal v

  abbrev pub Recalled : List Item → Type 0
  Recalled items = Recalls c n (Past items) (ends c from items).journal

  nothing_written : Recalled []
  nothing_written =
      rw (ends_none c from) (record {
        at = λ stopped w. record {
          known = λ h l t. absurd (differ t (headless-zeros (replicate n 0) (zeros n) h));
          named = λ i l t. absurd (differ t (zero-body n i));
          apart = λ h i l m t u q. absurd (differ t (headless-zeros (replicate n 0) (zeros n) h));
        };
      })

  past_more : (items : List Item) (i : Item) (v : Saved) → Past items v → Past (items ++ i ∷ []) v
  past_more items i v p =
      record {
        before = p.before;
        after = p.after ++ i ∷ [];
        parts = sym (append_assoc p.before p.after (i ∷ [])) ∙ ap (λ (x : List Item). x ++ i ∷ []) p.parts;
        journal = p.journal;
      }

  one_more : (items : List Item) (i : Item) → Recalled items → Recalled (items ++ i ∷ [])
  one_more items i r = go (next c here i) refl (item-recalls c n (Past items) inv.ledger here i inv.inv r)
    where
      here : World
      here = ends c from items

      inv : Reached c n s items
      inv = reached c n s items f e

      go : (x : Option After) → next c here i ≡ x → RecallsAfter c n (Past items) x → Recalled (items ++ i ∷ [])
      go none q m =
          let same : ends c from (items ++ i ∷ []) ≡ here = ends-behind c items (i ∷ []) from ∙ ends-skipped c here i [] q ∙ ends_none c here in
          rw same (recalls-more c n (Past items) (Past (items ++ i ∷ [])) here.journal (past_more items i) r)
      go (some t) q m =
          let same : ends c from (items ++ i ∷ []) ≡ world t.phase t.area =
          ends-behind c items (i ∷ []) from ∙ ends-made c here i [] t q ∙ ends_none c _ in
          rw same (recalls-more c n (Newer c n (Past items) t.area) (Past (items ++ i ∷ [])) t.area (newer t same) m)
        where
          newer : (t : After) → ends c from (items ++ i ∷ []) ≡ world t.phase t.area → (v : Saved) → Newer c n (Past items) t.area v
              → Past (items ++ i ∷ []) v
          newer t same v (then p) = past_more items i v p
          newer t same v (now j) =
              record { before = items ++ i ∷ []; after = []; parts = append-nil (items ++ i ∷ []); journal = rw same j }

  pub always-recalled : (items : List Item) → Recalled items
  always-recalled items = item-by-item Recalled one_more items [] nothing_written
