-- Wear of any blocks: a restart is refused, or answers what it would have answered after a first part of the list; and which groups the
-- blocks that are left name. Assumes nothing.
use Prim.Native.Nat.{ℕ, ◌+◌, ◌*◌, ◌/◌, ◌≤◌, ◌<◌}
use native.Mathlib.Omega.{arith}
use native.Mathlib.Decide.{ℕ_discrete}
use mathlib.Core.Path.{◌≡◌, refl, sym, ap, ◌∙◌}
use mathlib.Core.Bool.{true, not}
use mathlib.Core.List.{List, [], ◌++◌}
use lib.Dec.{eqb}
use lib.ListN.{length}
use borrow.Author.Tests.{eqb-true, not-true}
use Rattle.types.specs.Refusal.{Result, done}
use Rattle.types.proofs.Cases.{both}
use Rattle.types.proofs.Checked.{done_inj}
use Rattle.types.proofs.Table.{checked-passed}
use Rattle.crc.specs.Seal.{is_sealed}
use Rattle.journal.specs.Area.{block_at, write_at, blocks}
use Rattle.journal.specs.Blocks.{group_of}
use Rattle.journal.specs.Sound.{is_kind, has_header_kind}
use Rattle.journal.specs.Walks.{after}
use Rattle.journal.proofs.Area.{write-length, write_same, write-other}
use Rattle.journal.proofs.Sound.{differ, kind-says}
use Rattle.consumer.specs.State.{Configuration, State}
use Rattle.consumer.specs.Valid.{Fits}
use Rattle.starts.specs.Restart.{start_table, fresh, start, origin, restart}
use Rattle.starts.proofs.Zeros.{start-restart}
use Rattle.power_cut.specs.Cut.{is_torn}
use Rattle.crash_safety.specs.Runs.{Item, ends, fresh_world}
use Rattle.crash_safety.specs.Wear.{Wear, AsOf, Unmixed, as_of, NeverMixed, NamesEarlier, NoneNamedLater}
use Rattle.crash_safety.specs.Wear as wear
use Rattle.crash_safety.proofs.Runs.{ends_none}
use Rattle.crash_safety.proofs.Invariant.{Saved, restored}
use Rattle.crash_safety.proofs.Journals.{restart-finds}
use Rattle.crash_safety.proofs.Known.{Known}
use Rattle.crash_safety.proofs.Recalls.{Past}
use Rattle.crash_safety.proofs.Reached.{reached}
use Rattle.crash_safety.proofs.WornReads.{Reads, bad, no-group, one-group, held, j, knows, reads}

-- ## any set of blocks
module _ (c : Configuration) (n : ℕ) (s : State) (f : Fits c.settings) (e : start c n ≡ done s) (items : List Item) where
  -- what a restart answered after a first part of the list
  as_of-then : (before after : List Item) (r : State) → before ++ after ≡ items → restart c (ends c (fresh_world s n) before).journal ≡ done r
      → AsOf c (fresh_world s n) items r
  as_of-then before after r q w =
      let b = reached c n s before f e in
      let same : restored c n b.inv.saved ≡ r = done_inj (sym (restart-finds c n _ b.inv.saved b.accepted b.inv.journal) ∙ w) in
      record { before = before; after = after; parts = q; answered = w; finds = rw (← same, ← b.books) b.inv.finds }

  started : start c n ≡ done (fresh c n)
  unfolding start
  started = checked-passed (start_table c n) (done (fresh c n)) (reached c n s items f e).accepted

  unmixed : (a' : List ℕ) (x : Result State) → Reads c n s f e items a' x → Unmixed c (fresh_world s n) items x
  unmixed a' x (bad i) = wear.damaged i
  unmixed a' x (no-group end w) = as_of (as_of-then [] items (fresh c n) refl (rw (ends_none c (fresh_world s n)) (sym (start-restart c n) ∙ started)))
  unmixed a' x (one-group end h o next k w q l u same) =
      let p = k.past in
      as_of
      (as_of-then p.before p.after (restored c n k.saved) p.parts
      (restart-finds c n _ k.saved (reached c n s items f e).accepted p.journal))

pub never-mixed : NeverMixed
unfolding NeverMixed
never-mixed c n s items f e a' worn = unmixed c n s f e items a' (restart c a') (reads c n s f e items a' worn)

-- ## the groups that blocks name
module _ (c : Configuration) (n : ℕ) (s : State) (f : Fits c.settings) (e : start c n ≡ done s) (items : List Item) (a' : List ℕ)
    (worn : Wear (ends c (fresh_world s n) items).journal a') where
  abbrev was : List ℕ
  was = (ends c (fresh_world s n) items).journal

  abbrev saved : Saved
  saved = held c n s f e items a' worn

  inside : (i : ℕ) → i < blocks a' → (i < blocks was) × (i < n / 512)
  inside i l = (omega (arith, worn.size), omega (arith, worn.size, (j c n s f e items a' worn).size))

  -- a block of either kind with a right check is as it was
  kept-kind : (kind i : ℕ) → i < blocks a' → is_kind kind (block_at a' i) ≡ true → block_at a' i ≡ block_at was i
  kept-kind kind i l t = worn.kept i (inside i l).0 (kind-says kind (block_at a' i) t).check

  known-then : (i : ℕ) → i < blocks a' → has_header_kind (block_at a' i) ≡ true
      → Known c n (Past c n s f e items) was (origin was) saved.next i
  known-then i l t = (knows c n s f e items a' worn).known i (inside i l).1 (rw (kept-kind 1 i l t) at t)

  number-then : (i : ℕ) (l : i < blocks a') (t : has_header_kind (block_at a' i) ≡ true) → group_of (block_at a' i) ≡ (known-then i l t).number
  number-then i l t = ap group_of (kept-kind 1 i l t) ∙ (known-then i l t).group.header.number

  names-earlier : NamesEarlier a' saved.next.number
  names-earlier =
      record {
        headers = λ i l t. omega (arith, number-then i l t, (known-then i l t).below);
        bodies = λ i l t.
            let same = kept-kind 2 i l t in
            rw same ((knows c n s f e items a' worn).named i (inside i l).1 (rw same at t));
        apart = λ h i l m t u q.
            let here = kept-kind 1 h l t in
            let there = kept-kind 1 i m u in
            (knows c n s f e items a' worn).apart h i (inside h l).1 (inside i m).1 (rw here at t) (rw there at u) (sym (ap group_of here) ∙ q ∙ ap group_of there);
      }

pub none_named-later : NoneNamedLater
unfolding NoneNamedLater
none_named-later c n s items f e a' worn r q =
    let b = reached c n s items f e in
    let same : restored c n (held c n s f e items a' worn) ≡ r =
    done_inj (sym (restart-finds c n _ (held c n s f e items a' worn) b.accepted (j c n s f e items a' worn)) ∙ q) in
    rw (← same) (names-earlier c n s f e items a' worn)

-- ## block by block
-- bytes whose check fails in the place of a block, and wear of what is worn, are wear: so any blocks, one after the other
pub wear_again : (a b d : List ℕ) → Wear a b → Wear b d → Wear a d
wear_again a b d one two =
    record {
      size = two.size ∙ one.size;
      kept = λ i l t.
          let same : block_at d i ≡ block_at b i = two.kept i (omega (arith, one.size)) t in
          same ∙ one.kept i l (rw same at t);
    }

pub torn-wears : (a : List ℕ) (i : ℕ) (b : List ℕ) → i < blocks a → is_torn b ≡ true → Wear a (write_at a i b)
torn-wears a i b l t =
    let h = both (eqb (length b) 512) (not (is_sealed b)) t in
    let whole : length b ≡ 512 = eqb-true (length b) 512 h.0 in
    let fits : 512 * i + 512 ≤ length a = omega arith in
    record {
      size = write-length a i b fits whole;
      kept = λ x m u. elim (ℕ_discrete x i) [
        | yes q ↦ absurd (differ u (rw (q, write_same a i b fits whole) (not-true (is_sealed b) h.1)))
        | no q ↦ write-other a i b fits whole x q
      ];
    }
