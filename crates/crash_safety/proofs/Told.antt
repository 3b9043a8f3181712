-- One worn block, not the last header: where a restart then goes back unrefused, the first block of the half in use is worn, and the last
-- header names a later group than the next one. Assumes nothing.
use Prim.Native.Nat.{ℕ, suc, ◌+◌, ◌*◌, ◌≤◌, ◌<◌}
use native.Mathlib.Omega.{arith}
use native.Mathlib.Decide.{dec_lt, ℕ_discrete}
use mathlib.Core.Path.{◌≡◌, refl, sym, ap, ◌∙◌}
use mathlib.Core.Bool.{true, false, not}
use mathlib.Core.List.{List}
use mathlib.Core.Option.{none, some, none-ne-some}
use lib.Dec.{eqb}
use lib.ListN.{length}
use borrow.Author.Tests.{eqb-true, not-true}
use Rattle.types.specs.Refusal.{Result, done}
use Rattle.types.proofs.Cases.{both}
use Rattle.types.proofs.Checked.{done_inj}
use Rattle.crc.specs.Seal.{is_sealed}
use Rattle.journal.specs.Area.{block_at, write_at, blocks}
use Rattle.journal.specs.Walks.{Stop, stop, after, walk, walk_from}
use Rattle.journal.proofs.Area.{write_same, write-other}
use Rattle.journal.proofs.Sound.{Header, differ, unchecked, unchecked-header}
use Rattle.journal.proofs.Walks.{Group, says_nothing, stop_inj, stop-damaged, walk_turn, LastIs, at_once, behind, walk-ended, found_cases}
use Rattle.consumer.specs.State.{Configuration, State, NextGroup, half_blocks}
use Rattle.consumer.specs.Valid.{Fits}
use Rattle.starts.specs.Restart.{fresh, start, opens, origin, limit, walk_of, restart}
use Rattle.starts.proofs.Halves.{Origin, first, second, origin-is, limit-within, opens_not}
use Rattle.power_cut.specs.Cut.{is_torn}
use Rattle.crash_safety.specs.Runs.{Item, ends, fresh_world}
use Rattle.crash_safety.specs.Wear.{Wear, Told, as_before, named, OneWornTold}
use Rattle.crash_safety.specs.Wear as wear
use Rattle.crash_safety.specs.Worn.{EndsAt, NeverWorn, WornAt, OneWornBlock}
use Rattle.crash_safety.proofs.Invariant.{restored}
use Rattle.crash_safety.proofs.Known.{Known, InHalf}
use Rattle.crash_safety.proofs.Recalls.{Past}
use Rattle.crash_safety.proofs.Worn.{never-worn, one-worn-block}
use Rattle.crash_safety.proofs.WornReads.{Reads, bad, no-group, one-group, held, j, knows, reads}
use Rattle.crash_safety.proofs.Wear.{torn-wears}

-- of a walk that passed its first group and did not end with it, the last header, which names a later group
record Later (a : List ℕ) (k₀ lo : ℕ) : Type 0 where
  block : ℕ
  number : ℕ
  from : lo < block
  later : k₀ < number
  first : Header (limit a) k₀ lo (block_at a lo)
  header : Header (limit a) number block (block_at a block)

later-header : (a : List ℕ) (k₀ lo : ℕ) (end : Stop) → walk a (limit a) k₀ lo ≡ done end → lo < end.block → (end.last ≡ some lo → ⊥) → Later a k₀ lo
later-header a k₀ lo end w more not_last =
    found_cases a (limit a) k₀ lo
    (λ x. after x (stop none k₀ lo) (λ y. walk_from a (limit a) (some lo) (suc k₀) y) ≡ done end → Later a k₀ lo)
    (λ t q. absurd (omega (arith, (stop_inj (sym q)).2)))
    (λ j t u q. stop-damaged q)
    (λ y g q. go y g (walk-ended a (limit a) (some lo) (suc k₀) y end.last end.number end.block q).last-is)
    (sym (walk_turn a (limit a) none k₀ lo) ∙ w)
  where
    go : (y : ℕ) → Group a (limit a) k₀ lo y → LastIs a (limit a) (some lo) (suc k₀) y end.last end.number end.block → Later a k₀ lo
    go y g (at_once p q r) = absurd (not_last p)
    go y g (behind h m p q r t x) =
        record { block = h; number = m; from = omega (arith, g.behind); later = omega arith; first = g.header; header = x.header }

module _ (c : Configuration) (n : ℕ) (s : State) (f : Fits c.settings) (e : start c n ≡ done s) (items : List Item)
    (end : Stop)
    (i : ℕ)
    (b : List ℕ) where
  abbrev before : List ℕ
  before = (ends c (fresh_world s n) items).journal

  abbrev worn : List ℕ
  worn = write_at before i b

  module _ (walks : walk_of before ≡ done end) (inside-it : i < blocks before) (torn : is_torn b ≡ true) (not_last : end.last ≡ some i → ⊥) where
    wears : Wear before worn
    wears = torn-wears before i b inside-it torn

    parts : (length b ≡ 512) × (is_sealed b ≡ false)
    parts =
        let h = both (eqb (length b) 512) (not (is_sealed b)) torn in
        (eqb-true (length b) 512 h.0, not-true (is_sealed b) h.1)

    fits : 512 * i + 512 ≤ length before
    fits = omega arith

    -- ## the first block of the half in use
    module _ (at : i ≡ (origin before).block) (more : (origin before).block < end.block) where
      last-header : Later before (origin before).number (origin before).block
      last-header = later-header before (origin before).number (origin before).block end walks more (rw (← at) not_last)

      below-limit : (x : ℕ) → x < limit before → x < blocks worn
      below-limit x l = omega (arith, (limit-within before).1, wears.size)

      other : block_at worn last-header.block ≡ block_at before last-header.block
      other = write-other before i b fits parts.0 last-header.block (λ q. omega (arith, last-header.from, at))

      known-first : Known c n (Past c n s f e items) before (origin before) (held c n s f e items worn wears).next (origin before).block
      known-first =
          (knows c n s f e items worn wears).known (origin before).block
          (omega (arith, last-header.first.fits, (limit-within before).1, (j c n s f e items worn wears).size))
          last-header.first.form.head

      -- the half is not read any more, or it is the first, and no group is
      other_half : (x : Stop) (h : ℕ) → walk_of worn ≡ done x → x.last ≡ some h → (origin worn).block ≤ h → h < limit worn → InHalf c n (origin before) h → ⊥
      other_half x h w q l u in-it = go (origin-is worn) (origin-is before)
        where
          half : half_blocks (length worn) ≡ half_blocks n
          half = ap half_blocks (wears.size ∙ (j c n s f e items worn wears).size)

          half-before : half_blocks (length before) ≡ half_blocks n
          half-before = ap half_blocks (j c n s f e items worn wears).size

          shut : opens worn i ≡ false
          shut = opens_not worn i (rw (write_same before i b fits parts.0) (unchecked 1 b parts.1))

          at_zero : i ≡ 0 → (origin worn).block ≡ 0 → ⊥
          at_zero z y =
              let here : block_at worn (origin worn).block ≡ b = ap (block_at worn) (y ∙ sym z) ∙ write_same before i b fits parts.0 in
              let none_there : walk_of worn ≡ stop none (origin worn).number (origin worn).block =
              walk_turn worn (limit worn) none (origin worn).number (origin worn).block
              ∙ rw (says_nothing worn (limit worn) (origin worn).number (origin worn).block
              (rw here (unchecked-header (limit worn) (origin worn).number (origin worn).block b parts.1))) in
              none-ne-some h (sym (stop_inj (sym none_there ∙ w)).0 ∙ q)

          go : Origin worn → Origin before → ⊥
          go (first t y m) (first t' y' m') = at_zero (at ∙ y') y
          go (first t y m) (second t' y' m') = omega (arith, y, y', half, half-before, u, in-it.0)
          go (second t y m) (first t' y' m') = omega (arith, y, y', half, half-before, l, in-it.1)
          go (second t y m) (second t' y' m') =
              let same : half_blocks (length worn) ≡ i = half ∙ sym (at ∙ y' ∙ half-before) in
              differ (sym (ap (opens worn) same) ∙ t) shut

      told : (x : Result State) → restart c worn ≡ x → Reads c n s f e items worn x → Told c before worn
      told x q (bad y) = wear.damaged y q
      told x q (no-group y w) =
          named (fresh c n) q last-header.block (below-limit last-header.block (omega (arith, last-header.header.fits)))
          (rw other last-header.header.form.head)
          (rw other (omega (arith, last-header.header.number, last-header.later, last-header.first.number, known-first.some_number, known-first.group.header.number)))
      told x q (one-group y h o next k w p l u same) =
          let earlier : k.number < (origin before).number = rw (ap (λ (z : NextGroup). z.number) same) at (k.older (rw same (other_half y h w p l u))) in
          named (restored c n k.saved) q last-header.block (below-limit last-header.block (omega (arith, last-header.header.fits)))
          (rw other last-header.header.form.head)
          (rw other (omega (arith, last-header.header.number, last-header.later, k.numbered)))

    is-told : Told c before worn
    unfolding NeverWorn OneWornBlock
    is-told =
        elim (dec_lt i (origin before).block) [
          | yes x ↦ as_before (one.outside (λ y. absurd (omega arith)))
          | no x ↦ elim (dec_lt i end.block) [
            | yes y ↦ elim (ℕ_discrete i (origin before).block) [
              | yes z ↦ told z (omega arith) (restart c worn) refl (reads c n s f e items worn wears)
              | no z ↦ wear.damaged i (one.among (omega arith) y not_last)
            ]
            | no y ↦ as_before (one.outside (λ z. omega arith))
          ]
        ]
      where
        ended : EndsAt c before end
        ended =
            let u = never-worn c n s items f e in
            let same : u.end ≡ end = done_inj (sym u.ends.walks ∙ walks) in
            rw same at u.ends

        one : WornAt c before end i b
        one = one-worn-block c before end i b ended inside-it torn

pub one-worn-told : OneWornTold
unfolding OneWornTold
one-worn-told c n s items f e end walks i b inside torn not_last = is-told c n s f e items end i b walks inside torn not_last
