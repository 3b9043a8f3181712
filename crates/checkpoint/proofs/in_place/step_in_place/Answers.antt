-- `step_in_place` meets its contract: an area of another length is refused, and else the next block is written: zeros, a body or
-- the header. Assumes nothing.
use Prim.Native.Nat.{◌+◌}
use native.Mathlib.Omega.{arith}
use mathlib.Core.Path.{◌≡◌, sym, ◌∙◌}
use borrow.Author.Rules.{rules}
use Prim.Native.Nat.{ℕ}
use Rattle.journal.specs.Blocks.{bodies_for}
use Rattle.consumer.specs.View.{view}
use Rattle.checkpoint.specs.Checkpoint.{bodies}
use Rattle.checkpoint.specs.Parts.{Parts, parts, with_parts, NextIs, Steppable, header_by}
use Rattle.checkpoint.specs.Writing.{SoundWriting}
use Rattle.checkpoint.specs.declared.Writing.{Writing}
use Rattle.checkpoint.proofs.Steps.{Small, small, place-small, next_small, write-last, write-place, write_content, write-inside, step-refused, step-last, step-going}
use Rattle.checkpoint.proofs.in_place.step_in_place.Goals as goal

-- ---- what is known at a place
-- the parts that were handed in are small: some sound record has them
fits : {p : Parts} (h : Steppable p) → Small (with_parts p h.writing)
fits {p = p} h = small (with_parts p h.writing) h.sound

-- the bodies, as every record with these parts has them
count : {p : Parts} → Steppable p → (n : ℕ) → n ≡ bodies_for (p.cursorLen + p.attemptLen) → (w : Writing) → SoundWriting (with_parts p w)
    → n ≡ bodies (view (with_parts p w).consumer)
count {p = p} h n e w ok = e ∙ (small (with_parts p w) ok).count

pub returns-then-area-area_len : goal.returns-then-area-area_len
returns-then-area-area_len c =
    let p = parts c.args.numbers.written c.args.cursor_len c.args.attempt_len c.args.area_len c.args.next_generation c.args.numbers.ceiling c.args.numbers.redeliveries c.args.numbers.number c.args.numbers.block c.args.payload.now in
    λ w ok. step-refused p w ok c.args.area.now (search rules)

pub overflow_add-total : goal.overflow_add-total
overflow_add-total c = omega (arith, (fits c.requires).cursor-len, (fits c.requires).attempt_len_lem)

pub bodies_of-bodies-requires : goal.bodies_of-bodies-requires
bodies_of-bodies-requires c = (omega (arith, (fits c.requires).cursor-len), omega (arith, (fits c.requires).attempt_len_lem))

pub place_of-place-requires : goal.place_of-place-requires
place_of-place-requires c =
    ((fits c.requires).block, omega (arith, (fits c.requires).bodies-few, count c.requires _ c.bodies_of-bodies.ensures c.requires.writing c.requires.sound))

pub header_of-header-requires : goal.header_of-header-requires
header_of-header-requires c =
    let f = fits c.requires in
    (f.number, omega (arith, f.cursor-len), omega (arith, f.attempt_len_lem))

pub next_write-next-requires : goal.next_write-next-requires
next_write-next-requires c =
    let p = parts c.args.numbers.written c.args.cursor_len c.args.attempt_len c.args.area_len c.args.next_generation c.args.numbers.ceiling c.args.numbers.redeliveries c.args.numbers.number c.args.numbers.block c.args.payload.now in
    let n = count c.requires _ c.bodies_of-bodies.ensures c.requires.writing c.requires.sound in
    let m = place-small p c.requires.writing c.requires.sound c.args.area.now _ n _ c.place_of-place.ensures in
    (m.0, m.1, omega (arith, (fits c.requires).bodies-few, n), (fits c.requires).written)

pub put_block-requires : goal.put_block-requires
put_block-requires c =
    let p = parts c.args.numbers.written c.args.cursor_len c.args.attempt_len c.args.area_len c.args.next_generation c.args.numbers.ceiling c.args.numbers.redeliveries c.args.numbers.number c.args.numbers.block c.args.payload.now in
    let x : NextIs c.place_of-place.result c.bodies_of-bodies.result c.args.numbers.written (header_by c.args.numbers.number c.new_ceiling-raised.result c.args.cursor_len c.args.attempt_len) c.next_write-next.result = rw c.header_of-header.ensures at c.next_write-next.ensures in
    ((fits c.requires).payload, write-inside p c.requires.writing c.requires.sound c.args.area.now (search rules) _ (write-place p c.requires.writing c.requires.sound c.args.area.now _ _ (count c.requires _ c.bodies_of-bodies.ensures c.requires.writing c.requires.sound) c.new_ceiling-raised.ensures _ c.place_of-place.ensures _ x))

pub overflow_add-result : goal.overflow_add-result
overflow_add-result c = omega (arith, (fits c.requires).number)

pub overflow_add-result-then-next-2 : goal.overflow_add-result-then-next-2
overflow_add-result-then-next-2 c =
    let p = parts c.args.numbers.written c.args.cursor_len c.args.attempt_len c.args.area_len c.args.next_generation c.args.numbers.ceiling c.args.numbers.redeliveries c.args.numbers.number c.args.numbers.block c.args.payload.now in
    let x : NextIs c.place_of-place.result c.bodies_of-bodies.result c.args.numbers.written (header_by c.args.numbers.number c.new_ceiling-raised.result c.args.cursor_len c.args.attempt_len) c.next_write-next.result = rw c.header_of-header.ensures at c.next_write-next.ensures in
    let small = next_small p c.requires.writing c.requires.sound c.args.area.now _ (write-place p c.requires.writing c.requires.sound c.args.area.now _ _ (count c.requires _ c.bodies_of-bodies.ensures c.requires.writing c.requires.sound) c.new_ceiling-raised.ensures _ c.place_of-place.ensures _ x) in
    omega (arith, small, (fits c.requires).bodies-few, count c.requires _ c.bodies_of-bodies.ensures c.requires.writing c.requires.sound)

pub returns-then-next : goal.returns-then-next
returns-then-next c =
    let p = parts c.args.numbers.written c.args.cursor_len c.args.attempt_len c.args.area_len c.args.next_generation c.args.numbers.ceiling c.args.numbers.redeliveries c.args.numbers.number c.args.numbers.block c.args.payload.now in
    let x : NextIs c.place_of-place.result c.bodies_of-bodies.result c.args.numbers.written (header_by c.args.numbers.number c.new_ceiling-raised.result c.args.cursor_len c.args.attempt_len) c.next_write-next.result = rw c.header_of-header.ensures at c.next_write-next.ensures in
    λ w ok.
    rw c.if-next.true
    (step-last p w ok c.args.area.now (search rules) c.next_write-next.result.at c.bodies_of-bodies.result c.new_ceiling-raised.result c.after_flush.result
    (count c.requires _ c.bodies_of-bodies.ensures w ok) c.new_ceiling-raised.ensures c.after_flush.ensures
    (sym (write-last p w ok c.args.area.now _ _ (count c.requires _ c.bodies_of-bodies.ensures w ok) c.new_ceiling-raised.ensures _ c.place_of-place.ensures _ x) ∙ c.if-next.true) (write-place p w ok c.args.area.now _ _ (count c.requires _ c.bodies_of-bodies.ensures w ok) c.new_ceiling-raised.ensures _ c.place_of-place.ensures _ x) _ _ (write_content p w ok c.args.area.now _ _ (count c.requires _ c.bodies_of-bodies.ensures w ok) c.new_ceiling-raised.ensures _ c.place_of-place.ensures _ x) c.put_block.ensures)

pub overflow_add-result-2 : goal.overflow_add-result-2
overflow_add-result-2 c = omega (arith, (fits c.requires).written)

pub returns : goal.returns
returns c =
    let p = parts c.args.numbers.written c.args.cursor_len c.args.attempt_len c.args.area_len c.args.next_generation c.args.numbers.ceiling c.args.numbers.redeliveries c.args.numbers.number c.args.numbers.block c.args.payload.now in
    let x : NextIs c.place_of-place.result c.bodies_of-bodies.result c.args.numbers.written (header_by c.args.numbers.number c.new_ceiling-raised.result c.args.cursor_len c.args.attempt_len) c.next_write-next.result = rw c.header_of-header.ensures at c.next_write-next.ensures in
    λ w ok.
    rw c.if-next.false
    (step-going p w ok c.args.area.now (search rules) c.next_write-next.result.at _ _
    (sym (write-last p w ok c.args.area.now _ _ (count c.requires _ c.bodies_of-bodies.ensures w ok) c.new_ceiling-raised.ensures _ c.place_of-place.ensures _ x) ∙ c.if-next.false) (write-place p w ok c.args.area.now _ _ (count c.requires _ c.bodies_of-bodies.ensures w ok) c.new_ceiling-raised.ensures _ c.place_of-place.ensures _ x) (write_content p w ok c.args.area.now _ _ (count c.requires _ c.bodies_of-bodies.ensures w ok) c.new_ceiling-raised.ensures _ c.place_of-place.ensures _ x) c.put_block.ensures)
