-- `encode_columns` meets its contract: each return is a law of what the encoder writes. Assumes nothing.
-- the pairs, and that they are as many as were counted
use Prim.Native.Nat.{ℕ, ◌+◌, ◌-◌, ◌*◌}
use native.Mathlib.Omega.{arith}
use mathlib.Core.Path.{◌≡◌, sym, ◌∙◌}
use mathlib.Core.List.{List}
use lib.ListN.{length}
use Rattle.types.specs.Keyed.{Entry, entries}
use Rattle.attempt.specs.Versions.{byte_of}
use Rattle.attempt.proofs.Writing.{length_both, too_many, too_short, encoded}
use Rattle.attempt.proofs.encode_columns.Goals as goal
use Rattle.attempt.proofs.encode_columns.Goals.{After-min-count}

abbrev pairs : After-min-count → List (Entry ℕ)
pairs c = let a = c.args in entries a.offsets.now a.attempts.now

count : (c : After-min-count) → length (pairs c) ≡ c.min-count.result
count c =
    let a = c.args in
    length_both a.offsets.now a.attempts.now ∙ sym c.min-count.ensures

pub returns-then-count-gt-PAIRS : goal.returns-then-count-gt-PAIRS
returns-then-count-gt-PAIRS c =
    let a = c.args in
    too_many (byte_of a.version) (pairs (goal.at.returns-then-count-gt-PAIRS c).After-min-count) c.min-count.result a.at a.out.now (count (goal.at.returns-then-count-gt-PAIRS c).After-min-count) c.if-count-gt-PAIRS.true

pub returns-then-out-len : goal.returns-then-out-len
returns-then-out-len c =
    let a = c.args in
    too_short (byte_of a.version) (pairs (goal.at.returns-then-out-len c).After-min-count) c.min-count.result a.at a.out.now (count (goal.at.returns-then-out-len c).After-min-count) c.if-count-gt-PAIRS.false (omega arith)

pub returns-then-out-len-2 : goal.returns-then-out-len-2
returns-then-out-len-2 c =
    let a = c.args in
    too_short (byte_of a.version) (pairs (goal.at.returns-then-out-len-2 c).After-min-count) c.min-count.result a.at a.out.now (count (goal.at.returns-then-out-len-2 c).After-min-count) c.if-count-gt-PAIRS.false (omega arith)

pub returns : goal.returns
returns c =
    let a = c.args in
    let m = c.min-count.result in
    let part : a.at + (5 + 12 * m) - a.at ≡ 5 + 12 * m = omega arith in
    rw c.snapshot_len-len.ensures (encoded (byte_of a.version) (pairs (goal.at.returns c).After-min-count) m a.at a.out.now (count (goal.at.returns c).After-min-count) c.if-count-gt-PAIRS.false c.put_body.new.out _ c.crc32c-check.result _
    (omega (arith, c.if-out-len.false, c.if-out-len-2.false))
    part
    c.put_body.ensures
    c.crc32c-check.ensures
    c.write_u32.ensures)
