-- `decode_attempt_snapshot` meets its contract: what `check` answered is a refusal, or the number of pairs, for which there may be no
-- room. Assumes nothing.
use Prim.Native.Nat.{◌≤◌}
use native.Mathlib.Omega.{arith}
use lib.ListN.{length, length-map}
use Rattle.std.proofs.lemmas.Result.{err_from_is_err_and}
use Rattle.types.specs.Lists.{entry_of, entries_of}
use Rattle.attempt.proofs.Reading.{into, no_room, refused-into}
use Rattle.attempt.proofs.decode_attempt_snapshot.Goals as goal

pub returns-in_err-n : goal.returns-in_err-n
returns-in_err-n c =
    let p = err_from_is_err_and c.from_residual.result c.from_residual.ensures.1 in
    rw (p.1, p.2) (refused-into c.args.input.now _ c.in_err-n.ensures (entries_of c.args.pairs.now))

pub returns-then-pairs-n : goal.returns-then-pairs-n
returns-then-pairs-n c =
    let lent = c.args.pairs.now in
    no_room c.args.input.now c.in_ok-n.n c.in_ok-n.ensures (entries_of lent) (omega (arith, c.if-pairs-n.true, length-map lent entry_of))

pub returns : goal.returns
returns c =
    let lent = c.args.pairs.now in
    let room : c.in_ok-n.n ≤ length (entries_of lent) = omega (arith, c.if-pairs-n.false, length-map lent entry_of) in
    rw c.fill_pairs.ensures (into c.args.input.now c.in_ok-n.n c.in_ok-n.ensures (entries_of lent) room)
