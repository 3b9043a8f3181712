-- `decode_pairs` meets its contract: what `check` answered is a refusal, or the number of pairs to be read. Assumes nothing.
use Prim.Native.Nat.{◌≤◌}
use native.Mathlib.Omega.{arith}
use lib.ListN.{length, length-map}
use Rattle.std.proofs.lemmas.Result.{err_from_is_err_and}
use Rattle.types.specs.Lists.{entry_of, entries_of}
use Rattle.attempt.specs.Codec.{blank}
use Rattle.attempt.proofs.Reading.{fits, into, refused-into, length-blank}
use Rattle.attempt.proofs.decode_pairs.Goals as goal

pub returns-in_err-count : goal.returns-in_err-count
returns-in_err-count c =
    let p = err_from_is_err_and c.from_residual.result c.from_residual.ensures.1 in
    rw (p.1, p.2) (refused-into c.args.input.now _ c.in_err-count.ensures (entries_of blank))

pub fill_pairs-requires : goal.fill_pairs-requires
fill_pairs-requires c =
    let f = fits c.args.input.now c.in_ok-count.count c.in_ok-count.ensures in
    (omega (arith, f.1), rw (c.no_pairs-pairs.ensures, length-blank) f.0)

pub returns : goal.returns
returns c =
    let b = c.args.input.now in
    let n = c.in_ok-count.count in
    let filled = rw c.no_pairs-pairs.ensures at c.fill_pairs.ensures in
    let room : n ≤ length (entries_of blank) = omega (arith, (fits b n c.in_ok-count.ensures).0, length-map blank entry_of, length-blank) in
    rw filled (into b n c.in_ok-count.ensures (entries_of blank) room)
