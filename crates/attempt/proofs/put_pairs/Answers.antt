-- `put_pairs` meets its contract. The loop's invariant: the pairs that are left, written one by one, give what all of them
-- gave at the start. Assumes nothing.
use native.Mathlib.Omega.{arith}
use mathlib.Core.Path.{sym, ◌∙◌}
use Rattle.types.specs.Keyed.{entries}
use Rattle.attempt.specs.Snapshot.{apart}
use Rattle.attempt.specs.Versions.{byte_of}
use Rattle.attempt.proofs.Writing.{put-more, put-end, put_all, length_both}
use Rattle.attempt.proofs.put_pairs.Goals as goal
use Rattle.attempt.proofs.put_pairs.Goals.{After-attempt_at, After-offset_at}

pub loop-i-preserved : goal.loop-i-preserved
loop-i-preserved c =
    let l = c.loop-i in
    let a = c.args in
    let wrote = rw (c.offset_at.ensures, c.attempt_at.ensures) at c.put_pair.ensures in (
      omega arith,
      c.put_pair.auto.out ∙ l.invariant.1,
      put-more (apart (byte_of a.version)) a.count a.at a.offsets.now a.attempts.now l.i l.out _ (omega arith) (omega arith) wrote
          ∙ l.invariant.2,
    )

pub returns : goal.returns
returns c =
    let a = c.args in
    let l = c.loop-i in
    let ks = a.offsets.now in
    let vs = a.attempts.now in
    let split = apart (byte_of a.version) in
    sym (put-end split a.count a.at ks vs l.i l.out (omega arith))
    ∙ l.invariant.2
    ∙ put_all split a.count a.at (entries ks vs) a.out.now (length_both ks vs ∙ sym c.requires.0) c.requires.1
