-- `put` meets its contract. Assumes nothing.
use mathlib.Core.Path.{refl}
use Rattle.text.proofs.Putting.{says-one, put-room, put-again, put-at-once}
use Rattle.text.proofs.output.Output.put.Goals as goal

pub returns-in-Ok : goal.returns-in-Ok
returns-in-Ok c =
    let o = c.args.self.now in
    let w = c.write_bytes in
    says-one (put-room o.at c.args.text.now o.bytes.now w.new.buf w.result w.ensures _ c.in-Ok.is) (record { stdout = refl; lent = refl })

pub returns-in-Ok-write_bytes : goal.returns-in-Ok-write_bytes
returns-in-Ok-write_bytes c =
    let o = c.args.self.now in
    let w = c.write_bytes in
    let v = c.write_bytes-2 in
    says-one
    (put-again o.at c.args.text.now o.bytes.now w.result v.result w.new.buf v.new.buf _ c.in_default.is w.ensures (rw c.flush.ensures.kept at v.ensures) _ c.in-Ok-write_bytes.is)
    (record { stdout = c.flush.ensures.same.stdout; lent = c.flush.ensures.same.lent })

pub returns-in-Err : goal.returns-in-Err
returns-in-Err c =
    let o = c.args.self.now in
    let w = c.write_bytes in
    let v = c.write_bytes-2 in
    rw c.flush.ensures.empty
    (says-one
    (put-at-once o.at c.args.text.now o.bytes.now w.result v.result w.new.buf v.new.buf _ c.in_default.is w.ensures (rw c.flush.ensures.kept at v.ensures) _ c.in-Err.is)
    (record { stdout = c.flush.ensures.same.stdout; lent = c.flush.ensures.same.lent }))
