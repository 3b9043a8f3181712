-- `set_aside` meets its contract: what it takes out of the front, it stores behind. Assumes nothing.
use Rattle.tables.proofs.Turned.{turned}
use Rattle.tables.proofs.set_aside.Goals as goal

pub returns : goal.returns
returns g c =
    let a = c.args in
    turned a.len a.count a.slots.now c.reverse.new.self c.reverse-2.new.self c.reverse-3.new.self c.requires.0 c.requires.1 c.reverse.ensures.after
    c.reverse-2.ensures.after c.reverse-3.ensures.after
