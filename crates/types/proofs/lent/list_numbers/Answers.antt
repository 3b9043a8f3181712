-- `list_numbers` meets its contract: the loop of a listing (`Listing`), by what `room_for` answers. Assumes nothing.
use Prim.Native.Nat.{min}
use native.Mathlib.Omega.{arith}
use borrow.Author.Rules.{rules}
use mathlib.Core.Path.{◌≡◌, sym, ap, ◌∙◌}
use lib.ListN.{length, get_or, length-take}
use lib.Seq.{get_or-take}
use Rattle.types.specs.Lists.{offsets_in}
use Rattle.types.proofs.Listing.{counted-fits, one_more}
use Rattle.types.proofs.lent.list_numbers.Goals as goal

pub loop-i-preserved : goal.loop-i-preserved
loop-i-preserved c =
    let l = c.loop-i in
    let list = c.args.list in
    let size : length list.offsets ≡ 128 = search rules in
    let long : length (offsets_in list) ≡ min list.len 128 = length-take list.len list.offsets ∙ ap (min list.len) size in
    let fits = counted-fits (offsets_in list) c.args.out.now c.in_ok-n.n (rw (long, ← c.room_for.ensures, c.in_ok-n.was)) in
    let there : get_or (offsets_in list) l.i 0 ≡ get_or list.offsets l.i 0 = get_or-take list.len list.offsets l.i 0 (omega (arith, long, fits.0)) in
    rw (← there) (one_more (offsets_in list) c.args.out.now 0 c.in_ok-n.n l.i l.out (omega arith) fits l.invariant)
