-- `in_sectors` meets what the call of `show_asked` requires: a sound form says blocks and journals within their limits. Assumes nothing.
use mathlib.Core.Path.{sym}
use Rattle.sectors.specs.File.{SoundSays}
use Rattle.sectors.proofs.Forms.{sound-says}
use Rattle.inspect.proofs.files.in_sectors.Goals as goal

pub show_asked-requires : goal.show_asked-requires
unfolding SoundSays
show_asked-requires c =
    let right = sound-says _ _ _ _ (sym c.in-Ok.ensures) in
    (right.blocks, right.journals)
