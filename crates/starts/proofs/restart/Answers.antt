-- `restart` meets its contract: what it answers is made of the parts that were read. Assumes nothing.
use Rattle.starts.proofs.restart.Goals as goal

pub returns : goal.returns
returns c = c.started_with.ensures _ _ c.restart_in_place-done.ensures
