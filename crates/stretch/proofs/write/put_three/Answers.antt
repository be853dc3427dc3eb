-- All three are read as they are given.
use mathlib.Core.List.{map-id}
use Rattle.stretch.proofs.write.put_three.Goals as goal

pub returns : goal.returns
returns c = rw map-id at c.put_three_read.ensures
