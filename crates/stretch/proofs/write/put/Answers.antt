-- The bytes are read as they are.
use mathlib.Core.List.{map-id}
use Rattle.stretch.proofs.write.put.Goals as goal

pub returns : goal.returns
returns c = rw map-id at c.put_read.ensures
