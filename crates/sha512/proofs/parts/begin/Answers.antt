-- Nothing waits in a block of zeros.
use Rattle.sha512.specs.Feeding.{begun, filled}
use Rattle.sha512.proofs.parts.begin.Goals as goal

pub returns : goal.returns
unfolding begun filled
returns c = rw c.initial_hash.ensures
