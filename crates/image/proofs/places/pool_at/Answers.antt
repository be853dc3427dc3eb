-- The definition.
use native.Mathlib.Omega.{arith}
use Rattle.image.specs.Fields.{pool_place}
use Rattle.image.proofs.places.pool_at.Goals as goal

pub returns : goal.returns
unfolding pool_place
returns c = (rw c.journal_at.ensures.0, omega arith)
