-- The definition, with the record's number counted from 1.
use native.Mathlib.Omega.{arith}
use mathlib.Core.Path.{refl}
use Rattle.image.specs.Fields.{record_size, record_place}
use Rattle.image.proofs.places.record_at.Goals as goal

pub returns : goal.returns
unfolding record_place record_size
returns c = (refl, omega arith)
