-- The definition.
use native.Mathlib.Omega.{arith}
use mathlib.Core.Path.{refl}
use Rattle.image.specs.Fields.{record_size, journal_place}
use Rattle.image.proofs.places.journal_at.Goals as goal

pub returns : goal.returns
unfolding journal_place record_size
returns c = (refl, omega arith)
