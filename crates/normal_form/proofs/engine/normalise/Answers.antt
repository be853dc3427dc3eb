-- The replacement is read as it is given.
use mathlib.Core.List.{map-id}
use Rattle.normal_form.proofs.engine.normalise.Goals as goal

pub normalise_read-requires : goal.normalise_read-requires
normalise_read-requires c = rw map-id c.requires

pub returns : goal.returns
returns c = rw map-id at c.normalise_read.ensures
