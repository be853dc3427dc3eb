-- The smaller of a common length and the room that the other leaves.
use Rattle.normal_form.specs.Form.{within}
use Rattle.normal_form.proofs.lengths.within_room.Goals as goal

pub returns : goal.returns
unfolding within
returns c = cc
