-- The replacement is read as it is given.
use mathlib.Core.List.{map-id}
use Rattle.normal_form_calls.proofs.call.write_form.Goals as goal

pub write_read-requires : goal.write_read-requires
write_read-requires c = rw map-id c.requires

pub returns : goal.returns
returns c = rw map-id at c.write_read.ensures
