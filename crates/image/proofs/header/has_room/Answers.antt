-- The definition's test, of the numbers that were read.
use Rattle.image.proofs.header.has_room.Goals as goal

pub returns : goal.returns
returns c = rw (c.read_number.ensures.0, c.read_number-2.ensures.0)
