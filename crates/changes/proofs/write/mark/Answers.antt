-- The number at the status of its record.
use native.Mathlib.Omega.{arith}
use Rattle.image.proofs.Arranged.{issued-inside}
use Rattle.changes.specs.Changes.{marked}
use Rattle.changes.proofs.write.mark.Goals as goal

pub put_number-requires : goal.put_number-requires
put_number-requires c =
    omega (arith, c.record_at.ensures.0, issued-inside _ c.requires.header _ c.requires.le_number)

pub returns : goal.returns
unfolding marked
returns c = rw (c.put_number.ensures, c.record_at.ensures.0, c.from-code.ensures)
