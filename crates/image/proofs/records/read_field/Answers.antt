-- The record lies in the image.
use native.Mathlib.Omega.{arith}
use Rattle.image.proofs.Arranged.{issued-inside}
use Rattle.image.proofs.records.read_field.Goals as goal

pub read_number-requires : goal.read_number-requires
read_number-requires c =
    omega (arith, c.record_at.ensures.0, issued-inside _ c.requires.header _ c.requires.le_number)
