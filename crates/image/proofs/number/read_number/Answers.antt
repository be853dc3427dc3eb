use native.Mathlib.Omega.{arith}
use mathlib.Core.Path.{◌∙◌, ap}
use Rattle.image.specs.Numbers.{little, number}
use Rattle.image.proofs.Numbers.{from_le_bytes-little}
use Rattle.image.proofs.number.read_number.Goals as goal

pub returns : goal.returns
unfolding number
returns c = (
  c.from_le_bytes.ensures ∙ from_le_bytes-little _ c.copy_from_slice.ensures.len
      ∙ ap little c.copy_from_slice.ensures.after,
  omega arith,
)
