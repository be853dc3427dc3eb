-- The number within 0 and the largest of 64 bits.
use Rattle.decimals.specs.Number.{number_of}
use Rattle.decimals.proofs.decimal.read_decimal.Goals as goal

pub returns : goal.returns
unfolding number_of
returns c = c.read_decimal_within.ensures
