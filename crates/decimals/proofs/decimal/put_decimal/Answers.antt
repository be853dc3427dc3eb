-- A decimal in a tail that comes back.
use native.Mathlib.Omega.{arith}
use Rattle.stretch.proofs.Wrote.{over-wrote}
use Rattle.stretch.proofs.Over.{over-tail-front}
use Rattle.decimals.proofs.decimal.put_decimal.Goals as goal

pub returns : goal.returns
returns c =
    over-wrote c.args.out.now c.args.place _ _ _ c.requires (omega (arith, c.write_decimal.ensures.0))
    (rw c.write_decimal.ensures.1 (over-tail-front _ _ _ c.requires))
