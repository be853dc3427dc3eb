-- The reference ends within the input.
use native.Mathlib.Omega.{arith}
use mathlib.Core.Path.{refl}
use Rattle.fields.proofs.Cutting.{next_le}
use Rattle.lines.proofs.ByLine.{first-starts}
use Rattle.lines.proofs.walk.first_step.Goals as goal

pub overflow_add-result : goal.overflow_add-result
overflow_add-result c =
    omega (arith, c.line_end-reference.ensures, next_le 10 c.args.input.now 0 (omega arith), c.requires)

pub returns : goal.returns
returns c = first-starts _ _ c.line_end-reference.ensures refl refl
