use mathlib.Core.Path.{◌∙◌}
use Rattle.stretch.proofs.Same.{same-pointwise}
use Rattle.stretch.proofs.compare.equal.Goals as goal

pub returns : goal.returns
returns c = c.eq.ensures ∙ same-pointwise c.args.a.now c.args.b.now
