use Rattle.normal_form.specs.Stretches.{spread}
use Rattle.normal_form.proofs.engine.lay.Goals as goal

pub returns : goal.returns
unfolding spread
returns c = cc
