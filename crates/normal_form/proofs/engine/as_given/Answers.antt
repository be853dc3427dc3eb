-- The record is the definition's.
use mathlib.Core.Path.{refl}
use Rattle.normal_form.specs.Stretches.{as_given}
use Rattle.normal_form.proofs.engine.as_given.Goals as goal

pub returns : goal.returns
unfolding as_given
returns c = refl
