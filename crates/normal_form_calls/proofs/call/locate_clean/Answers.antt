-- Stretches that are found are tested on; a refusal is handed on.
use mathlib.Core.Path.{◌∙◌}
use Rattle.refusal.proofs.HandedOn.{handed_on}
use Rattle.normal_form_calls.proofs.Answers.{located_fits, clean-located, refused-located}
use Rattle.normal_form_calls.proofs.call.locate_clean.Goals as goal

pub returns-in_err-w : goal.returns-in_err-w
returns-in_err-w c =
    handed_on _ _ c.from_residual.ensures.1 ∙ refused-located _ _ _ _ _ c.in_err-w.ensures

pub clean-requires : goal.clean-requires
clean-requires c =
    located_fits c.args.reference.now c.args.start c.args.end c.args.replacement.now _
    c.in_ok-w.ensures

pub returns : goal.returns
returns c =
    c.clean.ensures ∙ clean-located _ _ _ _ _ c.in_ok-w.ensures
