-- A form that is found is laid as it is given; a refusal is handed on.
use mathlib.Core.List.{map-id}
use Rattle.refusal.proofs.HandedOn.{handed_on}
use Rattle.normal_form_calls.proofs.Answers.{clean-fits, lays-normal, normalises-refused}
use Rattle.normal_form_calls.proofs.call.normal_form.Goals as goal

pub returns-in_err-w : goal.returns-in_err-w
returns-in_err-w c =
    rw (handed_on _ _ c.from_residual.ensures.1) (normalises-refused _ _ _ _ _ _ _ c.in_err-w.ensures)

pub lay_form-requires : goal.lay_form-requires
lay_form-requires c = rw map-id (clean-fits _ _ _ _ _ c.in_ok-w.ensures)

pub returns : goal.returns
returns c =
    lays-normal _ _ _ _ _ _ _ _ _ c.in_ok-w.ensures (rw map-id at c.lay_form.ensures)
