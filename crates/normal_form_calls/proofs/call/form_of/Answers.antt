-- Each number is the definition's.
use Rattle.normal_form_calls.proofs.call.form_of.Goals as goal

pub returns : goal.returns
returns c = cc
