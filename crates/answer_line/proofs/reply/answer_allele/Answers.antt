-- By what the normaliser answers.
use Rattle.normal_form_calls.proofs.Answers.{clean-fits}
use Rattle.answer_line.proofs.Laying.{wrote_as}
use Rattle.answer_line.proofs.Replies.{accepted-line, refused-line}
use Rattle.answer_line.proofs.reply.answer_allele.Goals as goal

pub answer_form-requires : goal.answer_form-requires
answer_form-requires c =
    record { fits = clean-fits _ _ _ _ _ c.in-Ok.ensures; room = c.requires }

pub returns-in-Ok : goal.returns-in-Ok
returns-in-Ok c =
    wrote_as _ _ _ _ _ (accepted-line _ _ _ _ _ c.in-Ok.ensures)
    c.answer_form.ensures

pub returns-in-Err : goal.returns-in-Err
returns-in-Err c =
    wrote_as _ _ _ _ _ (refused-line _ _ _ _ _ c.in-Err.ensures)
    (rw c.from.ensures at c.write_refused.ensures)
