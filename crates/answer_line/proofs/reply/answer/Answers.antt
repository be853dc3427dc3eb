-- By what the line says.
use Rattle.answer_line.proofs.Laying.{wrote_as}
use Rattle.answer_line.proofs.Replies.{unread-line, allele-line}
use Rattle.answer_line.proofs.reply.answer.Goals as goal

pub returns-in_default : goal.returns-in_default
returns-in_default c =
    wrote_as _ _ _ _ _ (unread-line _ _ c.in_default.ensures.means) c.put.ensures

pub returns : goal.returns
returns c =
    wrote_as _ _ _ _ _ (allele-line _ _ _ _ _ c.in-Some.ensures.means) c.answer_allele.ensures
