-- 1 to 4, and 7 and 5 after them.
use mathlib.Core.Path.{◌∙◌}
use Rattle.refusal.proofs.HandedOn.{handed_on}
use Rattle.normal_form_calls.proofs.Answers.{located_fits}
use Rattle.allele_identifier.proofs.Answers.{allele-then, allele-unfound, allele-unread}
use Rattle.allele_identifier.proofs.allele.check_allele.Goals as goal

pub returns-in_err-w : goal.returns-in_err-w
returns-in_err-w c =
    handed_on _ _ c.from_residual.ensures.1 ∙ allele-unfound _ _ _ _ _ _ c.in_err-w.ensures

pub returns-in_err-check_digest_text : goal.returns-in_err-check_digest_text
returns-in_err-check_digest_text c =
    handed_on _ _ c.from_residual-in_err-check_digest_text.ensures.1
    ∙ allele-unread _ _ _ _ _ _ _ c.in_ok-w.ensures c.in_err-check_digest_text.ensures

pub clean-requires : goal.clean-requires
clean-requires c = located_fits _ c.args.start c.args.end _ _ c.in_ok-w.ensures

pub returns : goal.returns
returns c =
    c.clean.ensures ∙ allele-then _ _ _ _ _ _ c.in_ok-w.ensures c.in_ok-check_digest_text.ensures
