-- 1, then 7, then 9.
use mathlib.Core.Path.{◌∙◌}
use borrow.Author.Tests.{le-ltb, lt-ltb}
use Rattle.refusal.proofs.HandedOn.{handed_on}
use Rattle.blank.specs.Calls.{blank_grounds}
use Rattle.blank.proofs.BlankTests.{blank-then, blank-digest}
use Rattle.blank.proofs.header.check_blank.Goals as goal

pub returns-then-residues-gt-REFERENCE_LIMIT : goal.returns-then-residues-gt-REFERENCE_LIMIT
unfolding blank_grounds
returns-then-residues-gt-REFERENCE_LIMIT c =
    rw c.refuse.ensures (simp (lt-ltb _ _ c.if-residues-gt-REFERENCE_LIMIT.true))

pub returns-in_err-check_digest_text : goal.returns-in_err-check_digest_text
returns-in_err-check_digest_text c =
    handed_on _ _ c.from_residual.ensures.1
    ∙ blank-digest _ _ _ _ _ _ (le-ltb _ _ c.if-residues-gt-REFERENCE_LIMIT.false) _
    c.in_err-check_digest_text.ensures

pub returns : goal.returns
returns c =
    c.check_capacities.ensures
    ∙ blank-then _ _ _ _ _ _ (le-ltb _ _ c.if-residues-gt-REFERENCE_LIMIT.false) _ c.in_ok-check_digest_text.ensures
