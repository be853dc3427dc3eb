-- The tests, and the form after them.
use Rattle.refusal.proofs.HandedOn.{handed_on}
use Rattle.entry.proofs.EntryTests.{change-fits, enters-allele, enters-no-allele}
use Rattle.entry.proofs.allele.enter_allele.Goals as goal

pub returns-in_err-w : goal.returns-in_err-w
returns-in_err-w c =
    rw (handed_on _ _ c.from_residual.ensures.1) (enters-no-allele _ _ _ _ _ _ c.in_err-w.ensures)

pub enter_stretches-requires-clause-fits : goal.enter_stretches-requires-clause-fits
enter_stretches-requires-clause-fits c = change-fits _ _ _ _ _ c.in_ok-w.ensures

pub returns : goal.returns
returns c = enters-allele _ _ _ _ _ c.in_ok-w.ensures _ _ _ c.enter_stretches.ensures
