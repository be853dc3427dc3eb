-- The image's tests, and the allele after them.
use Rattle.image.proofs.WellFormed.{well_formed-formed}
use Rattle.refusal.proofs.HandedOn.{handed_on}
use Rattle.entry.proofs.EntryTests.{enters_on, enters-nothing, image-formed}
use Rattle.entry.proofs.allele.entry.Goals as goal

pub returns-in_err-check_image : goal.returns-in_err-check_image
returns-in_err-check_image c =
    rw (handed_on _ _ c.from_residual.ensures.1) (enters-nothing _ _ _ _ _ _ _ c.in_err-check_image.ensures)

pub enter_allele-requires : goal.enter_allele-requires
enter_allele-requires c =
    let e = image-formed _ _ _ _ c.in_ok-check_image.ensures in
    record { header = (well_formed-formed _ e).header; image_value = e }

pub returns : goal.returns
returns c =
    enters_on _ _ _ _ _ _ _ _ _ c.in_ok-check_image.ensures c.enter_allele.ensures
