-- What the tests tell of the image.
use Rattle.image.proofs.WellFormed.{well_formed-formed}
use Rattle.register.proofs.Accepted.{answered-undoable}
use Rattle.register.proofs.undoing.undo.Goals as goal

pub undo_latest-requires : goal.undo_latest-requires
undo_latest-requires c =
    let u = answered-undoable _ _ c.in_ok-check_undo.ensures in
    record { header = (well_formed-formed _ u.formed).header; image_value = u.formed; bound = u.some }
