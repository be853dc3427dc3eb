-- In a well-formed image a status is one of the two.
use mathlib.Core.Path.{◌∙◌, sym}
use Rattle.image.proofs.WellFormed.{well_formed-formed}
use Rattle.register.proofs.Latest.{other-status}
use Rattle.register.proofs.undoing.other_status.Goals as goal

pub is_active-requires-clause-header : goal.is_active-requires-clause-header
is_active-requires-clause-header c = (well_formed-formed _ c.requires.image_value).header

pub returns-else-is_active : goal.returns-else-is_active
returns-else-is_active c =
    other-status _ c.requires.image_value _ c.requires.le_number (sym c.is_active.ensures ∙ c.if-is_active.false)
