-- The last entry of a well-formed journal is an issued number.
use Rattle.register.proofs.Latest.{latest-read, latest-issued}
use Rattle.register.proofs.undoing.latest_number.Goals as goal

pub returns-clause-latest : goal.returns-clause-latest
returns-clause-latest c =
    latest-read _ c.requires.image_value _ _ _ c.read_number-count.ensures.0 c.requires.bound
    c.read_number-journal.ensures.0 c.read_number.ensures.0

pub returns-clause-le_number : goal.returns-clause-le_number
returns-clause-le_number c =
    latest-issued _ c.requires.image_value _ _ _ c.read_number-count.ensures.0 c.requires.bound
    c.read_number-journal.ensures.0 c.read_number.ensures.0
