-- A well-formed image has a header.
use native.Mathlib.Omega.{arith}
use Rattle.image.proofs.WellFormed.{header-room}
use Rattle.record_reader.proofs.Issued.{checked-formed}
use Rattle.register.proofs.undoing.check_undo.Goals as goal

pub read_number-requires : goal.read_number-requires
read_number-requires c = omega (arith, header-room _ (checked-formed _ _ c.in_ok-check.ensures))
