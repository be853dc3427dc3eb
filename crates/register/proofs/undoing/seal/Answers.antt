-- A well-formed image has a header.
use native.Mathlib.Omega.{arith}
use Rattle.image.proofs.WellFormed.{header-room}
use Rattle.record_reader.proofs.Issued.{checked-formed}
use Rattle.register.proofs.undoing.seal.Goals as goal

pub put_number-requires : goal.put_number-requires
put_number-requires c = omega (arith, header-room _ (checked-formed _ _ c.in_ok-check.ensures))
