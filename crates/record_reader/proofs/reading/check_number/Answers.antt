-- A well-formed image has a header.
use native.Mathlib.Omega.{arith}
use Rattle.image.proofs.WellFormed.{header-room}
use Rattle.record_reader.proofs.Issued.{checked-formed}
use Rattle.record_reader.proofs.reading.check_number.Goals as goal

pub read_number-issued-requires : goal.read_number-issued-requires
read_number-issued-requires c = omega (arith, header-room _ (checked-formed _ _ c.in_ok-check.ensures))
