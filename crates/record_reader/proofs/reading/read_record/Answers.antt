-- The number was issued.
use Rattle.image.proofs.WellFormed.{well_formed-formed}
use Rattle.record_reader.proofs.Issued.{answered-issued}
use Rattle.record_reader.proofs.reading.read_record.Goals as goal

pub record_of-requires-clause-header : goal.record_of-requires-clause-header
record_of-requires-clause-header c =
    (well_formed-formed _ (answered-issued _ _ _ c.in_ok-check_number.ensures).formed).header

pub record_of-requires-clause-le_number : goal.record_of-requires-clause-le_number
record_of-requires-clause-le_number c =
    let k = answered-issued _ _ _ c.in_ok-check_number.ensures in
    (k.from, k.to)
