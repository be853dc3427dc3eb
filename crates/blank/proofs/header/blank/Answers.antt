-- What the tests tell of the arguments.
use Rattle.blank.proofs.BlankTests.{answered-blankable}
use Rattle.blank.proofs.header.blank.Goals as goal

pub write_header-requires : goal.write_header-requires
write_header-requires c =
    let k = answered-blankable _ _ _ _ _ _ _ c.in_ok-check_blank.ensures in
    record { header_size_in_bounds = (k.headed, k.long); records_le_count_limit = (k.records-limit, k.journal-limit) }
