-- The text is laid over the tail of the buffer that the place leaves.
use Rattle.location_identifier.proofs.Lengths.{tail-holds, tail_written}
use Rattle.location_identifier.proofs.location.place_text.Goals as goal

pub write_location-written-requires : goal.write_location-written-requires
write_location-written-requires c =
    tail-holds c.args.out.now c.args.place c.args.start c.args.end _ c.requires

pub returns : goal.returns
returns c =
    tail_written c.args.out.now c.args.place _ _ _ c.requires c.write_location-written.ensures
