-- The text at the front of a buffer that has room for the longest.
use Rattle.stretch.proofs.Wrote.{wrote-front}
use Rattle.location_identifier.proofs.Lengths.{location-room}
use Rattle.location_identifier.proofs.hash.location_hash.Goals as goal

pub write_location-n-requires : goal.write_location-n-requires
write_location-n-requires c =
    location-room c.args.start c.args.end _ c.ranges.start.fits c.ranges.end.fits c.requires

pub returns : goal.returns
returns c = rw (
  c.of_message.ensures,
  wrote-front _ _ _ _ c.write_location-n.ensures,
)
