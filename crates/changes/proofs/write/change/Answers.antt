-- The mark, then the journal.
use Rattle.changes.specs.Changes.{journalled}
use Rattle.changes.proofs.write.change.Goals as goal

pub returns : goal.returns
unfolding journalled
returns c =
    rw (
      c.journal.ensures,
      c.mark.ensures,
      c.read_number-count.ensures.0,
      c.read_number-at.ensures.0,
    )
