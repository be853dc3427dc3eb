-- The entry in the lent journal, and the count.
use Rattle.changes.proofs.Rows.{put-tail}
use Rattle.changes.proofs.write.journal.Goals as goal

pub returns : goal.returns
returns c =
    rw (
      c.put_number-2.ensures,
      c.put_number.ensures,
      put-tail
          c.args.image.now c.args.at _ c.args.number c.requires.2,
    )
