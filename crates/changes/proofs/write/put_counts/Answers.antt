-- One count after the other.
use Rattle.changes.proofs.write.put_counts.Goals as goal

pub returns : goal.returns
returns c = rw (
  c.put_number-2.ensures,
  c.put_number.ensures,
)
