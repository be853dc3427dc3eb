-- The words and the number, and a line feed.
use native.Mathlib.Omega.{arith}
use Rattle.stretch.proofs.Wrote.{wrote_then}
use Rattle.answer_line.proofs.write.write_refused.Goals as goal

pub returns : goal.returns
returns c = wrote_then _ 0 _ _ _ _ _ _ (omega arith) c.put_after-end.ensures.wrote
    c.put.ensures
