use native.Mathlib.Omega.{arith}
use Rattle.stretch.proofs.Words.{chunk-at}
use Rattle.stretch.proofs.ends.FrontEnd.word.Goals as goal

pub returns : goal.returns
returns c = rw c.as_chunks.ensures.front (chunk-at 8 _ c.args.i c.args.s.now (omega arith))
