-- Three writes in a row.
use native.Mathlib.Omega.{arith}
use Rattle.stretch.proofs.Wrote.{wrote_then}
use Rattle.text.proofs.Layouts.{allele-pieces}
use Rattle.text.proofs.layout.write_allele.Goals as goal

pub returns : goal.returns
returns c =
    rw (← allele-pieces)
    (wrote_then _ _ _ _ _ _ _ _ (omega arith) c.put_three-second.ensures
    (wrote_then _ _ _ _ _ _ _ _ c.put_three-second.ensures.room c.put_three-third.ensures c.put.ensures))
