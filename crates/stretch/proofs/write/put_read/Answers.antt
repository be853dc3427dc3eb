-- The tail that comes back is a write into the whole.
use native.Mathlib.Omega.{arith}
use mathlib.Core.List.{map}
use lib.ListN.{length-map}
use Rattle.stretch.proofs.Over.{over-tail-front}
use Rattle.stretch.proofs.Wrote.{over-wrote}
use Rattle.stretch.proofs.write.put_read.Goals as goal

pub returns : goal.returns
returns g c =
    let to = c.args.to.now in
    let place = c.args.place in
    let from = c.args.from.now in
    let reads = g.R.Reading.reads in
    let n = length-map from reads in
    over-wrote to place (map reads from) _ _ (omega (arith, c.requires)) (omega arith)
    (rw c.copy_read.ensures (over-tail-front to place (map reads from) (omega (arith, c.requires))))
