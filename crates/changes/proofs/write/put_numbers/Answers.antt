use native.Mathlib.Omega.{arith}
use mathlib.Core.Path.{sym}
use Rattle.stretch.proofs.Over.{over-nil}
use Rattle.image.specs.Numbers.{numbers}
use Rattle.changes.proofs.Rows.{put_more}
use Rattle.changes.proofs.write.put_numbers.Goals as goal

pub loop-passed-init : goal.loop-passed-init
unfolding numbers
loop-passed-init c = sym (over-nil c.args.image.now c.args.at)

pub loop-passed-preserved : goal.loop-passed-preserved
loop-passed-preserved c =
    rw (c.put_number.ensures, c.loop-passed.invariant)
    (put_more c.args.image.now c.args.at c.args.values.now c.loop-passed.passed
    (omega (arith, c.requires)) (omega arith))
