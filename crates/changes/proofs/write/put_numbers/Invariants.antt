-- The loop's invariant: the numbers passed are put.
use mathlib.Core.Path.{◌≡◌}
use lib.ListN.{take}
use Rattle.stretch.specs.Over.{over}
use Rattle.image.specs.Numbers.{numbers}
use Rattle.changes.proofs.write.put_numbers.Given as goal

abbrev pub invariant-loop-passed : goal.invariant-loop-passed
invariant-loop-passed l = l.image ≡ over l.initial.image l.at (numbers (take l.passed l.values))
