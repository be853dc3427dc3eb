-- The loop's invariant: the first `i` bytes, as they are read, are laid over the front.
use mathlib.Core.Path.{◌≡◌}
use mathlib.Core.List.{map}
use lib.Seq.{paste}
use Rattle.stretch.proofs.write.copy_read.Given as goal

abbrev pub invariant-loop-i : goal.invariant-loop-i
invariant-loop-i g l = l.to ≡ paste l.initial.to 0 (map g.R.Reading.reads l.from) l.i
