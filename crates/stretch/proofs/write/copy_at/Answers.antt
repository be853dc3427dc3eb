use native.Mathlib.Nat.{add-sub_cancel_left}
use Rattle.stretch.specs.Over.{over}
use Rattle.stretch.proofs.write.copy_at.Goals as goal

pub returns : goal.returns
unfolding over
returns c = rw (c.copy_from_slice.ensures.after, add-sub_cancel_left)
