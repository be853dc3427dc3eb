use native.Mathlib.Nat.{add-sub_cancel_left}
use mathlib.Core.Path.{◌∙◌, ap}
use lib.ListN.{take}
use Rattle.stretch.specs.Over.{over}
use Rattle.image.specs.Numbers.{put, bytes}
use Rattle.image.proofs.Numbers.{take-to_le_bytes}
use Rattle.image.proofs.number.put_number.Goals as goal

pub returns : goal.returns
unfolding put over bytes
returns c =
    let e = c.copy_from_slice.ensures.after ∙ ap (take 4) c.to_le_bytes.ensures ∙ take-to_le_bytes c.args.value in
    rw (e, add-sub_cancel_left c.args.at 4)
