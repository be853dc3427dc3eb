-- Over zeros the two stretches, one after the other.
use Rattle.std.proofs.Common.{◌∙◌}
use Rattle.sha512.proofs.Join.{laid_filled}
use Rattle.sha512.proofs.parts.fill.Goals as goal

pub returns : goal.returns
returns c =
    c.copy_at.ensures ∙ rw c.copy.ensures (laid_filled _ _ c.requires)
