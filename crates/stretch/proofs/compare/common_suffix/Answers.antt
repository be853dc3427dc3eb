use mathlib.Core.List.{map-id}
use Rattle.stretch.specs.Common.{lcs}
use Rattle.stretch.proofs.compare.common_suffix.Goals as goal

pub returns : goal.returns
unfolding lcs
returns c = rw (c.agreed.ensures, map-id)
