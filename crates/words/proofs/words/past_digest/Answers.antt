-- A digest goes up to the first character outside the alphabet, among those of a digest text.
use native.Mathlib.Omega.{arith}
use Rattle.words.proofs.Onwards.{onward_digest}
use Rattle.words.proofs.words.past_digest.Goals as goal

-- where the walk is then lies within the text
pub onward-requires : goal.onward-requires
onward-requires c =
    let first = rw c.min.ensures at c.first_outside_base64url-n.ensures in
    omega (arith, (onward_digest c.in_ok-from.was c.requires first).within)

pub returns : goal.returns
returns c =
    let first = rw c.min.ensures at c.first_outside_base64url-n.ensures in
    rw c.onward.ensures (onward_digest c.in_ok-from.was c.requires first)
