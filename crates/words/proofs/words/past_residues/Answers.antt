-- Residues go up to the first foreign byte, among so many.
use native.Mathlib.Omega.{arith}
use Rattle.words.proofs.Onwards.{onward_residues}
use Rattle.words.proofs.words.past_residues.Goals as goal

-- where the walk is then lies within the text
pub onward-requires : goal.onward-requires
onward-requires c =
    let first = rw c.min.ensures at c.first_foreign-n.ensures in
    omega (arith, (onward_residues c.in_ok-from.was c.requires first).within)

pub returns : goal.returns
returns c =
    let first = rw c.min.ensures at c.first_foreign-n.ensures in
    rw c.onward.ensures (onward_residues c.in_ok-from.was c.requires first)
