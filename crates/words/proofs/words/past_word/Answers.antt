-- A word goes as far as the text agrees with it.
use native.Mathlib.Omega.{arith}
use Rattle.words.proofs.Onwards.{onward_word}
use Rattle.words.proofs.words.past_word.Goals as goal

-- where the walk is then lies within the text
pub onward-requires : goal.onward-requires
onward-requires c = omega (arith, (onward_word c.in_ok-from.was c.requires c.common_prefix-n.ensures).within)

pub returns : goal.returns
returns c = rw c.onward.ensures (onward_word c.in_ok-from.was c.requires c.common_prefix-n.ensures)
