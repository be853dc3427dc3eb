-- Each arm is the ranges' rule, which is the alphabet's at every value.
use Rattle.std.proofs.Common.{arith}
use Rattle.digest_text.proofs.Encoding.{ranged, ranged-right}
use Rattle.digest_text.proofs.base64.character_of.Goals as goal

pub returns-in-0-to-25 : goal.returns-in-0-to-25
unfolding ranged
returns-in-0-to-25 c = grind (arith, ranged-right c.args.n (omega arith))

pub returns-in-26-to-51 : goal.returns-in-26-to-51
unfolding ranged
returns-in-26-to-51 c = grind (arith, ranged-right c.args.n (omega arith))

pub returns-in-52-to-61 : goal.returns-in-52-to-61
unfolding ranged
returns-in-52-to-61 c = grind (arith, ranged-right c.args.n (omega arith))

pub returns-in-62 : goal.returns-in-62
unfolding ranged
returns-in-62 c = grind (arith, ranged-right c.args.n (omega arith))

pub returns-in_default : goal.returns-in_default
unfolding ranged
returns-in_default c = grind (arith, ranged-right c.args.n (omega arith))
