-- The table of the code is the definition's, word for word.
use Rattle.sha512_block.specs.Block.{round_at}
use Rattle.sha512_block.specs.Constants.{K}
use Rattle.sha512_block.proofs.block.round_at.Goals as goal

pub returns : goal.returns
unfolding round_at K
returns c = c.one_round.ensures
