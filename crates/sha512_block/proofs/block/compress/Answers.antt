-- The schedule is that of the block's words, and the rounds are over it.
use Rattle.sha512_block.specs.Block.{compressed}
use Rattle.sha512_block.proofs.block.compress.Goals as goal

pub returns : goal.returns
unfolding compressed
returns c = cc
