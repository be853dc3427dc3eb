-- After t turns the first t words are the block's.
use Rattle.std.proofs.Common.{◌≡◌, take}
use Rattle.sha512_block.specs.Block.{block_words}
use Rattle.sha512_block.proofs.block.load.Given as goal

abbrev pub invariant-loop-t : goal.invariant-loop-t
invariant-loop-t l = take l.t l.w ≡ block_words l.t l.block
