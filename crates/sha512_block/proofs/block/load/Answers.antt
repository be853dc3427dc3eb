use Rattle.std.proofs.Common.{refl, arith}
use Rattle.sha512_block.proofs.Step.{load-turn}
use Rattle.sha512_block.specs.Block.{block_words}
use Rattle.sha512_block.proofs.block.load.Goals as goal

pub loop-t-init : goal.loop-t-init
unfolding block_words
loop-t-init c = refl

pub loop-t-preserved : goal.loop-t-preserved
loop-t-preserved c = load-turn _ _ _ _ (omega arith) c.loop-t.invariant c.read_word.ensures
