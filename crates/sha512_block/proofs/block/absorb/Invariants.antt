-- After i turns the hash value is that of the first i blocks.
use Rattle.std.proofs.Common.{◌≡◌}
use Rattle.sha512_block.specs.Blocks.{absorbed}
use Rattle.sha512_block.proofs.block.absorb.Given as goal

abbrev pub invariant-loop-block : goal.invariant-loop-block
invariant-loop-block l = l.s ≡ absorbed l.block-index l.initial.s l.bytes
