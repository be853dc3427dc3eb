use Rattle.std.proofs.Common.{◌≡◌, ◌/◌, length, refl, arith}
use Rattle.std.specs.Simd.{first_chunks}
use Rattle.sha512_block.specs.Blocks.{absorbed, hashed, block_size}
use Rattle.sha512_block.proofs.Step.{absorb-turn}
use Rattle.sha512_block.proofs.block.absorb.Goals as goal

pub loop-block-init : goal.loop-block-init
unfolding absorbed
loop-block-init c = refl

pub loop-block-preserved : goal.loop-block-preserved
loop-block-preserved c =
    let bytes = c.args.bytes.now in
    let count = length bytes / block_size in
    let front : c.as_chunks.result.0.now ≡ first_chunks block_size count bytes = c.as_chunks.ensures.front in
    let long : length c.as_chunks.result.0.now ≡ count = c.as_chunks.ensures.front_len in
    absorb-turn _ _ _ bytes count _ (omega arith) c.loop-block.invariant (rw front at c.compress-s.ensures)

pub returns : goal.returns
unfolding hashed
returns c =
    let long : length c.as_chunks.result.0.now ≡ length c.args.bytes.now / block_size = c.as_chunks.ensures.front_len in
    let e : c.loop-block.block-index ≡ length c.args.bytes.now / block_size = omega arith in
    rw e at c.loop-block.invariant
