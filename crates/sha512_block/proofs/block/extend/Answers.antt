use Rattle.std.proofs.Common.{◌≡◌, sym, refl, ◌∙◌, arith, length-set, take_all}
use Rattle.sha512_block.proofs.Step.{extend-turn}
use Rattle.sha512_block.specs.Block.{schedule}
use Rattle.sha512_block.proofs.block.extend.Goals as goal

pub loop-t-init : goal.loop-t-init
unfolding schedule
loop-t-init c = record { long = c.told-w; so_far = refl }

pub loop-t-preserved : goal.loop-t-preserved
loop-t-preserved c = record {
  long = simp length-set (c.loop-t.invariant.long);
  so_far = extend-turn _ _ _ _ (omega arith) c.loop-t.invariant.so_far c.mixed.ensures;
}

pub returns : goal.returns
returns c = let e : c.loop-t.t ≡ 64 = omega arith in
    sym (take_all 80 c.loop-t.w (omega arith)) ∙ rw e at c.loop-t.invariant.so_far
