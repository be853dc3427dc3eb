use Rattle.std.proofs.Common.{◌≡◌, ◌+◌, refl, arith}
use Rattle.sha512_block.specs.Block.{rounds}
use Rattle.sha512_block.proofs.Step.{round-turn}
use Rattle.sha512_block.proofs.block.all_rounds.Goals as goal

pub loop-t-init : goal.loop-t-init
unfolding rounds
loop-t-init c = record { within = omega arith; by_fours = refl; so_far = refl }

pub loop-t-preserved : goal.loop-t-preserved
loop-t-preserved c = let t = c.loop-t.t in
    let one = round-turn _ _ _ _ t (t + 1) refl c.loop-t.invariant.so_far c.round_at-s1.ensures in
    let two = round-turn _ _ _ _ (t + 1) (t + 2) (omega arith) one c.round_at-s2.ensures in
    let three = round-turn _ _ _ _ (t + 2) (t + 3) (omega arith) two c.round_at-s3.ensures in
    record {
      within = omega arith;
      by_fours = omega arith;
      so_far = round-turn _ _ _ _ (t + 3) (t + 4) (omega arith) three c.round_at-s.ensures;
    }

pub returns : goal.returns
returns c = let e : c.loop-t.t ≡ 80 = omega arith in
    rw e at c.loop-t.invariant.so_far
