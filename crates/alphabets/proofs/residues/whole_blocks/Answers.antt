use Rattle.std.proofs.Common.{◌∙◌, sym, arith}
use Rattle.alphabets.specs.Alphabets.{residue}
use Rattle.alphabets.proofs.Asked.{block-passed}
use Rattle.alphabets.proofs.residues.whole_blocks.Goals as goal

pub loop-block-preserved : goal.loop-block-preserved
loop-block-preserved c =
    let i = c.loop-block.invariant in
    let steps = c.in-Some.ensures.steps in
    record {
      can_next = omega (arith, i.can_next, steps.0);
      is_finite = tt;
      passed = block-passed residue c.args.s.now c.in-Some.block.now _ _ c.loop-block.clean i.passed steps.1.0
          (sym c.all_residues.ensures ∙ c.if-not-all_residues.false);
    }
