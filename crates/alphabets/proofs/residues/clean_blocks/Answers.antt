-- Where what is left is letters alone, all of it is residues.
use Rattle.std.proofs.Common.{◌∙◌, sym, arith}
use Rattle.alphabets.specs.Alphabets.{residue}
use Rattle.alphabets.proofs.Letters.{every-residue}
use Rattle.alphabets.proofs.Asked.{first_outside-rest}
use Rattle.alphabets.proofs.residues.clean_blocks.Goals as goal

pub returns-then-all_of : goal.returns-then-all_of
returns-then-all_of c =
    let passed = c.whole_blocks-clean.ensures in
    record {
      upper_bound = omega arith;
      s_value = first_outside-rest residue _ _ passed.upper_bound
          (every-residue _ (sym c.all_of.ensures ∙ c.if-all_of.true)) passed.s_value;
    }
