-- Letters are residues; where not all are letters the second test tells.
use mathlib.Core.Path.{◌∙◌, sym}
use Rattle.alphabets.proofs.Letters.{every-residue}
use Rattle.alphabets.proofs.residues.all_residues.Goals as goal

pub returns-then-all_of : goal.returns-then-all_of
returns-then-all_of c = c.if-all_of.true ∙ sym (every-residue _ (sym c.all_of.ensures ∙ c.if-all_of.true))
