use Rattle.std.proofs.Common.{◌∙◌, arith}
use Rattle.alphabets.proofs.Ranges.{uppercase-letter}
use Rattle.alphabets.proofs.residues.LetterClass.contains.Goals as goal

pub returns : goal.returns
returns c = c.is_ascii_uppercase.ensures.value ∙ uppercase-letter c.args.b (omega arith)
