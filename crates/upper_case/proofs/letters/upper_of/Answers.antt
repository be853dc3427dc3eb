use mathlib.Core.Path.{◌∙◌}
use Rattle.upper_case.proofs.Folded.{upper-ascii}
use Rattle.upper_case.proofs.letters.upper_of.Goals as goal

pub returns : goal.returns
returns c = c.to_ascii_uppercase.ensures.value ∙ upper-ascii c.args.b
