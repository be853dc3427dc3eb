-- Each test is one of the definition's.
use mathlib.Core.Path.{◌≡◌, refl}
use mathlib.Core.Bool.{Bool, true, false, cond, ◌||◌}
use lib.Dec.{eqb}
use Rattle.alphabets.specs.Alphabets.{letter, residue}
use Rattle.alphabets.proofs.residues.ResidueClass.contains.Goals as goal

one_of : (l s g : Bool) → ((l || s) || g) ≡ cond l true (cond s true (cond g true false))
one_of true s g = refl
one_of false true g = refl
one_of false false true = refl
one_of false false false = refl

pub returns : goal.returns
unfolding residue
returns c = let b = c.args.b in
    rw c.is_letter.ensures (one_of (letter b) (eqb b 0x2A) (eqb b 0x2D))
