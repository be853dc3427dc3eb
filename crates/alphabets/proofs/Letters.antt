-- Letters among the residues.
use Prim.Native.Nat.{ℕ}
use mathlib.Core.Path.{◌≡◌}
use mathlib.Core.Bool.{true}
use mathlib.Core.List.{List}
use Rattle.stretch.specs.Class.{every}
use Rattle.stretch.proofs.Class.{every-weaken}
use Rattle.alphabets.specs.Alphabets.{letter, residue}

pub letter-residue : (b : ℕ) → letter b ≡ true → residue b ≡ true
unfolding residue
letter-residue b h = rw h

pub every-residue : (s : List ℕ) → every letter s ≡ true → every residue s ≡ true
every-residue = every-weaken letter residue letter-residue
