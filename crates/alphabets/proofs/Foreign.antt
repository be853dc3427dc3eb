-- The first foreign byte: its bound, and what holds where there is none.
use Prim.Native.Nat.{ℕ, ◌≤◌}
use mathlib.Core.Path.{◌≡◌}
use mathlib.Core.Bool.{true}
use mathlib.Core.List.{List}
use lib.ListN.{length}
use Rattle.stretch.specs.Class.{every}
use Rattle.stretch.proofs.Outside.{first_outside-le, first_outside-all}
use Rattle.alphabets.specs.Alphabets.{residue, foreign}

pub foreign-le : (s : List ℕ) → foreign s ≤ length s
foreign-le = first_outside-le residue

pub foreign-none : (s : List ℕ) → foreign s ≡ length s → every residue s ≡ true
foreign-none = first_outside-all residue
