-- The loop's invariant: the records passed are placed, and their lengths are summed.
use Prim.Native.Nat.{◌*◌, ◌^◌, ◌≤◌}
use mathlib.Core.Path.{◌≡◌}
use mathlib.Core.Bool.{true}
use Rattle.stretch.specs.Below.{below}
use Rattle.image.specs.Formed.{lengths}
use Rattle.image.proofs.Pool.{placed}
use Rattle.image.proofs.records.records_formed.Given as goal

abbrev pub invariant-loop-passed : goal.invariant-loop-passed
invariant-loop-passed l =
    (l.passed ≤ l.issued) × (l.residues ≡ lengths l.image l.passed) × (l.residues ≤ 2 ^ 32 * l.passed)
    × (below (placed l.image) l.passed ≡ true)
