-- No letter is foreign where the first foreign one is the end.
use Prim.Native.Nat.{◌+◌}
use native.Mathlib.Nat.{add-sub_cancel_left}
use native.Mathlib.Omega.{arith}
use mathlib.Core.Path.{◌≡◌, ◌∙◌}
use lib.ListN.{length}
use borrow.Author.Tests.{eq-eqb, ne_eqb}
use Rattle.stretch.specs.Part.{part}
use Rattle.stretch.proofs.Interval.{length_part}
use Rattle.alphabets.specs.Alphabets.{residue}
use Rattle.image.specs.Fields.{pool_offset, pool_used}
use Rattle.image.proofs.Tests.{outside-end}
use Rattle.image.proofs.records.pool_formed.Goals as goal

pub returns-then-residues-used : goal.returns-then-residues-used
returns-then-residues-used c = rw (← c.read_number-used.ensures.0, ne_eqb _ _ c.if-residues-used.true)

pub returns : goal.returns
returns c =
    let b = c.args.image.now in
    let n = c.args.residues in
    let at = pool_offset b in
    let used : n ≡ pool_used b = c.if-residues-used.false
    ∙ c.read_number-used.ensures.0 in
    let long : length (part b at (at + n)) ≡ n = length_part b at (at + n) (omega arith) (omega (arith, c.requires))
    ∙ add-sub_cancel_left at n in
    rw (eq-eqb _ _ used, c.first_foreign.ensures, c.read_number-pool.ensures.0)
    (outside-end residue (part b at (at + n)) n long)
