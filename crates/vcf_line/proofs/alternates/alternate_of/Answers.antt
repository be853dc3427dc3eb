-- The piece of a number less by 1, or none.
use native.Mathlib.Omega.{arith}
use mathlib.Core.Path.{◌∙◌, sym}
use Rattle.vcf_line.proofs.Places.{at-place, no_place, place-lies}
use Rattle.vcf_line.proofs.alternates.alternate_of.Goals as goal

pub extent_of-requires : goal.extent_of-requires
extent_of-requires c = let l = place-lies _ _ (sym c.in-Some.ensures) in
    (l.ordered, l.inside)

pub returns-in-Some : goal.returns-in-Some
returns-in-Some c =
    let s = c.args in
    c.extent_of.ensures
    ∙ at-place s.alternates.now s.place (omega arith)
    (sym c.in-Some.ensures)

pub returns-in-None : goal.returns-in-None
returns-in-None c =
    let s = c.args in
    no_place s.alternates.now s.place (omega arith)
    (sym c.in-None.ensures)
