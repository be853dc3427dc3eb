use Rattle.std.proofs.Common.{◌≡◌, ◌∙◌, ◌==◌, ap, arith, count_by, take_all}
use Rattle.std.proofs.lemmas.List.Sums.{count_by-le-length}
use Rattle.fields.proofs.Pieces.{length-parted}
use Rattle.fields.proofs.extents.count_marks.Goals as goal

pub returns : goal.returns
returns c =
    let a = c.args in
    let all : c.loop-b.count ≡ count_by (λ b. b == a.byte) a.s.now
    = c.loop-b.invariant.1 ∙ ap (count_by (λ b. b == a.byte)) (take_all c.loop-b.b-index a.s.now (omega arith)) in
    (omega (arith, length-parted a.byte a.s.now), omega (arith, count_by-le-length (λ b. b == a.byte) a.s.now))
