-- Seven parts fed one after another are their join.
use native.Mathlib.Omega.{arith}
use mathlib.Core.Path.{◌≡◌, ◌∙◌}
use Rattle.allele_identifier.proofs.Hashing.{fed-next, allele-hashed}
use Rattle.allele_identifier.proofs.hash.allele_hash.Goals as goal

pub loop-part-preserved : goal.loop-part-preserved
loop-part-preserved c =
    rw c.feed-state.ensures (fed-next _ _ c.loop-part.part-index _ c.loop-part-test.true ∙ c.loop-part.invariant)

pub returns : goal.returns
returns c =
    let all : c.loop-part.part-index ≡ 7 = omega (arith, c.loop-part-test.false, c.loop-part.auto.part-index-end) in
    rw (c.finish.ensures, rw all at c.loop-part.invariant) (allele-hashed _ _ _ _ (omega (arith, c.requires)))
