use Rattle.std.proofs.Common.{◌≡◌, ◌∙◌, refl, ap, true, false, rules, arith}
use borrow.Author.Tests.{tests}
use Rattle.std.proofs.lemmas.Iterator.{cases_from_all, YieldsList-from_range}
use Rattle.stretch.specs.Below.{below}
use Rattle.image.specs.Formed.{entry_good}
use Rattle.image.proofs.Range.{below-from_all}
use Rattle.image.proofs.formed.journal_formed.Goals as goal

pub returns : goal.returns
unfolding entry_good
returns c =
    let good = entry_good c.args.image.now in
    let count = c.read_number-count.result in
    let tested = cases_from_all _ _ _ (λ k. good k ≡ true) (λ k. good k ≡ false) c.all.ensures.ran
    (YieldsList-from_range 0 _ count refl (omega arith))
    (λ x q k. search (rules, tests)) (λ x q k. search (rules, tests)) in
    below-from_all good count _ tested ∙ ap (below good) c.read_number-count.ensures.0
