-- The numbers from 1 to those issued, in order.
use mathlib.Core.Path.{◌≡◌, ◌∙◌, ap}
use mathlib.Core.Bool.{true, false}
use borrow.Author.Tests.{tests}
use Rattle.std.proofs.Common.{rules}
use Rattle.std.proofs.lemmas.Iterator.{first_from_Range}
use Rattle.image.specs.Statuses.{code_of}
use Rattle.stretch.specs.Three.{whole}
use Rattle.lookup.specs.Lookup.{asked, holds, lowest, lowest_holding}
use Rattle.lookup.proofs.Lowest.{lowest-from_find}
use Rattle.lookup.proofs.find.lowest_holding.Goals as goal

pub returns-clause-lowest : goal.returns-clause-lowest
unfolding lowest_holding
returns-clause-lowest c =
    let s = c.args in
    let test = holds s.image.now (code_of s.status) (asked s.form (whole s.text)) in
    lowest-from_find test c.read_number.result _
    (first_from_Range _ _ _ _ (λ i. test i ≡ true) (λ i. test i ≡ false) c.find.ensures.ran
    (λ x q k. search (rules, tests)) (λ x q k. search (rules, tests)))
    ∙ ap (lowest test) c.read_number.ensures.0
