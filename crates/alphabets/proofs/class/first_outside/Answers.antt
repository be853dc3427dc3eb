use Rattle.std.proofs.Common.{◌≡◌, ◌∙◌, sym, true, false, rules}
use Rattle.std.proofs.lemmas.Iterator.{IsFirst-from_position, YieldsList-from_slice}
use borrow.Author.Tests.{tests}
use Rattle.alphabets.proofs.Asked.{first_outside-from_position}
use Rattle.alphabets.proofs.class.first_outside.Goals as goal

pub returns : goal.returns
returns g c =
    let class = g.C.Class.class in
    let s = c.args.s.now in
    let found =
    IsFirst-from_position _ _ _ (λ b. class b ≡ false) (λ b. class b ≡ true) c.position-first.ensures.ran
    (YieldsList-from_slice s cc) (λ x q k. search (rules, tests)) (λ x q k. search (rules, tests)) in
    c.unwrap_or.ensures ∙ sym (first_outside-from_position class s _ found)
