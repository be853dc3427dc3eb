use Rattle.std.proofs.Common.{◌∙◌, ◌&&◌, true, rules}
use Rattle.std.proofs.lemmas.Iterator.{YieldsList-from_slice}
use Rattle.std.proofs.lemmas.Iterator.Consumers.{fold_from_yields_List}
use borrow.Author.Tests.{tests}
use Rattle.alphabets.proofs.Asked.{fold-every}
use Rattle.alphabets.proofs.class.all_of.Goals as goal

pub returns : goal.returns
returns g c =
    let class = g.C.Class.class in
    let s = c.args.s.now in
    fold_from_yields_List _ (λ a b. a && class b) true c.fold.result c.fold.ensures.ran (YieldsList-from_slice s cc)
    (λ a x b q k. search (rules, tests))
    ∙ fold-every class true s
