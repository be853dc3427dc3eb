use native.Mathlib.Omega.{arith}
use Rattle.std.proofs.Common.{true, rules, tests, sym, ◌∙◌}
use Rattle.std.proofs.lemmas.Iterator.{YieldsList-from_slice, YieldsList-from_zip}
use Rattle.std.proofs.lemmas.Iterator.Consumers.{fold_from_yields_List}
use Rattle.stretch.proofs.FromEnd.{still, same-read}
use Rattle.stretch.proofs.compare.same_word.Goals as goal

pub returns : goal.returns
returns g c = λ e.
    let reads = g.R.Reading.reads in
    let folded = fold_from_yields_List _ (still reads) true c.fold.result c.fold.ensures.ran
    (YieldsList-from_zip (YieldsList-from_slice c.args.a.now cc) (YieldsList-from_slice c.args.b.now cc))
    (λ a x b q k. search (rules, tests)) in
    same-read reads c.args.a.now c.args.b.now (omega arith) (sym folded ∙ e)
