use native.Mathlib.Omega.{arith}
use Rattle.stretch.proofs.FromEnd.{word-on}
use Rattle.stretch.proofs.compare.words_agreed.Goals as goal

pub loop-i-preserved : goal.loop-i-preserved
loop-i-preserved g c =
    let laws = g.met.E.End in
    let same = c.same_word.ensures c.if-not-same_word.false in
    word-on g.E.End.order laws.long laws.maps g.R.Reading.reads c.args.a.now c.args.b.now c.loop-i.i _ _ (omega arith)
    (omega arith) same c.word.ensures c.word-in-loop-i.ensures c.loop-i.invariant
