use native.Mathlib.Omega.{arith}
use mathlib.Core.Path.{◌≡◌, ◌∙◌, sym}
use mathlib.Core.List.{map}
use lib.ListN.{length, set, length-map}
use Rattle.std.proofs.lemmas.List.{get_or-map}
use Rattle.stretch.proofs.Over.{over-paste, paste-on}
use Rattle.stretch.proofs.write.copy_read.Goals as goal

pub loop-i-preserved : goal.loop-i-preserved
loop-i-preserved g c =
    let l = c.loop-i in
    let reads = g.R.Reading.reads in
    let from = c.args.from.now in
    let n = length-map from reads in
    let f = c.read.ensures ∙ sym (get_or-map reads from l.i 0 0 (omega arith)) in
    (λ j. set (l.invariant j) l.i (f j)) ∙ paste-on c.args.to.now (map reads from) l.i (omega arith) (omega arith)

pub returns : goal.returns
returns g c =
    let reads = g.R.Reading.reads in
    let from = c.args.from.now in
    let n = length-map from reads in
    let e : c.loop-i.i ≡ length (map reads from) = omega arith in
    c.loop-i.invariant ∙ rw e (over-paste c.args.to.now 0 (map reads from))
