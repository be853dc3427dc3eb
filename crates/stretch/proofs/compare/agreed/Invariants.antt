use Rattle.std.proofs.Common.{◌≡◌, ◌+◌, drop, map}
use Rattle.stretch.specs.Common.{lcp}
use Rattle.stretch.proofs.compare.agreed.Given as goal

abbrev pub invariant-loop-i : goal.invariant-loop-i
invariant-loop-i g l =
    let left = g.E.End.order l.a in
    let right = g.E.End.order (map g.R.Reading.reads l.b) in
    lcp left right ≡ l.i + lcp (drop l.i left) (drop l.i right)
