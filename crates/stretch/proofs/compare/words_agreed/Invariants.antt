-- The loop's invariant: how far they agree is what has been passed and how far the rest agrees.
use Rattle.std.proofs.Common.{◌≡◌, ◌+◌, ◌*◌, drop, map}
use Rattle.stretch.specs.Common.{lcp}
use Rattle.stretch.proofs.compare.words_agreed.Given as goal

abbrev pub invariant-loop-i : goal.invariant-loop-i
invariant-loop-i g l =
    let left = g.E.End.order l.a in
    let right = g.E.End.order (map g.R.Reading.reads l.b) in
    lcp left right ≡ l.i * 8 + lcp (drop (l.i * 8) left) (drop (l.i * 8) right)
