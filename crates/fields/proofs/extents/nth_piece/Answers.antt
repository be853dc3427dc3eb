use Rattle.std.proofs.Common.{◌≡◌, ◌+◌, ◌-◌, ◌∙◌, sym, ap, arith}
use Rattle.fields.specs.Cut.{piece_of}
use Rattle.fields.proofs.Pieces.{piece-on, piece-none, piece-here}
use Rattle.fields.proofs.extents.nth_piece.Goals as goal

pub returns-then-s-end : goal.returns-then-s-end
returns-then-s-end c = let l = c.loop in
    sym (l.invariant ∙ piece-none _ _ l.at (c.args.number - l.counter) _ c.next-end.ensures (omega arith) (omega arith))

pub loop-preserved : goal.loop-preserved
loop-preserved c = let a = c.args in let l = c.loop in
    let left : a.number - l.counter - 1 ≡ a.number - (l.counter + 1) = omega arith in
    l.invariant
    ∙ piece-on _ _ l.at (a.number - l.counter) _ c.next-end.ensures (omega arith) (omega arith)
    ∙ ap (piece_of a.byte a.s.now (c.next-end.result + 1)) left

pub returns : goal.returns
returns c = let l = c.loop in
    sym (l.invariant ∙ piece-here _ _ l.at (c.args.number - l.counter) _ c.next-to.ensures (omega arith))
