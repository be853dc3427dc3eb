-- Four numbers in a row, and a line feed.
use native.Mathlib.Omega.{arith}
use mathlib.Core.Path.{◌≡◌, ◌∙◌, refl}
use mathlib.Core.List.{append-nil}
use Rattle.stretch.proofs.Wrote.{wrote_then}
use Rattle.answer_line.specs.Answers.{spaced}
use Rattle.answer_line.proofs.Laying.{row-then, wrote-none}
use Rattle.answer_line.proofs.write.put_moves.Goals as goal

pub loop-number-init : goal.loop-number-init
loop-number-init c = (wrote-none _ _ (omega (arith, c.requires)), omega arith, refl)

pub loop-number-preserved : goal.loop-number-preserved
loop-number-preserved c =
    let l = c.loop-number in (
      row-then _ _ _ l.number-index _ _ c.loop-number-test.true
          (wrote_then _ _ _ _ _ _ _ _ (omega (arith, c.requires)) l.invariant.0 c.put_after-next.ensures.wrote),
      omega (arith, l.invariant.1, c.put_after-next.ensures.upper_bound),
      c.put_after-next.auto.out ∙ l.invariant.2,
    )

pub returns : goal.returns
returns c =
    let l = c.loop-number in
    let all : l.number-index ≡ 4 = omega (arith, l.auto.number-index-end, c.loop-number-test.false) in
    rw (← append-nil (spaced c.args.m.right.shrunk))
    (wrote_then _ _ _ _ _ _ _ _ (omega (arith, c.requires)) (rw all at l.invariant.0) c.put.ensures)
