use native.Mathlib.Omega.{arith}
use mathlib.Core.Path.{refl, ◌∙◌, sym}
use Rattle.fields.proofs.Cutting.{next-on, next_here, next-end}
use Rattle.fields.proofs.scan.next.Goals as goal

pub loop-i-init : goal.loop-i-init
loop-i-init c = refl

pub returns-then-s-i : goal.returns-then-s-i
returns-then-s-i c =
    sym (c.loop-i.invariant ∙ next_here c.args.byte c.args.s.now c.loop-i.i (omega arith)
    c.if-s-i.true)

pub overflow_add-i : goal.overflow_add-i
overflow_add-i c = omega arith

pub loop-i-smaller : goal.loop-i-smaller
loop-i-smaller c = omega arith

pub loop-i-preserved : goal.loop-i-preserved
loop-i-preserved c =
    c.loop-i.invariant ∙ next-on c.args.byte c.args.s.now c.loop-i.i (omega arith) c.if-s-i.false

pub returns : goal.returns
returns c =
    sym (c.loop-i.invariant ∙ next-end c.args.byte c.args.s.now c.loop-i.i (omega arith))
