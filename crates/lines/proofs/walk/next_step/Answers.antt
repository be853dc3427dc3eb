-- The line ends within the input, after the reference.
use native.Mathlib.Omega.{arith}
use mathlib.Core.Path.{refl}
use Rattle.fields.proofs.Cutting.{next_le}
use Rattle.lines.proofs.ByLine.{ready-room, next-steps}
use Rattle.lines.proofs.walk.next_step.Goals as goal

pub slice_bounds-answer-end-2 : goal.slice_bounds-answer-end-2
slice_bounds-answer-end-2 c =
    omega (
      arith,
      c.line_end-end.ensures,
      next_le 10 c.args.input.now c.args.step.next (omega (arith, c.requires.left)),
    )

pub answer-written-requires : goal.answer-written-requires
answer-written-requires c =
    ready-room c.args.input.now c.args.step c.args.out.now _ c.line_end-end.ensures c.requires

pub overflow_add-result : goal.overflow_add-result
overflow_add-result c =
    omega (
      arith,
      c.line_end-end.ensures,
      next_le 10 c.args.input.now c.args.step.next (omega (arith, c.requires.left)),
      c.requires.room,
    )

pub returns : goal.returns
returns c =
    next-steps c.args.input.now c.args.step _ _ _ _ c.requires.left c.line_end-end.ensures refl refl
    c.answer-written.ensures
