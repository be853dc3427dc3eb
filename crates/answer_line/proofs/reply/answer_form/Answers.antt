-- The front, the replacement, and how far the form moved.
use native.Mathlib.Omega.{arith}
use mathlib.Core.Path.{◌∙◌}
use Rattle.stretch.proofs.Wrote.{wrote_then}
use Rattle.normal_form.specs.Stretches.{joined}
use Rattle.normal_form.proofs.Joined.{length-joined}
use Rattle.moved.specs.Moved.{moved_in}
use Rattle.answer_line.proofs.Laying.{wrote_as}
use Rattle.answer_line.proofs.Replies.{form-line}
use Rattle.answer_line.proofs.reply.answer_form.Goals as goal

pub put_moves-requires : goal.put_moves-requires
put_moves-requires c =
    omega (arith, c.write_form-end.ensures.next, length-joined _ _ _ c.requires.fits)

pub returns : goal.returns
returns c =
    let w = c.args.w in
    let t = joined c.args.reference.now c.args.replacement.now w in
    wrote_as _ _ _ _ _
    (form-line w.kind w.start w.end t (moved_in w) _
    (c.joined_length.ensures ∙ length-joined _ _ _ c.requires.fits))
    (wrote_then _ 0 _ _ _ _ _ _ (omega arith) c.form_head-at.ensures.wrote
    (wrote_then _ _ _ _ _ _ _ _ c.form_head-at.ensures.wrote.room c.write_form-end.ensures
    (rw c.moved_of.ensures at c.put_moves.ensures)))
