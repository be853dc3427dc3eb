-- The three as they are lent, one text.
use Rattle.normal_form.proofs.Joined.{pieces-joined}
use Rattle.normal_form.proofs.pieces.joined_three.Goals as goal

pub returns-clause-text : goal.returns-clause-text
returns-clause-text c =
    pieces-joined c.args.reference.now c.args.replacement.now c.args.w c.reference_before.ensures
    c.replacement_kept.ensures c.reference_after.ensures
