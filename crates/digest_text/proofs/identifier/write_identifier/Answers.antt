-- The prefix, and after it the text in a tail that comes back.
use native.Mathlib.Omega.{arith}
use mathlib.Core.Path.{◌∙◌}
use lib.ListN.{length}
use Rattle.stretch.proofs.Over.{over-next, over-tail-front}
use Rattle.digest_text.specs.Digest.{digest_text}
use Rattle.digest_text.proofs.Encoding.{length-digest_text}
use Rattle.digest_text.proofs.identifier.write_identifier.Goals as goal

pub returns : goal.returns
returns c =
    let text = digest_text c.args.digest.now in
    rw c.write_digest_text.ensures
    (over-tail-front _ (length c.args.prefix.now) text
    (omega (arith, length-digest_text c.args.digest.now c.requires.in_bounds))
    ∙ rw c.copy.ensures
    (over-next c.args.out.now 0 (length c.args.prefix.now) c.args.prefix.now text (omega arith)
    (omega arith)))
