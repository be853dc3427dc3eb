-- The tail comes back with the identifier at its front.
use mathlib.Core.Path.{refl, sym}
use Rattle.refusal.proofs.Writes.{writes-all}
use Rattle.digest_text.proofs.Encoding.{length-identifier, identifier-laid}
use Rattle.digest_text.proofs.identifier.place_identifier.Goals as goal

pub returns : goal.returns
returns c =
    let d = c.args.digest.now in
    let p = c.args.prefix.now in
    writes-all _ _ _ _ _ _ refl (sym (length-identifier p d c.requires.in_bounds))
    (rw c.write_identifier.ensures
    (identifier-laid c.args.out.now p d c.args.place c.requires.digest_length_in_bounds c.requires.in_bounds))
