-- The text is laid over the tail from its place on.
use native.Mathlib.Omega.{arith}
use mathlib.Core.Path.{◌≡◌}
use lib.ListN.{length}
use borrow.Author.Tests.{le-ltb}
use borrow.Author.Rules.{rules}
use Rattle.stretch.proofs.Over.{over-tail-front}
use Rattle.refusal.proofs.Sum.{tail-room}
use Rattle.allele_identifier.specs.Identifier.{text_of}
use Rattle.allele_identifier.proofs.Hashing.{allele-long}
use Rattle.allele_identifier.proofs.allele.write_text.Goals as goal

pub write_allele-requires : goal.write_allele-requires
write_allele-requires c =
    let located : length c.location_digest-location.result ≡ 32 = search rules in
    omega (
      arith,
      c.joined_three.ensures.text_length,
      tail-room c.args.out.now c.args.at _ (le-ltb _ _ c.requires.around_sequence_in_bounds),
    )

pub returns : goal.returns
unfolding text_of
returns c =
    let long = allele-long _ _ c.args.w c.requires.fits c.args.digest.now in
    rw (c.write_allele.ensures.laid, c.location_digest-location.ensures, c.joined_three.ensures.text)
    (over-tail-front c.args.out.now c.args.at _ (omega (arith, c.requires.around_sequence_in_bounds)))
