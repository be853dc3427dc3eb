-- The digest of its location, and its three stretches.
use native.Mathlib.Omega.{arith}
use mathlib.Core.Path.{◌≡◌}
use lib.ListN.{length}
use borrow.Author.Rules.{rules}
use Rattle.allele_identifier.specs.Identifier.{text_of}
use Rattle.allele_identifier.proofs.hash.form_hash.Goals as goal

pub allele_hash-requires : goal.allele_hash-requires
allele_hash-requires c =
    let f = c.requires.fits in
    let located : length c.location_digest-location.result ≡ 32 = search rules in
    omega (arith, c.joined_three.ensures.text_length, f.allele.reference, f.allele.replacement)

pub returns : goal.returns
unfolding text_of
returns c =
    rw (c.allele_hash.ensures, c.location_digest-location.ensures, c.joined_three.ensures.text)
