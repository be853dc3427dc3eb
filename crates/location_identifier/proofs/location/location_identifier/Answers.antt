-- The tests, 6 after them, and the identifier of the text's hash.
use native.Mathlib.Omega.{arith}
use mathlib.Core.Path.{◌≡◌, ◌∙◌, sym}
use lib.ListN.{length}
use borrow.Author.Rules.{rules}
use borrow.Author.Tests.{ltb-false}
use Rattle.refusal.proofs.HandedOn.{handed_on}
use Rattle.refusal.proofs.WritesUnless.{writes-unless-refused, writes-unless-then, writes-unless-short}
use Rattle.refusal.proofs.WritesUnless.{writes-unless-room}
use Rattle.digest_text.specs.Digest.{sha512t24u}
use Rattle.location_identifier.specs.Identifier.{location_identifier}
use Rattle.location_identifier.proofs.Answers.{location-accepted, location-refused, location-digest}
use Rattle.location_identifier.proofs.Lengths.{length-location-identifier}
use Rattle.location_identifier.proofs.location.location_identifier.Goals as goal

pub returns-in_err-check_location : goal.returns-in_err-check_location
returns-in_err-check_location c =
    rw (handed_on _ _ c.from_residual.ensures.1)
    (writes-unless-refused _ _ _ _ _ (location-refused _ _ _ _ _ c.in_err-check_location.ensures))

pub returns-then-sum_exceeds : goal.returns-then-sum_exceeds
returns-then-sum_exceeds c =
    writes-unless-then _ _ _ _ _ _ (location-accepted _ _ _ _ c.in_ok-check_location.ensures)
    (writes-unless-short _ _ _ _ (sym (length-location-identifier _ _ _)) _ (rw c.refuse.ensures)
    (sym c.sum_exceeds.ensures ∙ c.if-sum_exceeds.true))

pub location_hash-hash-requires : goal.location_hash-hash-requires
location_hash-hash-requires c = location-digest _ _ _ _ c.in_ok-check_location.ensures

pub place_identifier-requires : goal.place_identifier-requires
place_identifier-requires c =
    let long : length c.location_hash-hash.result ≡ 64 = search rules in
    record {
      digest_length_in_bounds = ltb-false _ _ (sym c.sum_exceeds.ensures ∙ c.if-sum_exceeds.false);
      in_bounds = omega arith;
    }

pub returns : goal.returns
unfolding location_identifier sha512t24u
returns c =
    writes-unless-then _ _ _ _ _ _ (location-accepted _ _ _ _ c.in_ok-check_location.ensures)
    (writes-unless-room _ _ _ _ (sym (length-location-identifier _ _ _)) _ _
    (sym c.sum_exceeds.ensures ∙ c.if-sum_exceeds.false)
    (rw (← c.location_hash-hash.ensures) c.place_identifier.ensures))
