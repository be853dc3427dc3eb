-- The tests, and the identifier where they let it through.
use native.Mathlib.Omega.{arith}
use mathlib.Core.Path.{◌≡◌}
use lib.ListN.{length}
use borrow.Author.Rules.{rules}
use Rattle.refusal.proofs.HandedOn.{handed_on}
use Rattle.digest_text.specs.Digest.{sha512t24u}
use Rattle.sequence_identifier.specs.Identifier.{sequence_identifier}
use Rattle.sequence_identifier.specs.Calls.{reference_grounds}
use Rattle.sequence_identifier.specs.Inner.{whole_answer}
use Rattle.sequence_identifier.proofs.Tested.{tested-room, tested-writes, tested-silent}
use Rattle.sequence_identifier.proofs.identifier.sequence_identifier.Goals as goal

pub place_identifier-requires : goal.place_identifier-requires
unfolding whole_answer
place_identifier-requires c =
    let told = c.in_ok-check_whole.ensures in
    let long : length c.of_message-hash.result ≡ 64 = search rules in
    record {
      digest_length_in_bounds = tested-room (reference_grounds c.args.reference.now) _ _ _ told;
      in_bounds = omega arith;
    }

pub returns : goal.returns
unfolding whole_answer sequence_identifier sha512t24u
returns c =
    tested-writes _ _ _ _ _ _ c.in_ok-check_whole.ensures
    (rw (← c.of_message-hash.ensures) c.place_identifier.ensures)

pub returns-in_err-check_whole : goal.returns-in_err-check_whole
unfolding whole_answer
returns-in_err-check_whole c =
    rw (handed_on _ _ c.from_residual.ensures.1) (tested-silent _ _ _ _ _ c.in_err-check_whole.ensures)
