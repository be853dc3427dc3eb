-- The tests, and the identifier where they let it through.
use native.Mathlib.Omega.{arith}
use mathlib.Core.Path.{◌≡◌}
use mathlib.Core.List.{[], ◌∷◌}
use lib.ListN.{length}
use borrow.Author.Rules.{rules}
use Rattle.refusal.proofs.HandedOn.{handed_on}
use Rattle.refusal.specs.Grounds.{reference_over_limit}
use Rattle.sequence_identifier.specs.Inner.{finish_answer}
use Rattle.sequence_identifier.proofs.Tested.{tested-room, tested-writes, tested-silent}
use Rattle.sequence_identifier.proofs.running.finish.Goals as goal

pub place_identifier-requires : goal.place_identifier-requires
unfolding finish_answer
place_identifier-requires c =
    let told = c.in_ok-check_finish.ensures in
    let long : length c.finish-hash.result ≡ 64 = search rules in
    record {
      digest_length_in_bounds = tested-room (reference_over_limit c.args.state.total ∷ []) _ _ _ told;
      in_bounds = omega arith;
    }

pub returns : goal.returns
unfolding finish_answer
returns c =
    tested-writes _ _ _ _ _ _ c.in_ok-check_finish.ensures
    (rw (← c.finish-hash.ensures) c.place_identifier.ensures)

pub returns-in_err-check_finish : goal.returns-in_err-check_finish
unfolding finish_answer
returns-in_err-check_finish c =
    rw (handed_on _ _ c.from_residual.ensures.1) (tested-silent _ _ _ _ _ c.in_err-check_finish.ensures)
