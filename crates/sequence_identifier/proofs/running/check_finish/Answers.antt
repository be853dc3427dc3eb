-- Each return is what the grounds say, by the tests that led there.
use mathlib.Core.Path.{◌∙◌, sym}
use borrow.Author.Tests.{lt-ltb, le-ltb}
use Rattle.sequence_identifier.specs.Inner.{finish_answer}
use Rattle.sequence_identifier.proofs.running.check_finish.Goals as goal

pub returns-then-total-gt-REFERENCE_LIMIT : goal.returns-then-total-gt-REFERENCE_LIMIT
unfolding finish_answer
returns-then-total-gt-REFERENCE_LIMIT c = rw c.refuse.ensures (simp (lt-ltb _ _ c.if-total-gt-REFERENCE_LIMIT.true))

pub returns-then-sum_exceeds : goal.returns-then-sum_exceeds
unfolding finish_answer
returns-then-sum_exceeds c =
    rw c.refuse-then-sum_exceeds.ensures
    (simp (le-ltb _ _ c.if-total-gt-REFERENCE_LIMIT.false, sym c.sum_exceeds.ensures ∙ c.if-sum_exceeds.true))

pub returns : goal.returns
unfolding finish_answer
returns c =
    simp (le-ltb _ _ c.if-total-gt-REFERENCE_LIMIT.false, sym c.sum_exceeds.ensures ∙ c.if-sum_exceeds.false)
