-- Each return is what the grounds say, by the tests that led there.
use mathlib.Core.Path.{◌∙◌, sym}
use borrow.Author.Tests.{lt-ltb, le-ltb}
use Rattle.sequence_identifier.specs.Inner.{whole_answer}
use Rattle.sequence_identifier.proofs.identifier.check_whole.Goals as goal

pub returns-then-reference-gt-REFERENCE_LIMIT : goal.returns-then-reference-gt-REFERENCE_LIMIT
unfolding whole_answer
returns-then-reference-gt-REFERENCE_LIMIT c =
    rw c.refuse.ensures (simp (lt-ltb _ _ c.if-reference-gt-REFERENCE_LIMIT.true))

pub returns-then-foreign-reference : goal.returns-then-foreign-reference
unfolding whole_answer
returns-then-foreign-reference c =
    rw c.refuse-then-foreign-reference.ensures
    (simp (
      le-ltb _ _ c.if-reference-gt-REFERENCE_LIMIT.false,
      ← c.first_foreign-foreign.ensures,
      lt-ltb _ _ c.if-foreign-reference.true,
    ))

pub returns-then-sum_exceeds : goal.returns-then-sum_exceeds
unfolding whole_answer
returns-then-sum_exceeds c =
    let room = sym c.sum_exceeds.ensures ∙ c.if-sum_exceeds.true in
    rw c.refuse-then-sum_exceeds.ensures
    (simp (
      le-ltb _ _ c.if-reference-gt-REFERENCE_LIMIT.false,
      ← c.first_foreign-foreign.ensures,
      le-ltb _ _ c.if-foreign-reference.false,
      room,
    ))

pub returns : goal.returns
unfolding whole_answer
returns c =
    let room = sym c.sum_exceeds.ensures ∙ c.if-sum_exceeds.false in
    simp (
      le-ltb _ _ c.if-reference-gt-REFERENCE_LIMIT.false,
      ← c.first_foreign-foreign.ensures,
      le-ltb _ _ c.if-foreign-reference.false,
      room,
    )
