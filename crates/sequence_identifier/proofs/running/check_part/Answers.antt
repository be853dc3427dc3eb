-- Each return is what the grounds say, by the tests that led there.
use mathlib.Core.Path.{sym, ◌∙◌}
use borrow.Author.Tests.{lt-ltb, le-ltb}
use Rattle.sequence_identifier.proofs.running.check_part.Goals as goal

pub returns-then-sum_exceeds : goal.returns-then-sum_exceeds
returns-then-sum_exceeds c = rw c.refuse.ensures (simp (sym c.sum_exceeds.ensures ∙ c.if-sum_exceeds.true))

pub returns-then-foreign-part : goal.returns-then-foreign-part
returns-then-foreign-part c = rw c.refuse-then-foreign-part.ensures
    (simp (
      sym c.sum_exceeds.ensures ∙ c.if-sum_exceeds.false,
      ← c.first_foreign-foreign.ensures,
      lt-ltb _ _ c.if-foreign-part.true,
    ))

pub returns : goal.returns
returns c =
    (simp (
      sym c.sum_exceeds.ensures ∙ c.if-sum_exceeds.false,
      ← c.first_foreign-foreign.ensures,
      le-ltb _ _ c.if-foreign-part.false,
    ))
