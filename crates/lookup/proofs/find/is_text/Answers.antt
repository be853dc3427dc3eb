-- The tests in order, the last part's first.
use mathlib.Core.Path.{◌∙◌, sym}
use Rattle.lookup.proofs.Joined.{short-first, short-second, same-three}
use Rattle.lookup.proofs.find.is_text.Goals as goal
use Rattle.lookup.proofs.find.is_text.Goals.{then-equal, else-equal}

pub returns-in_default : goal.returns-in_default
returns-in_default c = sym (short-first _ _ _ c.in_default.ensures.cases)

pub returns-in_default-split_at_checked : goal.returns-in_default-split_at_checked
returns-in_default-split_at_checked c =
    sym (short-second _ _ _ _ _ _ c.in-Some.ensures.cases c.in_default-split_at_checked.ensures.cases)

pub returns-then-equal-2 : goal.returns-then-equal-2
returns-then-equal-2 c =
    let parts = same-three _ _ _ c.args.text.last.now _ _ c.in-Some.ensures.cases _ _
    c.in-Some-split_at_checked.ensures.cases in
    elim c.if-equal.branch [
      | then-equal w ↦ sym (parts
          ∙ rw (
            sym c.equal.ensures ∙ w.if-equal.true,
            sym w.equal-then-equal.ensures ∙ sym w.value-is ∙ c.if-equal-2.true,
          ) (sym c.equal-then-equal-2.ensures))
      | else-equal w ↦ cc
    ]

pub returns-else-equal-2 : goal.returns-else-equal-2
returns-else-equal-2 c =
    let parts = same-three _ _ _ c.args.text.last.now _ _ c.in-Some.ensures.cases _ _
    c.in-Some-split_at_checked.ensures.cases in
    elim c.if-equal.branch [
      | then-equal w ↦ c.if-equal-2.false
          ∙ sym (parts
          ∙ rw (
            sym c.equal.ensures ∙ w.if-equal.true,
            sym w.equal-then-equal.ensures ∙ sym w.value-is ∙ c.if-equal-2.false,
          ))
      | else-equal w ↦ c.if-equal-2.false ∙ sym (parts ∙ rw (sym c.equal.ensures ∙ w.if-equal.false))
    ]
