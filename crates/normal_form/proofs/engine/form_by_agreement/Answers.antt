-- Unchanged where all residues given agree with as many at the spot.
use borrow.Author.Tests.{eq-eqb, ne_eqb}
use Rattle.normal_form.specs.Inner.{agreed_stretches}
use Rattle.normal_form.proofs.engine.form_by_agreement.Goals as goal
use Rattle.normal_form.proofs.engine.form_by_agreement.Goals.{else-given-end-via-then-given-end+else-ahead-given}
use Rattle.normal_form.proofs.engine.form_by_agreement.Goals.{else-given-end-via-else-given-end}

pub returns-then-ahead-given : goal.returns-then-ahead-given
unfolding agreed_stretches
returns-then-ahead-given c = rw (c.as_given.ensures, eq-eqb _ _ c.if-given-end.true, eq-eqb _ _ c.if-ahead-given.true)

pub returns : goal.returns
unfolding agreed_stretches
returns c =
    elim c.else-given-end.branch [
      | else-given-end-via-then-given-end+else-ahead-given w ↦
          rw (c.justify.ensures, eq-eqb _ _ w.if-given-end.true, ne_eqb _ _ w.if-ahead-given.false)
      | else-given-end-via-else-given-end w ↦ rw (c.justify.ensures, ne_eqb _ _ w.if-given-end.false)
    ]
