-- A form is written where there is room for it.
use mathlib.Core.Path.{◌∙◌, sym}
use borrow.Author.Rules.{rules}
use borrow.Author.Tests.{ltb-false}
use Rattle.normal_form_calls.proofs.Answers.{lays-nothing, lays_all}
use Rattle.normal_form_calls.proofs.call.lay_form.Goals as goal

pub form_of-form-requires : goal.form_of-form-requires
form_of-form-requires g c =
    let f = c.requires in
    search rules

pub returns-then-sum_exceeds : goal.returns-then-sum_exceeds
returns-then-sum_exceeds g c =
    let room = rw c.form_of-form.ensures at (sym c.sum_exceeds.ensures ∙ c.if-sum_exceeds.true) in
    rw (c.refuse.ensures, c.form_of-form.ensures) (lays-nothing _ _ _ c.requires _ _ room)

pub write_read-requires : goal.write_read-requires
write_read-requires g c =
    let room = rw c.form_of-form.ensures at (sym c.sum_exceeds.ensures ∙ c.if-sum_exceeds.false) in
    record { fits = c.requires; w_in_bounds = ltb-false _ _ room }

pub returns : goal.returns
returns g c =
    let room = rw c.form_of-form.ensures at (sym c.sum_exceeds.ensures ∙ c.if-sum_exceeds.false) in
    rw (c.write_read.ensures.laid, c.form_of-form.ensures, c.moved_of.ensures)
    (lays_all _ _ _ c.requires _ _ room)
