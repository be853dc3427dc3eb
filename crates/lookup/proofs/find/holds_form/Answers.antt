-- The numbers, then the replacement.
use mathlib.Core.Path.{◌∙◌, sym}
use Rattle.lookup.proofs.Held.{holds-steps}
use Rattle.lookup.proofs.find.holds_form.Goals as goal

pub returns-then-holds_numbers : goal.returns-then-holds_numbers
returns-then-holds_numbers c =
    sym (holds-steps _ _ _ _
    ∙ rw (sym c.holds_numbers.ensures ∙ c.if-holds_numbers.true)
    (sym c.holds_replacement.ensures))

pub returns-else-holds_numbers : goal.returns-else-holds_numbers
returns-else-holds_numbers c =
    c.if-holds_numbers.false
    ∙ sym (holds-steps _ _ _ _ ∙ rw (sym c.holds_numbers.ensures ∙ c.if-holds_numbers.false))
