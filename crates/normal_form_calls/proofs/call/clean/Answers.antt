-- A stretch with a foreign byte is refused, by the length of the joined text.
use native.Mathlib.Omega.{arith}
use mathlib.Core.Path.{◌∙◌, ap}
use Rattle.alphabets.specs.Alphabets.{foreign}
use Rattle.normal_form_calls.proofs.Answers.{clean-refuses, clean-accepts}
use Rattle.normal_form_calls.proofs.call.clean.Goals as goal

pub first_foreign_of-first-requires : goal.first_foreign_of-first-requires
first_foreign_of-first-requires c =
    let f = c.requires in
    omega (arith, c.joined_three.ensures.text_length, f.allele.reference, f.allele.replacement)

pub returns-then-first-joined_length : goal.returns-then-first-joined_length
returns-then-first-joined_length c =
    rw c.refuse.ensures
    (clean-refuses _ _ c.args.w c.requires _ (c.first_foreign_of-first.ensures ∙ ap foreign c.joined_three.ensures.text)
    (rw c.joined_length.ensures at c.if-first-joined_length.true))

pub returns : goal.returns
returns c =
    clean-accepts _ _ c.args.w c.requires _ (c.first_foreign_of-first.ensures ∙ ap foreign c.joined_three.ensures.text)
    (rw c.joined_length.ensures at c.if-first-joined_length.false)
