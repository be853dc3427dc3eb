-- The first stretch with a foreign byte decides.
use native.Mathlib.Omega.{arith}
use mathlib.Core.Path.{◌∙◌}
use Rattle.alphabets.proofs.Foreign.{foreign-le}
use Rattle.normal_form.proofs.Joined.{foreign-first, foreign-second, foreign-third}
use Rattle.normal_form.proofs.three.first_foreign_of.Goals as goal

pub returns-then-x-text : goal.returns-then-x-text
returns-then-x-text c = let t = c.args.text in
    c.first_foreign-x.ensures ∙ foreign-first t.first.now t.middle.now t.last.now (omega arith)

pub overflow_add-result : goal.overflow_add-result
overflow_add-result c = let t = c.args.text in
    omega (arith, foreign-le t.first.now, foreign-le t.middle.now)

pub returns-then-y-text : goal.returns-then-y-text
returns-then-y-text c = let t = c.args.text in
    omega (arith, foreign-second t.first.now t.middle.now t.last.now (omega arith) (omega arith))

pub overflow_add-result-2 : goal.overflow_add-result-2
overflow_add-result-2 c = let t = c.args.text in
    omega (arith, foreign-le t.first.now, foreign-le t.middle.now)

pub overflow_add-result-3 : goal.overflow_add-result-3
overflow_add-result-3 c = let t = c.args.text in
    omega (arith, foreign-le t.first.now, foreign-le t.middle.now, foreign-le t.last.now)

pub returns : goal.returns
returns c = let t = c.args.text in
    omega (arith, foreign-third t.first.now t.middle.now t.last.now (omega arith) (omega arith))
