-- A call whose answer is told by an equation has one answer.
use mathlib.Core.Path.{◌≡◌, ◌∙◌, sym}

pub one_answer : {A : Type 0} {x y z : A} → x ≡ z → y ≡ z → x ≡ y
one_answer p q = p ∙ sym q
