-- Proofs by cases on a test.
use mathlib.Core.Path.{◌≡◌, refl}
use mathlib.Core.Bool.{Bool, true, false}

pub by_cases : {C : Type 0} (t : Bool) → (t ≡ true → C) → (t ≡ false → C) → C
by_cases true f g = f refl
by_cases false f g = g refl
