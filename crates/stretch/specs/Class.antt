-- Bytes of a class: a stretch of them, and the first byte outside.
use Rattle.std.specs.Prelude.{ℕ, suc, Bool, true, false, cond, List, [], ◌∷◌}

-- each of them is in a class
unfoldable pub every : (ℕ → Bool) → List ℕ → Bool
every p [] = true
every p (x ∷ xs) = cond (p x) (every p xs) false

-- the offset of the first byte outside a class, or the length where there is none
unfoldable pub first_outside : (ℕ → Bool) → List ℕ → ℕ
first_outside p [] = 0
first_outside p (x ∷ xs) = cond (p x) (suc (first_outside p xs)) 0
