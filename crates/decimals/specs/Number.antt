-- What reading a decimal answers.
use Rattle.std.specs.Prelude.{ℕ, ◌+◌, ◌-◌, ◌*◌, ◌^◌, ◌≤◌, ◌≡◌, cond, List, [], ◌∷◌, leb, Option, Some, None}
use Rattle.stretch.specs.Same.{same}
use Rattle.decimals.specs.Decimal.{decimal}

-- the number that digits stand for, after digits that stand for v
unfoldable pub value_from : ℕ → List ℕ → ℕ
value_from v [] = v
value_from v (c ∷ s) = value_from (v * 10 + (c - 0x30)) s

-- the number that all the digits of a text stand for
unfoldable pub value : List ℕ → ℕ
value s = value_from 0 s

-- a number from a lower to an upper limit of which s is the decimal, or none
unfoldable pub number_within : ℕ → ℕ → List ℕ → Option ℕ
number_within least most s =
    cond (leb least (value s))
    (cond (leb (value s) most) (cond (same s (decimal (value s))) (Some (value s)) None) None)
    None

-- a number below 2 to the 64th of which s is the decimal, or none
unfoldable pub number_of : List ℕ → Option ℕ
number_of s = number_within 0 (2 ^ 64 - 1) s

-- the same, said of the answer: proofs/Reading.antt has that number_within is it
pub data Reads (least most : ℕ) (s : List ℕ) : Option ℕ → Type 0 where
  is : (n : ℕ) → least ≤ n → n ≤ most → s ≡ decimal n → Reads least most s (Some n)
  absent : ((n : ℕ) → least ≤ n → n ≤ most → s ≡ decimal n → ⊥) → Reads least most s None
