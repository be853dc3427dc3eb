-- Document 01, "Texts and identifiers": decimals.
use Rattle.std.specs.Prelude.{ℕ, zero, suc, ◌+◌, ◌/◌, ◌%◌, ◌^◌, cond, List, [], ◌∷◌, ◌++◌, ltb}

-- the character of a number below ten
abbrev pub digit : ℕ → ℕ
digit d = 0x30 + d

-- in so many steps: one digit below ten, else the digits of the tenth part and then the last one
unfoldable pub decimal_in : ℕ → ℕ → List ℕ
decimal_in zero n = digit n ∷ []
decimal_in (suc steps) n = cond (ltb n 10) (digit n ∷ []) (decimal_in steps (n / 10) ++ (digit (n % 10) ∷ []))

-- steps that are enough: 19 for a number of 64 bits, and n for any n
unfoldable pub enough : ℕ → ℕ
enough n = cond (ltb n (2 ^ 64)) 19 n

-- the decimal of a number
unfoldable pub decimal : ℕ → List ℕ
decimal n = decimal_in (enough n) n
