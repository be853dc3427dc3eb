-- The digits that a text begins with.
use Rattle.std.specs.Prelude.{ℕ, ◌<◌, ◌≤◌, ◌≡◌, List, ◌++◌, length, take}
use Rattle.decimals.specs.Decimal.{decimal}

-- the first k bytes of s are the decimal of a number up to a limit, and no more of s begins such a decimal; without
-- any, the number is 0
pub record Leads (most : ℕ) (s : List ℕ) (k number : ℕ) : Type 0 where
  pub within : k ≤ length s
  pub small : number ≤ most
  pub none : k ≡ 0 → number ≡ 0
  pub digits : 0 < k → take k s ≡ decimal number
  pub furthest : (j : ℕ) → k < j → j ≤ length s → (n : ℕ) (rest : List ℕ) → n ≤ most → take j s ++ rest ≡ decimal n → ⊥
