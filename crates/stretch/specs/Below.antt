-- A test of every number below a bound.
use Rattle.std.specs.Prelude.{ℕ, suc, zero, Bool, true, false, cond}

-- the test passes at each number below n
unfoldable pub below : (ℕ → Bool) → ℕ → Bool
below f zero = true
below f (suc n) = cond (f n) (below f n) false
