-- Writing a decimal: its one digit, or its last digit after those of the tenth part.
use Prim.Native.Nat.{ℕ, ◌/◌, ◌%◌, ◌<◌, ◌≤◌}
use native.Mathlib.Omega.{arith}
use mathlib.Core.Path.{◌≡◌, ◌∙◌, sym, ap}
use mathlib.Core.List.{List, [], ◌∷◌}
use lib.ListN.{length, set}
use Rattle.stretch.specs.Over.{over}
use Rattle.stretch.proofs.Over.{set-over, over-next, length_over}
use Rattle.decimals.specs.Decimal.{digit, decimal}
use Rattle.decimals.proofs.Digits.{decimal-below, decimal-tenth, length-tenth}

module _ (l : List ℕ) (n : ℕ) where
  pub write-digit : n < 10 → 0 < length l → set l 0 (digit n) ≡ over l 0 (decimal n)
  write-digit h g = rw (decimal-below n h) (set-over l 0 (digit n) g)

  pub write-last : 10 ≤ n → length (decimal n) ≤ length l
      → set (over l 0 (decimal (n / 10))) (length (decimal (n / 10))) (digit (n % 10)) ≡ over l 0 (decimal n)
  write-last h g =
      let long : length (over l 0 (decimal (n / 10))) ≡ length l =
      length_over l 0 (decimal (n / 10)) (omega (arith, length-tenth n h)) in
      set-over (over l 0 (decimal (n / 10))) (length (decimal (n / 10))) (digit (n % 10))
      (omega (arith, length-tenth n h))
      ∙ over-next l 0 (length (decimal (n / 10))) (decimal (n / 10)) (digit (n % 10) ∷ []) (omega arith) (omega arith)
      ∙ ap (over l 0) (sym (decimal-tenth n h))
