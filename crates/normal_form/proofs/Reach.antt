-- How far a normal form reaches: never out of the three stretches that make up the altered sequence.
use Prim.Native.Nat.{ℕ, ◌+◌, ◌-◌, ◌≤◌}
use native.Mathlib.Omega.{arith}
use mathlib.Core.List.{List}
use lib.ListN.{length}
use Rattle.normal_form.specs.Form.{altered, shorter, ahead, behind}
use Rattle.normal_form.proofs.Flanks.{length-altered, lcp-flank, lcs-flank}
use Rattle.normal_form.proofs.Laws.{shorter-le-right, ahead-room, behind-room, ahead-behind}

module _ (r : List ℕ) (start end : ℕ) (x : List ℕ) (h : start ≤ end) (g : end ≤ length r) where
  long : shorter r (altered r start end x) ≤ start + length x + (length r - end)
  long = rw (← length-altered r start end x h g) (shorter-le-right r (altered r start end x))

  pub ahead-front : ahead r (altered r start end x) ≤ start + length x
  ahead-front = omega (arith, ahead-room r (altered r start end x), long, lcs-flank r start end x)

  pub behind-back : behind r (altered r start end x) ≤ length x + (length r - end)
  behind-back = omega (arith, behind-room r (altered r start end x), long, lcp-flank r start end x (omega arith))

  pub reach-both : ahead r (altered r start end x) + behind r (altered r start end x) ≤ start + length x
      + (length r - end)
  reach-both = omega (arith, ahead-behind r (altered r start end x), long)
