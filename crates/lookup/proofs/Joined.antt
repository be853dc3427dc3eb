-- A stretch against others laid one after the other: it is tested part by part, the last one first.
use Prim.Native.Nat.{ℕ, ◌<◌, ◌≤◌}
use native.Mathlib.Nat.{le_of_suc-le-suc, not-suc-le-zero}
use native.Mathlib.Omega.{arith}
use mathlib.Core.Path.{◌≡◌, refl}
use mathlib.Core.Bool.{Bool, true, false, cond}
use mathlib.Core.List.{List, [], ◌∷◌, ◌++◌}
use lib.Dec.{eqb}
use lib.ListN.{length, take, drop, length-append}
use Rattle.std.specs.List.{IsSplitAt}
use Rattle.stretch.specs.Same.{same}
use Rattle.stretch.proofs.Cases.{by_cases}
use Rattle.stretch.proofs.Same.{same-lengths}

same-two : (s a b : List ℕ) → length a ≤ length s
    → same s (a ++ b) ≡ cond (same (take (length a) s) a) (same (drop (length a) s) b) false
unfolding same
same-two s [] b h = refl
same-two [] (x ∷ a) b h = absurd (not-suc-le-zero h)
same-two (y ∷ s) (x ∷ a) b h = by_cases (eqb y x) (λ e. rw e (same-two s a b (le_of_suc-le-suc h))) (λ e. rw e)

cond-turned : (p q r : Bool) → cond p (cond q r false) false ≡ cond r (cond q p false) false
cond-turned true true true = refl
cond-turned true true false = refl
cond-turned true false true = refl
cond-turned true false false = refl
cond-turned false true true = refl
cond-turned false true false = refl
cond-turned false false true = refl
cond-turned false false false = refl

-- a stretch that is too short for the first part
pub short-first : (s a b : List ℕ) → length s < length a → same s (a ++ b) ≡ false
short-first s a b h = same-lengths s (a ++ b) (λ e. omega (arith, e, length-append a b))

module _ (s a b c first rest : List ℕ) (p : IsSplitAt s (length a) first rest) where
  -- for the first two
  pub short-second : length rest < length b → same s (a ++ (b ++ c)) ≡ false
  short-second h =
      same-lengths s (a ++ (b ++ c)) (λ e. omega (arith, e, h, p.4, length-append a (b ++ c), length-append b c))

  -- the tests as the code makes them
  pub same-three : (middle last : List ℕ) → IsSplitAt rest (length b) middle last
      → same s (a ++ (b ++ c)) ≡ cond (same last c) (cond (same middle b) (same first a) false) false
  same-three middle last q =
      rw (same-two s a (b ++ c) p.0, ← p.1, ← p.2, same-two rest b c q.0, ← q.1, ← q.2)
      (cond-turned (same first a) (same middle b) (same last c))
