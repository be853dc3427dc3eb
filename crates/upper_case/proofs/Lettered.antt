-- A stretch of letters in either case: there is one, and as upper case they are letters all.
use Prim.Native.Nat.{ℕ, ◌<◌}
use native.Mathlib.Omega.{arith}
use mathlib.Core.Path.{◌≡◌, refl}
use mathlib.Core.Bool.{true, false, cond, not}
use mathlib.Core.List.{List, [], ◌∷◌}
use lib.Dec.{eqb, ltb}
use lib.ListN.{length}
use borrow.Author.Tests.{ltb-true, lt-ltb, ne_eqb}
use Rattle.stretch.specs.Class.{every}
use Rattle.stretch.proofs.Cases.{by_cases}
use Rattle.alphabets.specs.Alphabets.{letter}
use Rattle.upper_case.specs.Upper.{folded, either_case, lettered}

module _ (s : List ℕ) (h : lettered s ≡ true) where
  pub lettered-some : 0 < length s
  unfolding lettered
  lettered-some =
      by_cases (ltb 0 (length s))
      (ltb-true 0 (length s))
      (λ e. let z : ◌≡◌ {A = ℕ} 0 1 = cc (rw e at h) in absurd (omega arith))

  pub lettered-every : every letter (folded s) ≡ true
  unfolding lettered
  lettered-every = by_cases (ltb 0 (length s)) (λ e. rw e at h) (λ e. cc (rw e at h))

pub every-folded : (s : List ℕ) → every either_case s ≡ every letter (folded s)
unfolding every
every-folded [] = refl
every-folded (x ∷ s) = rw (every-folded s)

pub lettered-unless_empty : (s : List ℕ) → cond (not (eqb (length s) 0)) (every either_case s) false ≡ lettered s
unfolding lettered
lettered-unless_empty [] = refl
lettered-unless_empty (x ∷ s) =
    let n = length (x ∷ s) in
    rw (ne_eqb n 0 (λ e. omega arith), lt-ltb 0 n (omega arith)) (every-folded (x ∷ s))
