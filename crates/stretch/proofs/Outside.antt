-- The first byte outside a class: its bound, what holds before it, and appended stretches.
use Prim.Native.Nat.{ℕ, suc, ◌+◌, ◌<◌, ◌≤◌}
use native.Mathlib.Nat.{le_of_suc-le-suc, not-suc-le-zero, zero-add}
use native.Mathlib.Omega.{arith}
use mathlib.Core.Path.{◌≡◌, refl, ◌∙◌, sym, ap}
use mathlib.Core.Bool.{Bool, true}
use mathlib.Core.List.{List, [], ◌∷◌, ◌++◌}
use lib.ListN.{length, take, drop, take-append-drop}
use lib.Seq.{length-take-le}
use Rattle.stretch.specs.Class.{every, first_outside}
use Rattle.stretch.proofs.Cases.{by_cases}

module _ (p : ℕ → Bool) where
  pub first_outside-le : (s : List ℕ) → first_outside p s ≤ length s
  unfolding first_outside
  first_outside-le [] = omega arith
  first_outside-le (x ∷ s) = by_cases (p x) (λ e. rw e (omega (arith, first_outside-le s))) (λ e. rw e (omega arith))

  pub first_outside-all : (s : List ℕ) → first_outside p s ≡ length s → every p s ≡ true
  unfolding first_outside every
  first_outside-all [] h = refl
  first_outside-all (x ∷ s) h =
      by_cases (p x)
      (λ e. let h' : suc (first_outside p s) ≡ suc (length s) = rw e at h in rw e (first_outside-all s (omega arith)))
      (λ e. let h' : 0 ≡ suc (length s) = rw e at h in absurd (omega arith))

  pub first_outside-past : (xs ys : List ℕ) → every p xs ≡ true
      → first_outside p (xs ++ ys) ≡ length xs + first_outside p ys
  unfolding first_outside every
  first_outside-past [] ys h = sym (zero-add (first_outside p ys))
  first_outside-past (x ∷ xs) ys h =
      by_cases (p x) (λ e. rw (e, first_outside-past xs ys (rw e at h)) (omega arith)) (λ e. cc (rw e at h))

  pub first_outside-every : (s : List ℕ) → every p s ≡ true → first_outside p s ≡ length s
  unfolding first_outside every
  first_outside-every [] h = refl
  first_outside-every (x ∷ s) h =
      by_cases (p x) (λ e. rw e (ap suc (first_outside-every s (rw e at h)))) (λ e. cc (rw e at h))

  pub first_outside-within : (xs ys : List ℕ) → first_outside p xs < length xs
      → first_outside p (xs ++ ys) ≡ first_outside p xs
  unfolding first_outside
  first_outside-within [] ys h = absurd (not-suc-le-zero h)
  first_outside-within (x ∷ xs) ys h =
      by_cases (p x) (λ e. rw e (ap suc (first_outside-within xs ys (le_of_suc-le-suc (rw e at h))))) (λ e. rw e)

  -- all before it are inside, and no more than these
  pub first_outside-take : (s : List ℕ) → every p (take (first_outside p s) s) ≡ true
  unfolding first_outside every
  first_outside-take [] = refl
  first_outside-take (x ∷ s) = by_cases (p x) (λ e. rw (e, e) (first_outside-take s)) (λ e. rw e)

  pub first_outside-max : (s : List ℕ) (j : ℕ) → j ≤ length s → every p (take j s) ≡ true → j ≤ first_outside p s
  first_outside-max s j h e =
      let split : first_outside p s ≡ length (take j s) + first_outside p (drop j s)
      = ap (first_outside p) (sym (take-append-drop j s)) ∙ first_outside-past (take j s) (drop j s) e in
      omega (arith, length-take-le j s h)
