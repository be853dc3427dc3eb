-- Stretches of a class, taken apart, joined and reversed.
use Prim.Native.Nat.{ℕ, suc, zero}
use mathlib.Core.Path.{◌≡◌, refl, ◌∙◌}
use mathlib.Core.Bool.{Bool, true}
use mathlib.Core.List.{List, [], ◌∷◌, ◌++◌, reverse, reverse_aux}
use lib.ListN.{take, drop}
use Rattle.stretch.specs.Class.{every}
use Rattle.stretch.proofs.Cases.{by_cases}
use Rattle.stretch.proofs.Class.{every_append}

module _ (p : ℕ → Bool) where
  pub every-head : (x : ℕ) (xs : List ℕ) → every p (x ∷ xs) ≡ true → p x ≡ true
  unfolding every
  every-head x xs h = by_cases (p x) (λ e. e) (λ e. cc (rw e at h))

  pub every-tail : (x : ℕ) (xs : List ℕ) → every p (x ∷ xs) ≡ true → every p xs ≡ true
  unfolding every
  every-tail x xs h = by_cases (p x) (λ e. rw e at h) (λ e. cc (rw e at h))

  pub every-join : (xs ys : List ℕ) → every p xs ≡ true → every p ys ≡ true → every p (xs ++ ys) ≡ true
  every-join xs ys h g = every_append p xs ys ∙ rw (h, g)

  pub every_take : (n : ℕ) (xs : List ℕ) → every p xs ≡ true → every p (take n xs) ≡ true
  unfolding every
  every_take zero xs h = refl
  every_take (suc n) [] h = refl
  every_take (suc n) (x ∷ xs) h = rw (every-head x xs h) (every_take n xs (every-tail x xs h))

  pub every_drop : (n : ℕ) (xs : List ℕ) → every p xs ≡ true → every p (drop n xs) ≡ true
  every_drop zero xs h = h
  every_drop (suc n) [] h = h
  every_drop (suc n) (x ∷ xs) h = every_drop n xs (every-tail x xs h)

  every-onto : (xs ys : List ℕ) → every p xs ≡ true → every p ys ≡ true → every p (reverse_aux xs ys) ≡ true
  unfolding every
  every-onto [] ys h g = g
  every-onto (x ∷ xs) ys h g = every-onto xs (x ∷ ys) (every-tail x xs h) (rw (every-head x xs h) g)

  pub every-reverse : (xs : List ℕ) → every p xs ≡ true → every p (reverse xs) ≡ true
  unfolding every
  every-reverse xs h = every-onto xs [] h refl
