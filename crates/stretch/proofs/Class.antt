-- Stretches all of whose bytes are in a class.
use Prim.Native.Nat.{ℕ, suc, zero, ◌<◌}
use native.Mathlib.Nat.{le_of_suc-le-suc, not-suc-le-zero}
use mathlib.Core.Path.{◌≡◌, refl}
use mathlib.Core.Bool.{Bool, true, false, cond}
use mathlib.Core.List.{List, [], ◌∷◌, ◌++◌}
use lib.ListN.{length, get_or}
use Rattle.stretch.specs.Class.{every}
use Rattle.stretch.proofs.Cases.{by_cases}

module _ (p : ℕ → Bool) where
  pub every_append : (xs ys : List ℕ) → every p (xs ++ ys) ≡ cond (every p xs) (every p ys) false
  unfolding every
  every_append [] ys = refl
  every_append (x ∷ xs) ys = by_cases (p x) (λ e. rw e (every_append xs ys)) (λ e. rw e)

  pub every_front : (xs ys : List ℕ) → every p (xs ++ ys) ≡ true → every p xs ≡ true
  unfolding every
  every_front [] ys h = refl
  every_front (x ∷ xs) ys h = by_cases (p x) (λ e. rw e (every_front xs ys (rw e at h))) (λ e. cc (rw e at h))

  pub every-at : (s : List ℕ) (i : ℕ) → every p s ≡ true → i < length s → p (get_or s i 0) ≡ true
  unfolding every
  every-at [] i h l = absurd (not-suc-le-zero l)
  every-at (x ∷ s) zero h l = by_cases (p x) (λ e. e) (λ e. cc (rw e at h))
  every-at (x ∷ s) (suc i) h l =
      by_cases (p x) (λ e. every-at s i (rw e at h) (le_of_suc-le-suc l)) (λ e. cc (rw e at h))

-- a class within another
pub every-weaken : (p q : ℕ → Bool) → ((b : ℕ) → p b ≡ true → q b ≡ true) → (s : List ℕ) → every p s ≡ true
    → every q s ≡ true
unfolding every
every-weaken p q w [] h = refl
every-weaken p q w (x ∷ s) h =
    by_cases (p x) (λ e. rw (w x e) (every-weaken p q w s (rw e at h))) (λ e. cc (rw e at h))
