-- A test of every number below a bound: what it tells of one number, and what each number tells of it.
use Prim.Native.Nat.{ℕ, suc, zero, ◌<◌}
use native.Mathlib.Nat.{le_of_suc-le-suc, not-suc-le-zero, eq-or-lt_of_le}
use native.Mathlib.Omega.{arith}
use mathlib.Core.Logic.{⊎_elim}
use mathlib.Core.Path.{◌≡◌, refl, sym, subst}
use mathlib.Core.Bool.{Bool, true, false}
use Rattle.stretch.specs.Below.{below}
use Rattle.stretch.proofs.Cases.{by_cases}

module _ (f : ℕ → Bool) where
  pub below_at : (n : ℕ) → below f n ≡ true → (k : ℕ) → k < n → f k ≡ true
  unfolding below
  below_at zero h k l = absurd (not-suc-le-zero l)
  below_at (suc n) h k l =
      by_cases (f n)
      (λ e. ⊎_elim (λ q. subst (λ (m : ℕ). f m ≡ true) (sym q) e) (λ l'. below_at n (rw e at h) k l')
      (eq-or-lt_of_le (le_of_suc-le-suc l)))
      (λ e. cc (rw e at h))

  -- one more number
  pub below_next : (n : ℕ) → below f n ≡ true → f n ≡ true → below f (suc n) ≡ true
  unfolding below
  below_next n h e = rw e h

  pub below-first : (n : ℕ) → below f (suc n) ≡ true → below f n ≡ true
  unfolding below
  below-first n h = by_cases (f n) (λ e. rw e at h) (λ e. cc (rw e at h))

  -- every number passes
  pub below_all : (n : ℕ) → ((k : ℕ) → k < n → f k ≡ true) → below f n ≡ true
  unfolding below
  below_all zero p = refl
  below_all (suc n) p = rw (p n (omega arith)) (below_all n (λ k l. p k (omega arith)))

  -- one does not
  pub below_fails : (n k : ℕ) → k < n → f k ≡ false → below f n ≡ false
  below_fails n k l e = by_cases (below f n) (λ t. cc (below_at n t k l, e)) (λ t. t)
