-- The lowest number that passes a test: it passes, none below it does, and where there is none, none does.
use Prim.Native.Nat.{ℕ, zero, suc, ◌+◌, ◌<◌, ◌≤◌}
use native.Mathlib.Nat.{eq-or-lt_of_le, le_of_suc-le-suc}
use native.Mathlib.Omega.{arith}
use mathlib.Core.Path.{◌≡◌, refl, ◌∙◌, sym, subst}
use mathlib.Core.Bool.{Bool, true, false}
use mathlib.Core.Logic.{⊎_elim}
use Rattle.std.specs.Prelude.{Option, Some, None}
use Rattle.std.specs.Option.{MatchOption}
use Rattle.stretch.proofs.Cases.{by_cases}
use Rattle.lookup.specs.Lookup.{lowest}

pub by_option : {C : Type 0} (o : Option ℕ) → (o ≡ None → C) → ((i : ℕ) → o ≡ Some i → C) → C
by_option None none some = none refl
by_option (Some i) none some = some i refl

module _ (test : ℕ → Bool) where
  pub lowest-passes : (k i : ℕ) → lowest test k ≡ Some i → (test i ≡ true) × (1 ≤ i) × (i ≤ k)
  unfolding lowest
  lowest-passes zero i h = cc
  lowest-passes (suc k) i h =
      by_option (lowest test k)
      (λ e.
      by_cases (test (suc k))
      (λ p. let q : suc k ≡ i = cc (rw (e, p) at h) in subst (λ (m : ℕ). (test m ≡ true) × (1 ≤ m) × (m ≤ suc k)) q
      (p, omega arith, omega arith))
      (λ p. cc (rw (e, p) at h)))
      (λ j e. let q = lowest-passes k i (e ∙ (rw e at h)) in (q.0, q.1, omega (arith, q.2)))

  pub lowest-none : (k : ℕ) → lowest test k ≡ None → (i : ℕ) → 1 ≤ i → i ≤ k → test i ≡ false
  unfolding lowest
  lowest-none zero h i f l = absurd (omega (arith, f, l))
  lowest-none (suc k) h i f l =
      by_option (lowest test k)
      (λ e.
      by_cases (test (suc k))
      (λ p. cc (rw (e, p) at h))
      (λ p.
      ⊎_elim
      (λ q. subst (λ (m : ℕ). test m ≡ false) (sym q) p)
      (λ q. lowest-none k e i f (le_of_suc-le-suc q))
      (eq-or-lt_of_le l)))
      (λ j e. cc (rw e at h))

  -- none up to k passes
  lowest-nowhere : (k : ℕ) → ((i : ℕ) → 1 ≤ i → i < k + 1 → test i ≡ false) → lowest test k ≡ None
  unfolding lowest
  lowest-nowhere zero fails = refl
  lowest-nowhere (suc k) fails =
      rw (lowest-nowhere k (λ i l h. fails i l (omega arith)), fails (suc k) (omega arith) (omega arith))

  -- i passes, and none below it
  lowest-here : (k i : ℕ) → 1 ≤ i → i < k + 1 → test i ≡ true → ((j : ℕ) → 1 ≤ j → j < i → test j ≡ false)
      → lowest test k ≡ Some i
  unfolding lowest
  lowest-here zero i l h p fails = absurd (omega arith)
  lowest-here (suc k) i l h p fails =
      ⊎_elim
      (λ (q : i ≡ suc k).
      let below : lowest test k ≡ None = lowest-nowhere k (λ j f g. fails j f (omega arith)) in
      rw (below, subst (λ (m : ℕ). test m ≡ true) q p, q))
      (λ (q : i < suc k). rw (lowest-here k i l (omega arith) p fails))
      (eq-or-lt_of_le (omega arith))

  -- what an iterator's `find` among the numbers from 1 to k answers
  pub lowest-from_find : (k : ℕ) (r : Option ℕ)
      → MatchOption r ((i : ℕ) → 1 ≤ i → i < k + 1 → test i ≡ false)
      (λ i. (1 ≤ i) × (i < k + 1) × (test i ≡ true) × ((j : ℕ) → 1 ≤ j → j < i → test j ≡ false))
      → r ≡ lowest test k
  lowest-from_find k None h = sym (lowest-nowhere k h)
  lowest-from_find k (Some i) h = sym (lowest-here k i h.0 h.1 h.2 h.3)
