-- Each call has one answer and leaves one image.
use Prim.Native.Nat.{ℕ}
use mathlib.Core.Path.{◌≡◌}
use mathlib.Core.List.{List}
use Rattle.std.specs.Prelude.{Result}
use Rattle.refusal.specs.declared.Refusal.{Refusal}
use Rattle.refusal.proofs.Keeps.{keeps-once}
use Rattle.register.specs.Calls.{Withdraws, Undoes, Seals}

module _ (b l₁ l₂ : List ℕ) where
  module _ (a₁ a₂ : Result (Unit {0}) Refusal) where
    pub withdraws-once : (i : ℕ) → Withdraws b i a₁ l₁ → Withdraws b i a₂ l₂ → (a₁ ≡ a₂) × (l₁ ≡ l₂)
    unfolding Withdraws
    withdraws-once i = keeps-once _ _ _ _ a₁ a₂ l₁ l₂

    pub seals-once : Seals b a₁ l₁ → Seals b a₂ l₂ → (a₁ ≡ a₂) × (l₁ ≡ l₂)
    unfolding Seals
    seals-once = keeps-once _ _ _ _ a₁ a₂ l₁ l₂

  pub undoes-once : (a₁ a₂ : Result ℕ Refusal) → Undoes b a₁ l₁ → Undoes b a₂ l₂ → (a₁ ≡ a₂) × (l₁ ≡ l₂)
  unfolding Undoes
  undoes-once a₁ a₂ = keeps-once _ _ _ _ a₁ a₂ l₁ l₂
