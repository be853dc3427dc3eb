-- Each call has one answer and leaves one content of the lent buffer.
use Prim.Native.Nat.{ℕ}
use mathlib.Core.Path.{◌≡◌}
use mathlib.Core.List.{List}
use Rattle.std.specs.Prelude.{Result}
use Rattle.refusal.specs.declared.Refusal.{Refusal}
use Rattle.refusal.proofs.Unique.{one_answer}
use Rattle.normal_form.specs.declared.Stretches.{Stretches}
use Rattle.normal_form_calls.specs.declared.Formed.{Formed}
use Rattle.normal_form_calls.specs.Calls.{located, located_clean, Normalises}

module _ (r : List ℕ) (start end : ℕ) (x : List ℕ) where
  pub normalises-once : (out : List ℕ) (place : ℕ) (a₁ a₂ : Result Formed Refusal) (l₁ l₂ : List ℕ)
      → Normalises r start end x out place a₁ l₁ → Normalises r start end x out place a₂ l₂ → (a₁ ≡ a₂) × (l₁ ≡ l₂)
  normalises-once out place a₁ a₂ l₁ l₂ p q = (one_answer p.answers q.answers, one_answer p.leaves q.leaves)

  pub locates-once : (a₁ a₂ : Result Stretches Refusal) → a₁ ≡ located r start end x → a₂ ≡ located r start end x
      → a₁ ≡ a₂
  locates-once a₁ a₂ p q = one_answer p q

  pub locates-clean-once : (a₁ a₂ : Result Stretches Refusal) → a₁ ≡ located_clean r start end x
      → a₂ ≡ located_clean r start end x → a₁ ≡ a₂
  locates-clean-once a₁ a₂ p q = one_answer p q
