-- Each call has one answer and leaves one content of the lent buffer.
use Prim.Native.Nat.{ℕ}
use mathlib.Core.Path.{◌≡◌}
use mathlib.Core.List.{List}
use Rattle.std.specs.Prelude.{Result}
use Rattle.refusal.specs.declared.Refusal.{Refusal}
use Rattle.refusal.proofs.Unique.{one_answer}
use Rattle.refusal.proofs.Keeps.{keeps-once}
use Rattle.sha512.specs.declared.Running.{Running}
use Rattle.sha512.specs.Feeding.{begun}
use Rattle.sequence_identifier.specs.Calls.{Identifies, Finishes, part_answer, feeding}

module _ (out : List ℕ) (place : ℕ) (a₁ a₂ : Result ℕ Refusal) (l₁ l₂ : List ℕ) where
  pub identifies-once : (reference : List ℕ) → Identifies reference out place a₁ l₁
      → Identifies reference out place a₂ l₂ → (a₁ ≡ a₂) × (l₁ ≡ l₂)
  identifies-once reference p q = keeps-once _ _ _ _ a₁ a₂ l₁ l₂ p q

  pub finishes-once : (state : Running) → Finishes state out place a₁ l₁ → Finishes state out place a₂ l₂ → (a₁ ≡ a₂)
      × (l₁ ≡ l₂)
  finishes-once state p q = keeps-once _ _ _ _ a₁ a₂ l₁ l₂ p q

pub feeds-once : (state : Running) (part : List ℕ) (a₁ a₂ : Result (Unit {0}) Refusal) (s₁ s₂ : Running)
    → a₁ ≡ part_answer state.total part → s₁ ≡ feeding state part
    → a₂ ≡ part_answer state.total part → s₂ ≡ feeding state part → (a₁ ≡ a₂) × (s₁ ≡ s₂)
feeds-once state part a₁ a₂ s₁ s₂ p l q m = (one_answer p q, one_answer l m)

pub begins-once : (s₁ s₂ : Running) → s₁ ≡ begun → s₂ ≡ begun → s₁ ≡ s₂
begins-once s₁ s₂ p q = one_answer p q
