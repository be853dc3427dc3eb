-- Each call has one answer and leaves one content of the lent buffer.
use Prim.Native.Nat.{ℕ}
use mathlib.Core.Path.{◌≡◌}
use mathlib.Core.List.{List}
use Rattle.std.specs.Prelude.{Result}
use Rattle.refusal.specs.declared.Refusal.{Refusal}
use Rattle.refusal.proofs.Keeps.{keeps-once}
use Rattle.refusal.proofs.WritesUnless.{writes-unless-once}
use Rattle.allele_identifier.specs.declared.Identified.{Identified}
use Rattle.allele_identifier.specs.Calls.{WritesAllele, IdentifiesAllele}

module _ (out : List ℕ) (place : ℕ) (l₁ l₂ : List ℕ) (r : List ℕ) (start end : ℕ) (x digest : List ℕ) where
  pub writes-allele-once : (a₁ a₂ : Result ℕ Refusal) → WritesAllele r start end x digest out place a₁ l₁
      → WritesAllele r start end x digest out place a₂ l₂ → (a₁ ≡ a₂) × (l₁ ≡ l₂)
  writes-allele-once a₁ a₂ = writes-unless-once _ _ out place a₁ a₂ l₁ l₂

  pub identifies-allele-once : (a₁ a₂ : Result Identified Refusal)
      → IdentifiesAllele r start end x digest out place a₁ l₁
      → IdentifiesAllele r start end x digest out place a₂ l₂ → (a₁ ≡ a₂) × (l₁ ≡ l₂)
  unfolding IdentifiesAllele
  identifies-allele-once a₁ a₂ = keeps-once _ _ _ _ a₁ a₂ l₁ l₂
