-- Each call has one answer and leaves one content of the lent buffer.
use Prim.Native.Nat.{ℕ}
use mathlib.Core.Path.{◌≡◌}
use mathlib.Core.List.{List}
use Rattle.std.specs.Prelude.{Result}
use Rattle.refusal.specs.declared.Refusal.{Refusal}
use Rattle.refusal.proofs.WritesUnless.{writes-unless-once}
use Rattle.location_identifier.specs.Calls.{WritesLocation, IdentifiesLocation}

module _ (out : List ℕ) (place : ℕ) (a₁ a₂ : Result ℕ Refusal) (l₁ l₂ : List ℕ) (n start end : ℕ)
    (digest : List ℕ) where
  pub writes-location-once : WritesLocation n start end digest out place a₁ l₁
      → WritesLocation n start end digest out place a₂ l₂ → (a₁ ≡ a₂) × (l₁ ≡ l₂)
  writes-location-once = writes-unless-once _ _ out place a₁ a₂ l₁ l₂

  pub identifies-location-once : IdentifiesLocation n start end digest out place a₁ l₁
      → IdentifiesLocation n start end digest out place a₂ l₂ → (a₁ ≡ a₂) × (l₁ ≡ l₂)
  identifies-location-once = writes-unless-once _ _ out place a₁ a₂ l₁ l₂
