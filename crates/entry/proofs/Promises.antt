-- An entry has one answer and leaves one image.
use Prim.Native.Nat.{ℕ}
use mathlib.Core.Path.{◌≡◌}
use mathlib.Core.List.{List}
use Rattle.std.specs.Prelude.{Result}
use Rattle.refusal.specs.declared.Refusal.{Refusal}
use Rattle.refusal.proofs.Keeps.{keeps-once}
use Rattle.form_entry.specs.declared.Entered.{Entered}
use Rattle.entry.specs.Calls.{Enters}

pub enters-once : (b l₁ l₂ : List ℕ) (a₁ a₂ : Result Entered Refusal) (digest r : List ℕ) (start end : ℕ) (x : List ℕ)
    → Enters b digest r start end x a₁ l₁ → Enters b digest r start end x a₂ l₂ → (a₁ ≡ a₂) × (l₁ ≡ l₂)
unfolding Enters
enters-once b l₁ l₂ a₁ a₂ digest r start end x = keeps-once _ _ _ _ a₁ a₂ l₁ l₂
