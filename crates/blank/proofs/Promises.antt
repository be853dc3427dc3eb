-- A blank has one answer and leaves one image.
use Prim.Native.Nat.{ℕ}
use mathlib.Core.Path.{◌≡◌}
use mathlib.Core.List.{List}
use Rattle.std.specs.Prelude.{Result}
use Rattle.refusal.specs.declared.Refusal.{Refusal}
use Rattle.refusal.proofs.Keeps.{keeps-once}
use Rattle.blank.specs.Calls.{Blanks}

pub blanks-once : (b l₁ l₂ : List ℕ) (a₁ a₂ : Result (Unit {0}) Refusal) (n : ℕ) (digest : List ℕ)
    (records journal pool : ℕ)
    → Blanks b n digest records journal pool a₁ l₁ → Blanks b n digest records journal pool a₂ l₂ → (a₁ ≡ a₂)
    × (l₁ ≡ l₂)
blanks-once b l₁ l₂ a₁ a₂ n digest records journal pool = keeps-once _ _ _ _ a₁ a₂ l₁ l₂
