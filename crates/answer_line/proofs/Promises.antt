-- The call has one answer, and leaves one content of what was lent.
use Prim.Native.Nat.{ℕ}
use mathlib.Core.Path.{◌≡◌, ◌∙◌, sym}
use mathlib.Core.List.{List}
use Rattle.stretch.specs.Over.{Wrote}
use Rattle.answer_line.specs.Answers.{answer_line}

pub answers-once : (r line out : List ℕ) (a₁ a₂ : ℕ) (l₁ l₂ : List ℕ)
    → Wrote out 0 (answer_line r line) l₁ a₁ → Wrote out 0 (answer_line r line) l₂ a₂ → (a₁ ≡ a₂) × (l₁ ≡ l₂)
answers-once r line out a₁ a₂ l₁ l₂ p q = (p.next ∙ sym q.next, p.laid ∙ sym q.laid)
