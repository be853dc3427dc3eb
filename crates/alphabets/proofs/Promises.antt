-- The check of a digest text has one answer.
use Prim.Native.Nat.{ℕ}
use mathlib.Core.Path.{◌≡◌}
use mathlib.Core.List.{List}
use Rattle.std.specs.Prelude.{Result}
use Rattle.refusal.specs.declared.Refusal.{Refusal}
use Rattle.refusal.proofs.Unique.{one_answer}
use Rattle.alphabets.specs.Alphabets.{digest_text_answer}

pub checks-once : (text : List ℕ) (a₁ a₂ : Result (Unit {0}) Refusal) → a₁ ≡ digest_text_answer text
    → a₂ ≡ digest_text_answer text → a₁ ≡ a₂
checks-once text a₁ a₂ p q = one_answer p q
