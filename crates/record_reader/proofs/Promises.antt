-- Each call has one answer.
use Prim.Native.Nat.{ℕ}
use mathlib.Core.Path.{◌≡◌}
use mathlib.Core.List.{List}
use Rattle.std.specs.Prelude.{Result}
use Rattle.refusal.specs.declared.Refusal.{Refusal}
use Rattle.refusal.proofs.Unique.{one_answer}
use Rattle.record_reader.specs.declared.Record.{Record}
use Rattle.record_reader.specs.Calls.{checked, record_read}

pub checks-once : (b : List ℕ) (a₁ a₂ : Result (Unit {0}) Refusal) → a₁ ≡ checked b → a₂ ≡ checked b → a₁ ≡ a₂
checks-once b a₁ a₂ p q = one_answer p q

pub reads-record-once : (b : List ℕ) (i : ℕ) (a₁ a₂ : Result Record Refusal) → a₁ ≡ record_read b i
    → a₂ ≡ record_read b i → a₁ ≡ a₂
reads-record-once b i a₁ a₂ p q = one_answer p q
