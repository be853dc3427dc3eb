-- Each call has one answer.
use Prim.Native.Nat.{ℕ}
use mathlib.Core.Path.{◌≡◌}
use mathlib.Core.List.{List}
use Rattle.std.specs.Prelude.{Result}
use Rattle.refusal.specs.declared.Refusal.{Refusal}
use Rattle.refusal.proofs.Unique.{one_answer}
use Rattle.vcf_line.specs.declared.Site.{Site}
use Rattle.vcf_line.specs.Calls.{counted}
use Rattle.vcf_line.specs.Inner.{sited}

pub counts-once : (r line : List ℕ) (a₁ a₂ : Result ℕ Refusal) → a₁ ≡ counted r line → a₂ ≡ counted r line → a₁ ≡ a₂
counts-once r line a₁ a₂ p q = one_answer p q

pub sites-once : (r line : List ℕ) (a₁ a₂ : Result Site Refusal) → a₁ ≡ sited r line → a₂ ≡ sited r line → a₁ ≡ a₂
sites-once r line a₁ a₂ p q = one_answer p q
