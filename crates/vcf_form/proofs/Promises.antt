-- The call has one answer and leaves one content of the lent buffer, and no byte behind ALT matters to it.
use Prim.Native.Nat.{ℕ}
use native.Mathlib.Omega.{arith}
use mathlib.Core.Path.{◌≡◌}
use mathlib.Core.List.{List}
use Rattle.std.specs.Prelude.{Result}
use Rattle.refusal.specs.declared.Refusal.{Refusal}
use Rattle.refusal.proofs.Keeps.{keeps-once}
use Rattle.normal_form_calls.specs.declared.Formed.{Formed}
use Rattle.vcf_line.proofs.Behind.{Alike, column-alike, line_grounds-alike}
use Rattle.vcf_form.specs.Calls.{vcf_grounds, VcfForms}

module _ (r : List ℕ) (alternate : ℕ) (out : List ℕ) (place : ℕ) where
  pub vcf-forms-once : (line : List ℕ) (a₁ a₂ : Result Formed Refusal) (l₁ l₂ : List ℕ)
      → VcfForms r line alternate out place a₁ l₁ → VcfForms r line alternate out place a₂ l₂
      → (a₁ ≡ a₂) × (l₁ ≡ l₂)
  vcf-forms-once line a₁ a₂ l₁ l₂ p q = keeps-once _ _ _ _ a₁ a₂ l₁ l₂ p q

  pub vcf-forms-alike : (one other : List ℕ) → Alike one other → (answer : Result Formed Refusal) (left : List ℕ)
      → VcfForms r one alternate out place answer left → VcfForms r other alternate out place answer left
  unfolding vcf_grounds
  vcf-forms-alike one other e answer left p =
      rw (
        line_grounds-alike one other e r,
        column-alike one other e 1 (omega arith),
        column-alike one other e 3 (omega arith),
        column-alike one other e 4 (omega arith),
      ) at p
