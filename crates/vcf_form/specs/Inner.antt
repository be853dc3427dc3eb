-- What the code's inner functions promise each other.
use Rattle.std.specs.Prelude.{ℕ, ◌≤◌, ◌≡◌, true, List, ◌∷◌, length, Result}
use Rattle.stretch.specs.Class.{every}
use Rattle.stretch.specs.Part.{part}
use Rattle.refusal.specs.Limits.{reference_limit}
use Rattle.refusal.specs.declared.Refusal.{Refusal}
use Rattle.refusal.specs.Verdict.{verdict}
use Rattle.alphabets.specs.Alphabets.{letter}
use Rattle.normal_form.specs.Form.{normal}
use Rattle.moved.specs.Moved.{moved_by}
use Rattle.normal_form_calls.specs.declared.Formed.{Formed}
use Rattle.normal_form_calls.specs.Calls.{normal_grounds, Forms}
use Rattle.upper_case.specs.Upper.{folded}
use Rattle.vcf_line.specs.Calls.{no_alternate}

-- an interval of a reference that has letters there
pub record OfLetters (r : List ℕ) (start end : ℕ) : Type 0 where
  pub small : length r ≤ reference_limit
  pub ordered : start ≤ end
  pub inside : end ≤ length r
  pub letters : every letter (part r start end) ≡ true

-- 21 and what follows it, of what is named at a place
abbrev pub FormsNamed : List ℕ → ℕ → ℕ → List ℕ → ℕ → List ℕ → ℕ → Result Formed Refusal → List ℕ → Type 0
FormsNamed r start end named alternate out place =
    Forms (verdict (no_alternate named alternate ∷ normal_grounds r start end (folded named) (length out) place))
    (normal r start end (folded named)) (moved_by r start end (folded named)) out place
