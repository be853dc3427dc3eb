-- What the tests of an allele answer.
use Rattle.std.specs.Prelude.{ℕ, List, Result}
use Rattle.refusal.specs.Verdict.{verdict, tell}
use Rattle.refusal.specs.declared.Refusal.{Refusal}
use Rattle.normal_form.specs.declared.Stretches.{Stretches}
use Rattle.normal_form.specs.Stretches.{stretches_of}
use Rattle.allele_identifier.specs.Calls.{allele_grounds}

unfoldable pub allele_answer : List ℕ → ℕ → ℕ → List ℕ → List ℕ → Result Stretches Refusal
allele_answer r start end x digest = tell (verdict (allele_grounds r start end x digest)) (stretches_of r start end x)
