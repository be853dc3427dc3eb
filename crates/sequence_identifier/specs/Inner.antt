-- What the tests of a whole reference and of a finish answer.
use Rattle.std.specs.Prelude.{ℕ, List, Result}
use Rattle.refusal.specs.Verdict.{verdict, tell}
use Rattle.refusal.specs.declared.Refusal.{Refusal}
use Rattle.sequence_identifier.specs.Calls.{whole_grounds, finish_grounds}

unfoldable pub whole_answer : List ℕ → ℕ → ℕ → Result (Unit {0}) Refusal
whole_answer reference room place = tell (verdict (whole_grounds reference room place)) tt

unfoldable pub finish_answer : ℕ → ℕ → ℕ → Result (Unit {0}) Refusal
finish_answer total room place = tell (verdict (finish_grounds total room place)) tt
