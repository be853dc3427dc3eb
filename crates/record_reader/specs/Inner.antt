-- What the test of a number answers.
use Rattle.std.specs.Prelude.{ℕ, List, Result}
use Rattle.refusal.specs.Verdict.{verdict, tell}
use Rattle.refusal.specs.declared.Refusal.{Refusal}
use Rattle.record_reader.specs.Calls.{number_grounds}

abbrev pub number_answer : List ℕ → ℕ → Result (Unit {0}) Refusal
number_answer b i = tell (verdict (number_grounds b i)) tt
