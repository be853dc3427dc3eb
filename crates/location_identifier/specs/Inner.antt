-- What the tests of a location answer.
use Rattle.std.specs.Prelude.{ℕ, List, Result}
use Rattle.refusal.specs.Verdict.{verdict, tell}
use Rattle.refusal.specs.declared.Refusal.{Refusal}
use Rattle.location_identifier.specs.Calls.{location_grounds}

unfoldable pub location_answer : ℕ → ℕ → ℕ → List ℕ → Result (Unit {0}) Refusal
location_answer n start end digest = tell (verdict (location_grounds n start end digest)) tt
