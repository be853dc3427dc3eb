-- What the functions after a blank's tests promise.
use Rattle.std.specs.Prelude.{ℕ, List, Result}
use Rattle.refusal.specs.Verdict.{verdict, tell}
use Rattle.refusal.specs.declared.Refusal.{Refusal}
use Rattle.blank.specs.Calls.{capacity_grounds, blank_grounds}

-- 9 alone, and all of its grounds
abbrev pub capacity_answer : ℕ → ℕ → ℕ → ℕ → Result (Unit {0}) Refusal
capacity_answer room records journal pool = tell (verdict (capacity_grounds room records journal pool)) tt

abbrev pub blank_answer : ℕ → ℕ → List ℕ → ℕ → ℕ → ℕ → Result (Unit {0}) Refusal
blank_answer room n digest records journal pool =
    tell (verdict (blank_grounds room n digest records journal pool)) tt
