-- What the functions after the calls' tests promise.
use Rattle.std.specs.Prelude.{ℕ, List, Result}
use Rattle.refusal.specs.Verdict.{verdict, tell}
use Rattle.refusal.specs.declared.Refusal.{Refusal}
use Rattle.register.specs.Calls.{active_grounds, withdrawal_grounds, undo_grounds}

abbrev pub active_answer : List ℕ → ℕ → Result (Unit {0}) Refusal
active_answer b i = tell (verdict (active_grounds b i)) tt

abbrev pub withdrawal_answer : List ℕ → ℕ → Result (Unit {0}) Refusal
withdrawal_answer b i = tell (verdict (withdrawal_grounds b i)) tt

abbrev pub undo_answer : List ℕ → Result (Unit {0}) Refusal
undo_answer b = tell (verdict (undo_grounds b)) tt
