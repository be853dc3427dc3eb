-- What the tests before a new form's entry answer.
use Rattle.std.specs.Prelude.{ℕ, List, Result}
use Rattle.refusal.specs.declared.Refusal.{Refusal}
use Rattle.refusal.specs.Verdict.{verdict, tell}
use Rattle.form_entry.specs.Calls.{new_grounds}

-- of a new number, for so many residues
abbrev pub new_answer : List ℕ → ℕ → Result (Unit {0}) Refusal
new_answer b residues = tell (verdict (new_grounds b residues)) tt
