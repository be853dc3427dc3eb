-- What the calls on normal forms promise: the grounds of each in document 01's order, the answer, and what is left in
-- what was lent.
use Rattle.std.specs.Prelude.{ℕ, List, [], ◌∷◌, ◌++◌, length, Result}
use Rattle.stretch.specs.Over.{over}
use Rattle.refusal.specs.declared.Refusal.{Refusal}
use Rattle.refusal.specs.Verdict.{Ground, Verdict, verdict, tell}
use Rattle.refusal.specs.Grounds.{reference_over_limit, replacement_over_limit, start_above_end, end_above_reference}
use Rattle.refusal.specs.Grounds.{output_too_short}
use Rattle.refusal.specs.Keeps.{Keeps}
use Rattle.alphabets.specs.Alphabets.{foreign_given, foreign_normal}
use Rattle.normal_form.specs.declared.Stretches.{Stretches}
use Rattle.normal_form.specs.Form.{Normal, normal}
use Rattle.normal_form.specs.Stretches.{joined, joined_length, stretches_of, form_in}
use Rattle.moved.specs.declared.Moved.{Moved}
use Rattle.moved.specs.Moved.{moved_by, moved_in}
use Rattle.normal_form_calls.specs.declared.Form.{Form}
use Rattle.normal_form_calls.specs.declared.Formed.{Formed}

-- an allele as given: 1, 2, 3, 4
abbrev pub given_grounds : List ℕ → ℕ → ℕ → List ℕ → List Ground
given_grounds r start end x =
    reference_over_limit (length r)
    ∷ replacement_over_limit (length x)
    ∷ start_above_end start end
    ∷ end_above_reference (length r) end
    ∷ foreign_given x
    ∷ []

-- 1, 2, 3, 4, 5
unfoldable pub form_grounds : List ℕ → ℕ → ℕ → List ℕ → List Ground
form_grounds r start end x = given_grounds r start end x ++ (foreign_normal (normal r start end x).replacement ∷ [])

-- the normal form: 1, 2, 3, 4, 5, 6
unfoldable pub normal_grounds : List ℕ → ℕ → ℕ → List ℕ → ℕ → ℕ → List Ground
normal_grounds r start end x room place =
    form_grounds r start end x ++ (output_too_short room place (length (normal r start end x).replacement) ∷ [])

-- what the tests 1 to 4 answer
abbrev pub given_answer : List ℕ → ℕ → ℕ → List ℕ → Result (Unit {0}) Refusal
given_answer r start end x = tell (verdict (given_grounds r start end x)) tt

-- where a normal form lies, by 1 to 4 alone, and by 1 to 5
abbrev pub located : List ℕ → ℕ → ℕ → List ℕ → Result Stretches Refusal
located r start end x = tell (verdict (given_grounds r start end x)) (stretches_of r start end x)

abbrev pub located_clean : List ℕ → ℕ → ℕ → List ℕ → Result Stretches Refusal
located_clean r start end x =
    tell (verdict (form_grounds r start end x)) (stretches_of r start end x)

-- 5 alone, of stretches that are found
abbrev pub cleanly : List ℕ → List ℕ → Stretches → Result Stretches Refusal
cleanly r x w = tell (verdict (foreign_normal (joined r x w) ∷ [])) w

-- a normal form's numbers, as the call answers them
abbrev pub numbers_of : Normal → Form
numbers_of f = record { kind = f.kind; start = f.start; end = f.end; length = length f.replacement }

-- the same by the stretches that hold it
abbrev pub form_of : Stretches → Form
form_of w = record { kind = w.kind; start = w.start; end = w.end; length = joined_length w }

-- the form is answered, with how far it moved, and its replacement stands in the buffer from the place on, or the
-- buffer is as it was
abbrev pub Forms : Verdict → Normal → Moved → List ℕ → ℕ → Result Formed Refusal → List ℕ → Type 0
Forms v f m out place = Keeps v (record { form = numbers_of f; moved = m }) out (over out place f.replacement)

-- 6 alone, of stretches that are found
abbrev pub Lays : List ℕ → List ℕ → Stretches → List ℕ → ℕ → Result Formed Refusal → List ℕ → Type 0
Lays r x w out place =
    Forms (verdict (output_too_short (length out) place (length (joined r x w)) ∷ [])) (form_in r x w) (moved_in w) out
    place

-- what `normal_form` promises
abbrev pub Normalises : List ℕ → ℕ → ℕ → List ℕ → List ℕ → ℕ → Result Formed Refusal → List ℕ → Type 0
Normalises r start end x out place =
    Forms (verdict (normal_grounds r start end x (length out) place)) (normal r start end x)
    (moved_by r start end x) out
    place
