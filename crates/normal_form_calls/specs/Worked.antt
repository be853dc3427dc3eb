-- Document 01, "Worked alleles", as calls.
use Rattle.std.specs.Prelude.{ℕ, ◌+◌, ◌≤◌, ◌≡◌, List, [], ◌∷◌, length, Result, Ok}
use Rattle.refusal.specs.declared.Refusal.{Refusal}
use Rattle.stretch.specs.Over.{over}
use Rattle.normal_form.specs.Worked.{Case}
use Rattle.moved.specs.declared.Moved.{Moved}
use Rattle.moved.specs.Moved.{moved, interval, interval_of, by}
use Rattle.normal_form_calls.specs.declared.Formed.{Formed}
use Rattle.normal_form_calls.specs.Calls.{numbers_of, Normalises}

-- the table's form, and how far it moved
abbrev pub how_far : Case → Moved
how_far c = moved (interval c.start c.end) (interval_of c.answer)

abbrev pub answer_to : Case → Result Formed Refusal
answer_to c = Ok (record { form = numbers_of c.answer; moved = how_far c })

-- what `normal_form` promises of a case
abbrev pub Promised : Case → List ℕ → ℕ → Result Formed Refusal → List ℕ → Type 0
Promised c = Normalises c.reference c.start c.end c.replacement

-- the promise is met by the table's form, with its replacement laid from the place on, and by nothing else
pub record Works (c : Case) (out : List ℕ) (place : ℕ) : Type 0 where
  pub met : Promised c out place (answer_to c) (over out place c.answer.replacement)
  pub only : (answer : Result Formed Refusal) (left : List ℕ) → Promised c out place answer left
      → (answer ≡ answer_to c) × (left ≡ over out place c.answer.replacement)

-- each case works, in any buffer and at any place with room for it
abbrev pub AllWork : List Case → Type 0
AllWork [] = Unit {0}
AllWork (c ∷ cs) =
    ((out : List ℕ) (place : ℕ) → place + length c.answer.replacement ≤ length out → Works c out place) × AllWork cs

-- how far each form of the table moved
abbrev pub distances : List Moved
distances =
    by 3 0 6 0
    ∷ by 0 0 8 0
    ∷ by 0 0 6 0
    ∷ by 0 0 0 0
    ∷ by 0 1 0 2
    ∷ by 0 0 0 0
    ∷ by 0 0 1 0
    ∷ by 0 0 0 0
    ∷ by 0 0 0 0
    ∷ by 0 0 0 0
    ∷ by 0 0 0 0
    ∷ by 0 0 0 0
    ∷ []
