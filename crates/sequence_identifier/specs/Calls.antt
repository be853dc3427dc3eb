-- What the calls on sequence digests promise: the grounds of each in document 01's order, the answer, and what is left
-- in what was lent.
use Rattle.std.specs.Prelude.{ℕ, ◌+◌, ◌≡◌, List, [], ◌∷◌, ◌++◌, length, Result, Ok}
use Rattle.refusal.specs.Verdict.{Ground, verdict, tell, leave}
use Rattle.refusal.specs.Grounds.{reference_over_limit, output_too_short}
use Rattle.refusal.specs.Writes.{Writes}
use Rattle.refusal.specs.declared.Refusal.{Refusal}
use Rattle.alphabets.specs.Alphabets.{foreign_given}
use Rattle.sha512.specs.declared.Running.{Running}
use Rattle.sha512.specs.Feeding.{fed, finished}
use Rattle.digest_text.specs.Digest.{digest_text}
use Rattle.sequence_identifier.specs.Identifier.{sequence_prefix, sequence_identifier, sequence_identifier_length}

-- what is asked of a whole reference: 1, 4
abbrev pub reference_grounds : List ℕ → List Ground
reference_grounds reference = reference_over_limit (length reference) ∷ foreign_given reference ∷ []

-- its identifier: these, then 6
abbrev pub whole_grounds : List ℕ → ℕ → ℕ → List Ground
whole_grounds reference room place =
    reference_grounds reference ++ (output_too_short room place sequence_identifier_length ∷ [])

-- a part for the running digest: 1, 4
abbrev pub part_grounds : ℕ → List ℕ → List Ground
part_grounds total part = reference_over_limit (total + length part) ∷ foreign_given part ∷ []

-- its finish: 1 for a lent total over the limit, then 6
abbrev pub finish_grounds : ℕ → ℕ → ℕ → List Ground
finish_grounds total room place =
    reference_over_limit total ∷ output_too_short room place sequence_identifier_length ∷ []

-- the identifier is written from the place on, or nothing
abbrev pub Identifies : List ℕ → List ℕ → ℕ → Result ℕ Refusal → List ℕ → Type 0
Identifies reference out place =
    Writes (verdict (whole_grounds reference (length out) place)) (sequence_identifier reference) out place

-- and so is that of all that a state was fed
abbrev pub Finishes : Running → List ℕ → ℕ → Result ℕ Refusal → List ℕ → Type 0
Finishes state out place =
    Writes (verdict (finish_grounds state.total (length out) place)) (sequence_prefix ++ digest_text (finished state))
    out place

-- what is said to a part
abbrev pub part_answer : ℕ → List ℕ → Result (Unit {0}) Refusal
part_answer total part = tell (verdict (part_grounds total part)) tt

-- the state goes on with the part, or stays
abbrev pub feeding : Running → List ℕ → Running
feeding state part = leave (verdict (part_grounds state.total part)) state (fed state part)

-- the state after several parts, one after another
abbrev pub feeding_all : Running → List (List ℕ) → Running
feeding_all state [] = state
feeding_all state (part ∷ parts) = feeding_all (feeding state part) parts

-- none of them was refused
abbrev pub AllTaken : Running → List (List ℕ) → Type 0
AllTaken state [] = Unit {0}
AllTaken state (part ∷ parts) = (part_answer state.total part ≡ Ok tt) × AllTaken (feeding state part) parts
