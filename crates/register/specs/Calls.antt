-- What withdrawal, undo and seal promise: the grounds of each in document 01's order, the answer, and what is left of
-- the image.
use Rattle.std.specs.Prelude.{ℕ, List, [], ◌∷◌, ◌++◌, Result}
use Rattle.refusal.specs.Verdict.{Ground, verdict}
use Rattle.refusal.specs.declared.Refusal.{Refusal}
use Rattle.changes.specs.Changes.{withdrawn, latest, undone, sealed}
use Rattle.refusal.specs.Keeps.{Keeps}
use Rattle.changes.specs.Grounds.{not_well_formed, no_journal_room, number_not_active, nothing_to_undo}
use Rattle.record_reader.specs.Calls.{number_grounds}

-- withdrawal: 10, 16, 17, 15
unfoldable pub active_grounds : List ℕ → ℕ → List Ground
active_grounds b i = number_not_active b i ∷ no_journal_room b ∷ []

unfoldable pub withdrawal_grounds : List ℕ → ℕ → List Ground
withdrawal_grounds b i = number_grounds b i ++ active_grounds b i

unfoldable pub Withdraws : List ℕ → ℕ → Result (Unit {0}) Refusal → List ℕ → Type 0
Withdraws b i = Keeps (verdict (withdrawal_grounds b i)) tt b (withdrawn b i)

-- undo: 10, 18
unfoldable pub undo_grounds : List ℕ → List Ground
undo_grounds b = not_well_formed b ∷ nothing_to_undo b ∷ []

unfoldable pub Undoes : List ℕ → Result ℕ Refusal → List ℕ → Type 0
Undoes b = Keeps (verdict (undo_grounds b)) (latest b) b (undone b)

-- seal: 10
unfoldable pub Seals : List ℕ → Result (Unit {0}) Refusal → List ℕ → Type 0
Seals b = Keeps (verdict (not_well_formed b ∷ [])) tt b (sealed b)
