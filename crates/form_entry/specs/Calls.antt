-- What the entry of a normal form promises: room for it in document 01's order, the answer, and what is left.
use Rattle.std.specs.Prelude.{ℕ, List, [], ◌∷◌, length, Result}
use Rattle.refusal.specs.declared.Refusal.{Refusal}
use Rattle.refusal.specs.Verdict.{Ground, verdict}
use Rattle.normal_form.specs.Form.{Normal}
use Rattle.moved.specs.declared.Moved.{Moved}
use Rattle.refusal.specs.Keeps.{Keeps}
use Rattle.changes.specs.Grounds.{no_free_record, no_pool_room, no_journal_room}
use Rattle.form_entry.specs.declared.Entered.{Entered}
use Rattle.form_entry.specs.declared.Way.TheVariants.{New, Again, Known}
use Rattle.form_entry.specs.Found.{Found, ◌under◌, found, answer_of, entered}

-- room for the next number, and so many residues: 13, 14, 15
abbrev pub new_grounds : List ℕ → ℕ → List Ground
new_grounds b residues = no_free_record b ∷ no_pool_room b residues ∷ no_journal_room b ∷ []

-- room for what was found: none is asked for "known", 15 for "again", 13, 14, 15 for "new"
abbrev pub room_grounds : List ℕ → Normal → Found → List Ground
room_grounds b f (New under i) = new_grounds b (length f.replacement)
room_grounds b f (Again under i) = no_journal_room b ∷ []
room_grounds b f (Known under i) = []

-- the entry of a form that was found so
abbrev pub EntersAs : List ℕ → Normal → Moved → Found → Result Entered Refusal → List ℕ → Type 0
EntersAs b f m g = Keeps (verdict (room_grounds b f g)) (answer_of g m) b (entered b f g)

-- a form that has passed its tests, and moved so far
unfoldable pub EntersForm : List ℕ → Normal → Moved → Result Entered Refusal → List ℕ → Type 0
EntersForm b f m = EntersAs b f m (found b f)
