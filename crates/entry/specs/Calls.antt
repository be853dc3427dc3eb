-- What an entry promises: its grounds in document 01's order, the answer, and what is left of the image.
use Rattle.std.specs.Prelude.{ℕ, List, [], ◌∷◌, ◌++◌, Result}
use Rattle.stretch.specs.Same.{same}
use Rattle.refusal.specs.declared.Reason.TheVariants.{UnchangedAllele}
use Rattle.refusal.specs.declared.Refusal.{Refusal}
use Rattle.refusal.specs.Verdict.{Ground, ground, verdict}
use Rattle.normal_form.specs.Form.{altered, normal}
use Rattle.moved.specs.Moved.{moved_by}
use Rattle.normal_form_calls.specs.Calls.{form_grounds}
use Rattle.refusal.specs.Keeps.{Keeps}
use Rattle.changes.specs.Grounds.{not_well_formed, other_digest, other_length}
use Rattle.form_entry.specs.declared.Entered.{Entered}
use Rattle.form_entry.specs.Found.{found, answer_of, entered}
use Rattle.form_entry.specs.Calls.{room_grounds}

-- the image, and that it is of this digest and reference: 10, 11
unfoldable pub image_grounds : List ℕ → List ℕ → List ℕ → List Ground
image_grounds b digest r = not_well_formed b ∷ other_digest b digest ∷ other_length b r ∷ []

-- 12
abbrev pub unchanged_allele : List ℕ → ℕ → ℕ → List ℕ → Ground
unchanged_allele r start end x = ground (same r (altered r start end x)) UnchangedAllele 0

-- the allele: 1, 2, 3, 4, 5, 12
unfoldable pub change_grounds : List ℕ → ℕ → ℕ → List ℕ → List Ground
change_grounds r start end x = form_grounds r start end x ++ (unchanged_allele r start end x ∷ [])

-- entry: 10, 11, 1, 2, 3, 4, 5, 12, then room
unfoldable pub entry_grounds : List ℕ → List ℕ → List ℕ → ℕ → ℕ → List ℕ → List Ground
entry_grounds b digest r start end x =
    image_grounds b digest r
    ++ (change_grounds r start end x ++ room_grounds b (normal r start end x) (found b (normal r start end x)))

-- what `entry` promises
unfoldable pub Enters : List ℕ → List ℕ → List ℕ → ℕ → ℕ → List ℕ → Result Entered Refusal → List ℕ → Type 0
Enters b digest r start end x =
    let f = normal r start end x in
    let m = moved_by r start end x in
    Keeps (verdict (entry_grounds b digest r start end x)) (answer_of (found b f) m) b (entered b f (found b f))
