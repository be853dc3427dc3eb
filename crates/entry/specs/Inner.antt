-- What the functions after an entry's tests promise.
use Rattle.std.specs.Prelude.{ℕ, Bool, true, false, List, ◌++◌, Result}
use Rattle.refusal.specs.Verdict.{verdict, tell}
use Rattle.refusal.specs.declared.Refusal.{Refusal}
use Rattle.normal_form.specs.declared.Kind.{Kind}
use Rattle.normal_form.specs.declared.Stretches.{Stretches}
use Rattle.normal_form.specs.declared.Kind.TheVariants.{Unchanged, Substitution, Indel}
use Rattle.normal_form.specs.Form.{normal}
use Rattle.normal_form.specs.Stretches.{stretches_of}
use Rattle.moved.specs.Moved.{moved_by}
use Rattle.refusal.specs.Keeps.{Keeps}
use Rattle.form_entry.specs.declared.Entered.{Entered}
use Rattle.form_entry.specs.Found.{found, answer_of, entered}
use Rattle.form_entry.specs.Calls.{room_grounds}
use Rattle.entry.specs.Calls.{image_grounds, change_grounds}

-- the kind that 12 is about
abbrev pub unchanged : Kind → Bool
unchanged Unchanged = true
unchanged Substitution = false
unchanged Indel = false

-- what the tests of the image answer, and those of the allele
abbrev pub image_answer : List ℕ → List ℕ → List ℕ → Result (Unit {0}) Refusal
image_answer b digest r = tell (verdict (image_grounds b digest r)) tt

abbrev pub change_answer : List ℕ → ℕ → ℕ → List ℕ → Result Stretches Refusal
change_answer r start end x = tell (verdict (change_grounds r start end x)) (stretches_of r start end x)

-- the entry of an allele, on an image that has passed
unfoldable pub EntersAllele : List ℕ → List ℕ → ℕ → ℕ → List ℕ → Result Entered Refusal → List ℕ → Type 0
EntersAllele b r start end x =
    let f = normal r start end x in
    let m = moved_by r start end x in
    Keeps (verdict (change_grounds r start end x ++ room_grounds b f (found b f))) (answer_of (found b f) m) b
    (entered b f (found b f))
