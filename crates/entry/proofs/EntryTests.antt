-- What the answers of the tests of an entry tell, and the entry after them.
use Prim.Native.Nat.{ℕ, ◌+◌}
use mathlib.Core.Path.{◌≡◌, refl, subst}
use mathlib.Core.Bool.{true, false}
use mathlib.Core.List.{List, [], ◌∷◌}
use lib.Dec.{ltb}
use Rattle.std.specs.Prelude.{Result, Ok, Err}
use borrow.Author.Tests.{not-false}
use Rattle.stretch.specs.Same.{same}
use Rattle.stretch.specs.Common.{lcp, lcs}
use Rattle.stretch.proofs.Cases.{by_cases}
use Rattle.refusal.specs.declared.Refusal.{Refusal}
use Rattle.refusal.specs.declared.Reason.TheVariants.{UnchangedAllele}
use Rattle.refusal.specs.Verdict.{Ground, accepted, verdict}
use Rattle.refusal.proofs.Verdict.{none-holds, verdict-first, verdict-then, verdict-fewer}
use Rattle.refusal.proofs.Verdict.{told-accepted, told-refused}
use Rattle.normal_form.specs.declared.Kind.{Kind}
use Rattle.normal_form.specs.declared.Kind.TheVariants.{Unchanged, Substitution, Indel}
use Rattle.normal_form.specs.declared.Stretches.{Stretches}
use Rattle.normal_form.specs.Form.{Normal, normal, altered, shorter, kind_of, kind_in}
use Rattle.normal_form.specs.Stretches.{Fits, stretches_of, as_given, changed_stretches, spread, form_in}
use Rattle.normal_form.proofs.Join.{stretches-fit, stretches-join}
use Rattle.moved.specs.Moved.{moved_by, moved_in}
use Rattle.moved.proofs.Ends.{stretches-moved}
use Rattle.normal_form_calls.specs.Calls.{form_grounds, located_clean}
use Rattle.normal_form_calls.proofs.Answers.{clean-accepted, clean-refused, clean-allele}
use Rattle.image.specs.Formed.{well_formed}
use Rattle.refusal.proofs.Keeps.{keeps-refused, keeps-as}
use Rattle.form_entry.specs.declared.Entered.{Entered}
use Rattle.form_entry.specs.Found.{found}
use Rattle.form_entry.specs.Calls.{room_grounds, EntersAs, EntersForm}
use Rattle.entry.specs.Inner.{unchanged, image_answer, change_answer, EntersAllele}
use Rattle.entry.specs.Calls.{image_grounds, unchanged_allele, change_grounds, entry_grounds, Enters}

-- the kinds that 12 is not about
pub unchanged-not : (k : Kind) → (k ≡ Unchanged → ⊥) → unchanged k ≡ false
unchanged-not Unchanged h = absurd (h refl)
unchanged-not Substitution h = refl
unchanged-not Indel h = refl

-- 12 after 1 to 5
module _ (r : List ℕ) (start end : ℕ) (x : List ℕ) where
  unchanged-same : unchanged (stretches_of r start end x).kind ≡ same r (altered r start end x)
  unfolding stretches_of as_given changed_stretches spread kind_of kind_in
  unchanged-same =
      let t = altered r start end x in
      by_cases (same r t)
      (λ e. rw e)
      (λ e. rw e (by_cases (ltb (lcp r t + lcs r t) (shorter r t)) (λ k. rw k) (λ k. rw k)))

  abbrev twelve : List Ground
  twelve = unchanged_allele r start end x ∷ []

  module _ (w : Stretches) (e : Ok w ≡ located_clean r start end x) where
    same_kind : unchanged w.kind ≡ same r (altered r start end x)
    same_kind = rw (clean-accepted r start end x w e).1 unchanged-same

    by-twelve : verdict (change_grounds r start end x) ≡ verdict twelve
    unfolding change_grounds
    by-twelve = verdict-then (form_grounds r start end x) twelve (clean-accepted r start end x w e).0

    pub change-none : unchanged w.kind ≡ true
        → Err (record { reason = UnchangedAllele; value = 0 }) ≡ change_answer r start end x
    change-none t = rw (by-twelve, ← same_kind, t)

    pub change-found : unchanged w.kind ≡ false → Ok w ≡ change_answer r start end x
    change-found t = rw (by-twelve, ← same_kind, t, (clean-accepted r start end x w e).1)

  pub change-unfound : (why : Refusal) → Err why ≡ located_clean r start end x
      → Err why ≡ change_answer r start end x
  unfolding change_grounds
  change-unfound why e = rw (verdict-first (form_grounds r start end x) twelve why (clean-refused r start end x why e))

  -- an allele that the tests let through, and one that they do not
  module _ (w : Stretches) (e : Ok w ≡ change_answer r start end x) where
    told : (verdict (change_grounds r start end x) ≡ accepted) × (w ≡ stretches_of r start end x)
    told = told-accepted (verdict (change_grounds r start end x)) (stretches_of r start end x) w e

    clean : verdict (form_grounds r start end x) ≡ accepted
    unfolding change_grounds
    clean = verdict-fewer (form_grounds r start end x) twelve told.0

    pub change-fits : Fits r x w
    change-fits = rw told.1 (stretches-fit r start end x (clean-allele r start end x clean))

    form : form_in r x w ≡ normal r start end x
    form = rw told.1 (stretches-join r start end x (clean-allele r start end x clean))

    moves : moved_in w ≡ moved_by r start end x
    moves = rw told.1 (stretches-moved r start end x (clean-allele r start end x clean))

    pub enters-allele : (b : List ℕ) (answer : Result Entered Refusal) (left : List ℕ)
        → EntersForm b (form_in r x w) (moved_in w) answer left → EntersAllele b r start end x answer left
    unfolding EntersForm EntersAllele
    enters-allele b answer left p =
        let room = room_grounds b (normal r start end x) (found b (normal r start end x)) in
        keeps-as _ _ _ _ (verdict room) _ _ (verdict-then (change_grounds r start end x) room told.0)
        (subst (λ (g : Normal). EntersAs b g (moved_by r start end x) (found b g) answer left) form (rw moves at p))

  pub enters-no-allele : (b : List ℕ) (why : Refusal) → Err why ≡ change_answer r start end x
      → EntersAllele b r start end x (Err why) b
  unfolding EntersAllele
  enters-no-allele b why e =
      keeps-refused _ _ _ _ why (verdict-first (change_grounds r start end x) _ why
      (told-refused (verdict (change_grounds r start end x)) (stretches_of r start end x) why e))

  -- the image's grounds before the allele's
  module _ (b digest : List ℕ) where
    pub enters_on : (answer : Result Entered Refusal) (left : List ℕ) (u : Unit {0}) → Ok u ≡ image_answer b digest r
        → EntersAllele b r start end x answer left → Enters b digest r start end x answer left
    unfolding EntersAllele Enters entry_grounds
    enters_on answer left u e p =
        keeps-as _ _ _ _ _ _ _ (verdict-then (image_grounds b digest r) _ (told-accepted _ tt u e).0) p

    pub enters-nothing : (why : Refusal) → Err why ≡ image_answer b digest r
        → Enters b digest r start end x (Err why) b
    unfolding Enters entry_grounds
    enters-nothing why e =
        keeps-refused _ _ _ _ why (verdict-first (image_grounds b digest r) _ why (told-refused _ tt why e))

pub image-formed : (b digest r : List ℕ) (u : Unit {0}) → Ok u ≡ image_answer b digest r → well_formed b ≡ true
unfolding image_grounds
image-formed b digest r u e =
    not-false (well_formed b) (none-holds (image_grounds b digest r) (told-accepted _ tt u e).0 0)
