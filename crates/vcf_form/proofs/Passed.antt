-- An alternate of letters in the place of letters passes the tests 2 to 5 of its allele: only its length is left to
-- test, and the room for its form.
use Prim.Native.Nat.{ℕ, ◌<◌, ◌≤◌}
use native.Mathlib.Omega.{arith}
use mathlib.Core.Path.{◌≡◌, refl}
use mathlib.Core.Bool.{true, false}
use mathlib.Core.List.{List}
use lib.Dec.{ltb}
use lib.ListN.{length}
use borrow.Author.Tests.{lt-ltb, le-ltb}
use Rattle.stretch.specs.Class.{every}
use Rattle.stretch.specs.Part.{part}
use Rattle.stretch.proofs.Outside.{first_outside-every}
use Rattle.std.specs.Prelude.{Result}
use Rattle.refusal.specs.declared.Reason.TheVariants.{OverLimit}
use Rattle.refusal.specs.declared.Refusal.{Refusal}
use Rattle.refusal.specs.Limits.{reference_limit, replacement_limit}
use Rattle.refusal.specs.Verdict.{accepted, refused, verdict}
use Rattle.alphabets.specs.Alphabets.{residue, foreign}
use Rattle.alphabets.proofs.Letters.{every-residue}
use Rattle.normal_form.specs.Form.{Allele, normal}
use Rattle.normal_form.specs.declared.Stretches.{Stretches}
use Rattle.normal_form.specs.Stretches.{Fits, stretches_of}
use Rattle.normal_form.proofs.Clean.{normal-every}
use Rattle.normal_form.proofs.Join.{stretches-fit}
use Rattle.normal_form_calls.specs.declared.Formed.{Formed}
use Rattle.normal_form_calls.specs.Calls.{form_grounds, normal_grounds, Lays, Normalises}
use Rattle.normal_form_calls.proofs.Answers.{lays-normal}
use Rattle.upper_case.specs.Upper.{folded, lettered}
use Rattle.upper_case.proofs.Folded.{length-folded}
use Rattle.upper_case.proofs.Lettered.{lettered-every}
use Rattle.vcf_form.specs.Inner.{OfLetters}

-- stretches that are found lie in range
pub found-fits : (r : List ℕ) (start end : ℕ) (x : List ℕ) (w : Stretches) → Allele r start end x
    → w ≡ stretches_of r start end x → Fits r x w
found-fits r start end x w allele e = rw e (stretches-fit r start end x allele)

none-foreign : (s : List ℕ) → every residue s ≡ true → ltb (foreign s) (length s) ≡ false
none-foreign s h = rw (first_outside-every residue s h) (le-ltb (length s) (length s) (omega arith))

module _ (r : List ℕ) (start end : ℕ) (named : List ℕ) (on : OfLetters r start end) (h : lettered named ≡ true) where
  named-residues : every residue (folded named) ≡ true
  named-residues = every-residue (folded named) (lettered-every named h)

  -- 1, of an alternate over its limit
  pub named-over : (room place : ℕ) → replacement_limit < length named
      → verdict (normal_grounds r start end (folded named) room place)
      ≡ refused (record { reason = OverLimit; value = 1 })
  unfolding normal_grounds form_grounds
  named-over room place l =
      rw (
        le-ltb reference_limit (length r) on.small,
        length-folded named,
        lt-ltb replacement_limit (length named) l,
      )

  module _ (short : length named ≤ replacement_limit) where
    pub named-allele : Allele r start end (folded named)
    named-allele =
        record {
          ordered = on.ordered;
          inside = on.inside;
          reference = on.small;
          replacement = rw (length-folded named) short;
        }

    passes : verdict (form_grounds r start end (folded named)) ≡ accepted
    unfolding form_grounds
    passes =
        rw (
          le-ltb reference_limit (length r) on.small,
          le-ltb replacement_limit (length (folded named)) named-allele.replacement,
          le-ltb end start on.ordered,
          le-ltb (length r) end on.inside,
          none-foreign (folded named) named-residues,
          none-foreign (normal r start end (folded named)).replacement
              (normal-every residue r start end (folded named) on.ordered on.inside
              (every-residue (part r start end) on.letters) named-residues),
        )

    -- then 6 alone decides
    pub named-lays : (out : List ℕ) (place : ℕ) (answer : Result Formed Refusal) (left : List ℕ)
        → Lays r (folded named) (stretches_of r start end (folded named)) out place answer left
        → Normalises r start end (folded named) out place answer left
    named-lays out place answer left p =
        lays-normal r start end (folded named) (stretches_of r start end (folded named)) out place answer left
        (rw passes refl) p
