-- From what is named at a place of ALT to the line: what each answer promises.
use Prim.Native.Nat.{ℕ, ◌<◌, ◌≤◌}
use native.Mathlib.Omega.{arith}
use mathlib.Core.Path.{◌≡◌, refl, ◌∙◌, sym, ap}
use mathlib.Core.Bool.{true, false}
use mathlib.Core.List.{List}
use lib.ListN.{length}
use Rattle.stretch.specs.Part.{part}
use Rattle.std.specs.Prelude.{Result, Ok, Err}
use Rattle.refusal.specs.declared.Reason.TheVariants.{OverLimit, NoAlternate}
use Rattle.refusal.specs.declared.Refusal.{Refusal}
use Rattle.refusal.specs.Limits.{replacement_limit}
use Rattle.refusal.proofs.Keeps.{keeps-refused, keeps-as}
use Rattle.refusal.proofs.Verdict.{verdict-first, verdict-then}
use Rattle.fields.specs.Cut.{parted}
use Rattle.normal_form.specs.Stretches.{stretches_of}
use Rattle.normal_form_calls.specs.declared.Formed.{Formed}
use Rattle.normal_form_calls.specs.Calls.{Lays}
use Rattle.upper_case.specs.Upper.{folded, lettered}
use Rattle.vcf_line.specs.declared.Site.{Site}
use Rattle.vcf_line.specs.Line.{comma, at_place}
use Rattle.vcf_line.specs.Calls.{line_grounds}
use Rattle.vcf_line.specs.Inner.{sited}
use Rattle.vcf_line.proofs.Answers.{site-is, site-passed, site-refused, site-alternates}
use Rattle.vcf_line.proofs.Stands.{stands-small, stands-inside, stands-letters}
use Rattle.vcf_form.specs.Calls.{named_at, vcf_grounds, VcfForms}
use Rattle.vcf_form.specs.Inner.{OfLetters, FormsNamed}
use Rattle.vcf_form.proofs.Passed.{named-over, named-lays}

module _ (r : List ℕ) (start end : ℕ) (named : List ℕ) (alternate : ℕ) (out : List ℕ) (place : ℕ) where
  -- 21
  pub named-unlettered : lettered named ≡ false
      → FormsNamed r start end named alternate out place (Err (record { reason = NoAlternate; value = alternate })) out
  named-unlettered h = keeps-refused _ _ _ _ (record { reason = NoAlternate; value = alternate }) (rw h refl)

  module _ (on : OfLetters r start end) (h : lettered named ≡ true) where
    -- 1
    pub named-long : replacement_limit < length named
        → FormsNamed r start end named alternate out place (Err (record { reason = OverLimit; value = 1 })) out
    named-long l =
        keeps-refused _ _ _ _ (record { reason = OverLimit; value = 1 })
        (rw h (named-over r start end named on h (length out) place l))

    -- 6, or the form
    pub named-formed : length named ≤ replacement_limit → (answer : Result Formed Refusal) (left : List ℕ)
        → Lays r (folded named) (stretches_of r start end (folded named)) out place answer left
        → FormsNamed r start end named alternate out place answer left
    named-formed l answer left p = rw h (named-lays r start end named on h l out place answer left p)

module _ (r line : List ℕ) (s : Site) (e : Ok s ≡ sited r line) where
  -- a site that is read has letters there
  pub site-letters : OfLetters r s.start.0 s.end.0
  site-letters =
      let v = site-passed r line s e in
      rw (site-is r line s e)
      (record {
        small = stands-small r line v;
        ordered = omega arith;
        inside = stands-inside r line v;
        letters = stands-letters r line v;
      })

  -- what is named in its alternates is named in the line
  pub site-named : (alternate : ℕ) (alts named : List ℕ)
      → alts ≡ part line s.alternates.from s.alternates.to
      → named ≡ at_place (parted comma alts) alternate → named ≡ named_at line alternate
  site-named alternate alts named d n =
      n ∙ ap (λ (l : List ℕ). at_place (parted comma l) alternate) (d ∙ sym (site-alternates r line s e).piece)

  pub site-formed : (alternate : ℕ) (named out : List ℕ) (place : ℕ) (answer : Result Formed Refusal) (left : List ℕ)
      → named ≡ named_at line alternate
      → FormsNamed r s.start.0 s.end.0 named alternate out place answer left
      → VcfForms r line alternate out place answer left
  unfolding vcf_grounds
  site-formed alternate named out place answer left n p =
      keeps-as _ _ _ _ _ answer left (verdict-then (line_grounds r line) _ (site-passed r line s e))
      (rw (n, site-is r line s e) at p)

pub site-unformed : (r line : List ℕ) (why : Refusal) (alternate : ℕ) (out : List ℕ) (place : ℕ)
    → Err why ≡ sited r line → VcfForms r line alternate out place (Err why) out
unfolding vcf_grounds
site-unformed r line why alternate out place e =
    keeps-refused _ _ _ _ why (verdict-first (line_grounds r line) _ why (site-refused r line why e))
