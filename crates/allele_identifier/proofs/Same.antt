-- Changed alleles on one reference and digest have one text exactly where they have one altered sequence, but for a
-- collision: two location texts with one digest.
use Prim.Native.Nat.{ℕ}
use native.Mathlib.Omega.{arith}
use mathlib.Core.Logic.{◌⊎◌, inl, inr}
use mathlib.Core.Path.{◌≡◌, refl, ◌∙◌, sym, ap}
use mathlib.Core.Bool.{false}
use mathlib.Core.List.{List}
use Rattle.stretch.specs.Same.{same}
use Rattle.stretch.proofs.Cases.{by_cases}
use Rattle.stretch.proofs.Same.{same-eq, same-apart}
use Rattle.normal_form.specs.Form.{Allele, Normal, altered, normal}
use Rattle.normal_form.proofs.Laws.{normal-ordered, normal-inside, one-altered, one_form}
use Rattle.text.specs.Layout.{location_text}
use Rattle.text.proofs.Layouts.{allele-same}
use Rattle.words.specs.Vocabulary.{Digest}
use Rattle.text_reader.specs.Accepted.{LocationText}
use Rattle.text_reader.proofs.LocationTexts.{location-start, location-end}
use Rattle.digest_text.specs.Digest.{sha512t24u}
use Rattle.digest_text.proofs.Encoding.{length-sha512t24u}
use Rattle.allele_identifier.specs.Identifier.{text_of, Collision}

module _ (r : List ℕ) (s₁ e₁ : ℕ) (x₁ : List ℕ) (s₂ e₂ : ℕ) (x₂ digest : List ℕ) where
  abbrev one : Normal
  one = normal r s₁ e₁ x₁

  abbrev other : Normal
  other = normal r s₂ e₂ x₂

  abbrev place : Normal → List ℕ
  place f = location_text f.start f.end digest

  pub one-text : same r (altered r s₁ e₁ x₁) ≡ false → altered r s₁ e₁ x₁ ≡ altered r s₂ e₂ x₂
      → text_of one digest ≡ text_of other digest
  one-text h e = ap (λ (f : Normal). text_of f digest) (one_form r s₁ e₁ x₁ s₂ e₂ x₂ h e)

  parts : text_of one digest ≡ text_of other digest → (sha512t24u (place one) ≡ sha512t24u (place other))
      × (one.replacement ≡ other.replacement)
  unfolding text_of
  parts e =
      allele-same (sha512t24u (place one)) (sha512t24u (place other)) one.replacement other.replacement
      (length-sha512t24u (place one) ∙ sym (length-sha512t24u (place other))) e

  module _ (a₁ : Allele r s₁ e₁ x₁) (a₂ : Allele r s₂ e₂ x₂) (d : Digest digest) where
    located : (start end : ℕ) (x : List ℕ) → Allele r start end x → (text : List ℕ)
        → text ≡ place (normal r start end x) → LocationText text
    located start end x a text e =
        record {
          start = (normal r start end x).start;
          end = (normal r start end x).end;
          digest = digest;
          ordered = normal-ordered r start end x a.ordered;
          inside = omega (arith, normal-inside r start end x a.inside, a.reference);
          digests = d;
          laid = e;
        }

    -- alleles of one text
    pub same_text : text_of one digest ≡ text_of other digest → (altered r s₁ e₁ x₁ ≡ altered r s₂ e₂ x₂)
        ⊎ Collision (place one) (place other)
    unfolding located
    same_text e =
        by_cases (same (place one) (place other))
        (λ t. let q = same-eq (place one) (place other) t in
        let l = located s₁ e₁ x₁ a₁ (place one) refl in
        let m = located s₂ e₂ x₂ a₂ (place one) q in
        inl (one-altered r s₁ e₁ x₁ s₂ e₂ x₂ (location-start (place one) l m) (location-end (place one) l m)
        (parts e).1))
        (λ t. inr (record { apart = same-apart (place one) (place other) t; one = (parts e).0 }))
