-- What the normal form is for: it makes the altered sequence, and one altered sequence has one form.
use Prim.Native.Nat.{ℕ, ◌+◌, ◌-◌, ◌≤◌}
use native.Mathlib.Omega.{arith}
use mathlib.Core.Path.{◌≡◌, ◌∙◌, sym, ap}
use mathlib.Core.Bool.{true, false}
use mathlib.Core.Logic.{◌↔◌}
use mathlib.Core.List.{List}
use lib.ListN.{length}
use Rattle.stretch.specs.Common.{lcp, lcs}
use Rattle.stretch.specs.Part.{part}
use Rattle.stretch.specs.Same.{same}
use Rattle.stretch.proofs.Cases.{by_cases}
use Rattle.stretch.proofs.Common.{lcp-le-left, lcp-le-right, lcp-take}
use Rattle.stretch.proofs.Suffix.{lcs-le-left, lcs-le-right, lcs-drop}
use Rattle.stretch.proofs.Interval.{part-between}
use Rattle.normal_form.specs.declared.Kind.TheVariants.{Unchanged}
use Rattle.normal_form.specs.Form.{altered, shorter, within, ahead, behind, Normal, changed_form, normal}
use Rattle.normal_form.proofs.Flanks.{length-altered}

-- the two lengths that are kept: each within its common length, and both together within the shorter sequence
module _ (r t : List ℕ) where
  pub shorter-le-left : shorter r t ≤ length r
  unfolding shorter
  shorter-le-left = omega arith

  pub shorter-le-right : shorter r t ≤ length t
  unfolding shorter
  shorter-le-right = omega arith

  pub lcp-le-shorter : lcp r t ≤ shorter r t
  unfolding shorter
  lcp-le-shorter = omega (arith, lcp-le-left r t, lcp-le-right r t)

  pub lcs-le-shorter : lcs r t ≤ shorter r t
  unfolding shorter
  lcs-le-shorter = omega (arith, lcs-le-left r t, lcs-le-right r t)

  pub ahead-le : ahead r t ≤ lcp r t
  unfolding ahead within
  ahead-le = omega arith

  pub behind-le : behind r t ≤ lcs r t
  unfolding behind within
  behind-le = omega arith

  -- and leaves the other common length its room
  pub ahead-room : ahead r t + lcs r t ≤ shorter r t
  unfolding ahead within
  ahead-room = omega (arith, lcs-le-shorter)

  pub behind-room : behind r t + lcp r t ≤ shorter r t
  unfolding behind within
  behind-room = omega (arith, lcp-le-shorter)

  pub ahead-behind : ahead r t + behind r t ≤ shorter r t
  ahead-behind = omega (arith, ahead-le, behind-room)

  -- the common lengths leave something between them
  pub ahead_apart : lcp r t + lcs r t ≤ shorter r t → ahead r t ≡ lcp r t
  unfolding ahead within
  ahead_apart h = omega arith

  pub behind-apart : lcp r t + lcs r t ≤ shorter r t → behind r t ≡ lcs r t
  unfolding behind within
  behind-apart h = omega arith

  -- or they meet
  pub ahead-meet : shorter r t ≤ lcp r t + lcs r t → ahead r t ≡ shorter r t - lcs r t
  unfolding ahead within
  ahead-meet h = omega arith

  pub behind-meet : shorter r t ≤ lcp r t + lcs r t → behind r t ≡ shorter r t - lcp r t
  unfolding behind within
  behind-meet h = omega arith

-- the form of a changed allele makes the altered sequence
pub altered-changed_form : (r t : List ℕ)
    → altered r (ahead r t) (length r - behind r t) (part t (ahead r t) (length t - behind r t)) ≡ t
unfolding altered
altered-changed_form r t =
    let long : ahead r t ≤ length t - behind r t = omega (arith, ahead-behind r t, shorter-le-right r t) in
    rw (lcp-take r t (ahead r t) (ahead-le r t), lcs-drop r t (behind r t) (behind-le r t))
    (part-between t (ahead r t) (length t - behind r t) long)

module _ (r : List ℕ) (start end : ℕ) (x : List ℕ) where
  pub normal-unchanged : same r (altered r start end x) ≡ true
      → normal r start end x ≡ record { kind = Unchanged; start = start; end = end; replacement = x }
  unfolding normal
  normal-unchanged e = rw e

  pub normal-changed : same r (altered r start end x) ≡ false
      → normal r start end x ≡ changed_form r (altered r start end x)
  unfolding normal
  normal-changed e = rw e

  -- the normal form of every allele makes the allele's altered sequence
  pub altered-normal : altered r (normal r start end x).start (normal r start end x).end
      (normal r start end x).replacement ≡ altered r start end x
  unfolding changed_form
  altered-normal =
      by_cases (same r (altered r start end x))
      (λ e. rw (normal-unchanged e))
      (λ e. rw (normal-changed e) (altered-changed_form r (altered r start end x)))

  -- and lies in the reference where the allele does
  pub normal-ordered : start ≤ end → (normal r start end x).start ≤ (normal r start end x).end
  unfolding changed_form
  normal-ordered h =
      let t = altered r start end x in
      by_cases (same r t)
      (λ e. rw (normal-unchanged e) h)
      (λ e. rw (normal-changed e) (omega (arith, ahead-behind r t, shorter-le-left r t)))

  pub normal-inside : end ≤ length r → (normal r start end x).end ≤ length r
  unfolding changed_form
  normal-inside h =
      by_cases (same r (altered r start end x)) (λ e. rw (normal-unchanged e) h)
      (λ e. rw (normal-changed e) (omega arith))

  -- its replacement is no longer than the reference and the replacement given together
  pub normal-short : start ≤ end → end ≤ length r → length (normal r start end x).replacement ≤ length r + length x
  normal-short h g =
      let f = normal r start end x in
      omega (
        arith,
        ap length altered-normal,
        length-altered r f.start f.end f.replacement (normal-ordered h) (normal-inside g),
        length-altered r start end x h g,
      )

-- forms that agree in their interval and their replacement are of one altered sequence
pub one-altered : (r : List ℕ) (s₁ e₁ : ℕ) (x₁ : List ℕ) (s₂ e₂ : ℕ) (x₂ : List ℕ)
    → (normal r s₁ e₁ x₁).start ≡ (normal r s₂ e₂ x₂).start
    → (normal r s₁ e₁ x₁).end ≡ (normal r s₂ e₂ x₂).end
    → (normal r s₁ e₁ x₁).replacement ≡ (normal r s₂ e₂ x₂).replacement
    → altered r s₁ e₁ x₁ ≡ altered r s₂ e₂ x₂
one-altered r s₁ e₁ x₁ s₂ e₂ x₂ a b c = sym (altered-normal r s₁ e₁ x₁) ∙ (λ i. altered r (a i) (b i) (c i))
    ∙ altered-normal r s₂ e₂ x₂

-- changed alleles of one altered sequence have one form
pub one_form : (r : List ℕ) (s₁ e₁ : ℕ) (x₁ : List ℕ) (s₂ e₂ : ℕ) (x₂ : List ℕ)
    → same r (altered r s₁ e₁ x₁) ≡ false → altered r s₁ e₁ x₁ ≡ altered r s₂ e₂ x₂
    → normal r s₁ e₁ x₁ ≡ normal r s₂ e₂ x₂
one_form r s₁ e₁ x₁ s₂ e₂ x₂ h e =
    normal-changed r s₁ e₁ x₁ h ∙ ap (changed_form r) e ∙ sym (normal-changed r s₂ e₂ x₂ (rw e at h))

-- so they have one form exactly where they have one altered sequence, and that the first is changed is enough
pub normal-iff-altered : (r : List ℕ) (s₁ e₁ : ℕ) (x₁ : List ℕ) (s₂ e₂ : ℕ) (x₂ : List ℕ)
    → same r (altered r s₁ e₁ x₁) ≡ false
    → (normal r s₁ e₁ x₁ ≡ normal r s₂ e₂ x₂) ↔ (altered r s₁ e₁ x₁ ≡ altered r s₂ e₂ x₂)
normal-iff-altered r s₁ e₁ x₁ s₂ e₂ x₂ h = (
  λ e. one-altered r s₁ e₁ x₁ s₂ e₂ x₂ (ap (λ (f : Normal). f.start) e) (ap (λ (f : Normal). f.end) e)
      (ap (λ (f : Normal). f.replacement) e),
  one_form r s₁ e₁ x₁ s₂ e₂ x₂ h,
)

-- a form's own form is itself
pub normal-normal : (r : List ℕ) (start end : ℕ) (x : List ℕ)
    → normal r (normal r start end x).start (normal r start end x).end (normal r start end x).replacement
    ≡ normal r start end x
normal-normal r start end x =
    by_cases (same r (altered r start end x))
    (λ e. ap (λ (f : Normal). normal r f.start f.end f.replacement) (normal-unchanged r start end x e))
    (λ e. sym (one_form r start end x (normal r start end x).start (normal r start end x).end
    (normal r start end x).replacement e (sym (altered-normal r start end x))))
