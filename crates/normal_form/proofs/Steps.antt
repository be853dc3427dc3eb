-- Source document 001's steps come to document 01's normal form.
use Prim.Native.Nat.{ℕ, ◌+◌, ◌-◌, ◌<◌, ◌≤◌, min}
use native.Mathlib.Omega.{arith}
use mathlib.Core.Path.{◌≡◌, ◌∙◌, sym, ap}
use mathlib.Core.Bool.{cond, true, false}
use mathlib.Core.List.{List, [], ◌∷◌, ◌++◌, append-nil}
use lib.ListN.{length, take, drop, take-append-drop}
use Rattle.stretch.specs.Common.{lcp, lcs}
use Rattle.stretch.specs.Same.{same}
use Rattle.stretch.proofs.Cases.{by_cases}
use Rattle.stretch.proofs.Common.{lcp-comm}
use Rattle.stretch.proofs.Suffix.{lcs-comm}
use Rattle.stretch.proofs.Same.{same_refl, same-lengths}
use Rattle.stretch.proofs.Interval.{drop-start, take-end}
use Rattle.stretch.proofs.Shared.{lcp-apart, lcs-apart, same-short}
use Rattle.normal_form.specs.Form.{altered, shorter, changed_form, normal}
use Rattle.normal_form.specs.Steps.{Justified, roll_left, roll_right, rolled_out, settled, trimmed, justified}
use Rattle.normal_form.specs.Steps.{placed}
use Rattle.normal_form.proofs.Flanks.{length-altered, lcp-flank, lcs-flank}
use Rattle.normal_form.proofs.Laws.{normal-unchanged, normal-changed, normal-ordered, normal-inside}
use Rattle.normal_form.proofs.Laws.{normal-normal}
use Rattle.normal_form.proofs.Rolled.{roll_right-lcp, roll_left-lcs}
use Rattle.normal_form.proofs.Extended.{form-apart, form-meet}
use Rattle.normal_form.proofs.Trimmed.{Lies, length-there, stands-trimmed, lcp-trimmed, lcs-trimmed}

-- an interval with the sequence u there, given v for it
module _ (r : List ℕ) (s e : ℕ) (u : List ℕ) (h : Lies r s e u) (v : List ℕ) where
  pub lcp-sides : lcp r (altered r s e v) ≡ s + lcp (u ++ drop e r) (v ++ drop e r)
  lcp-sides =
      lcp-flank r s e v (omega arith)
      ∙ ap (λ (l : List ℕ). s + lcp l (v ++ drop e r))
      (drop-start r s e h.ordered ∙ ap (λ (l : List ℕ). l ++ drop e r) (sym h.there))

  pub lcs-sides : lcs r (altered r s e v) ≡ length r - e + lcs (take s r ++ u) (take s r ++ v)
  lcs-sides =
      lcs-flank r s e v
      ∙ ap (λ (l : List ℕ). length r - e + lcs l (take s r ++ v))
      (take-end r s e h.ordered ∙ ap (λ (l : List ℕ). take s r ++ l) (sym h.there))

  pub length-sides : length r ≡ s + length u + (length r - e)
  length-sides = omega (arith, length-there r s e u h)

  pub shorter-sides : shorter r (altered r s e v) ≡ min (s + length u + (length r - e)) (s + length v + (length r - e))
  unfolding shorter
  shorter-sides = λ k. min (length-sides k) (length-altered r s e v h.ordered h.inside k)

  -- both have elements: the interval stays
  module _ (hu : 0 < length u) (hv : 0 < length v) (p : lcp u v ≡ 0) (q : lcs u v ≡ 0) where
    lcp-substituted : lcp r (altered r s e v) ≡ s
    lcp-substituted = lcp-sides ∙ rw (lcp-apart u v (drop e r) (drop e r) (omega arith) (omega arith), p) (omega arith)

    lcs-substituted : lcs r (altered r s e v) ≡ length r - e
    lcs-substituted = lcs-sides ∙ rw (lcs-apart (take s r) (take s r) u v (omega arith) (omega arith), q) (omega arith)

    pub substituted-form : record { start = s; end = e; replacement = v } ≡ placed (changed_form r (altered r s e v))
    substituted-form = form-apart r s e v h.ordered h.inside lcp-substituted lcs-substituted
        (rw shorter-sides (omega arith))

    pub substituted-changed : same r (altered r s e v) ≡ false
    substituted-changed = same-short r (altered r s e v) (omega (arith, lcp-substituted, length-sides))

  -- one has no elements: their lengths differ
  pub other_length : (length u ≡ length v → ⊥) → same r (altered r s e v) ≡ false
  other_length n =
      same-lengths r (altered r s e v)
      (λ k. n (omega (arith, k, length-sides, length-altered r s e v h.ordered h.inside)))

-- and the interval grows by the rolls of the other: of what is put in, or of what is taken out
pub inserted-form : (r : List ℕ) (s e : ℕ) (v : List ℕ) → Lies r s e [] → 0 < length v
    → rolled_out r s e v v ≡ placed (changed_form r (altered r s e v))
unfolding rolled_out
inserted-form r s e v h some =
    form-meet r s e v h.ordered h.inside (roll_left r s v) (roll_right r e v)
    (lcp-sides r s e [] h v ∙ ap (λ (k : ℕ). s + k) (sym (roll_right-lcp r e v some)))
    (lcs-sides r s e [] h v ∙ rw (append-nil (take s r), roll_left-lcs r s v some))
    (rw (shorter-sides r s e [] h v) (omega arith))

pub deleted-form : (r : List ℕ) (s e : ℕ) (u : List ℕ) → Lies r s e u → 0 < length u
    → rolled_out r s e u [] ≡ placed (changed_form r (altered r s e []))
unfolding rolled_out
deleted-form r s e u h some =
    form-meet r s e [] h.ordered h.inside (roll_left r s u) (roll_right r e u)
    (lcp-sides r s e u h [] ∙ rw (lcp-comm (u ++ drop e r) (drop e r), roll_right-lcp r e u some))
    (lcs-sides r s e u h [] ∙ rw (append-nil (take s r), lcs-comm (take s r ++ u) (take s r), roll_left-lcs r s u some))
    (rw (shorter-sides r s e u h []) (omega arith))

-- nothing stands for nothing: the reference is as it was
pub unchanged-nothing : (r : List ℕ) (s e : ℕ) → Lies r s e [] → same r (altered r s e []) ≡ true
unfolding altered
unchanged-nothing r s e h =
    let meet : e ≡ s = omega (arith, length-there r s e [] h) in
    rw (meet, take-append-drop s r) (same_refl r)

-- what steps 2 to 6 choose
abbrev chosen : List ℕ → List ℕ → Justified → Justified
chosen r t given = cond (same r t) given (placed (changed_form r t))

settled-chosen : (r : List ℕ) (given : Justified) (s e : ℕ) (u v : List ℕ) → Lies r s e u → lcp u v ≡ 0 → lcs u v ≡ 0
    → settled r given s e u v ≡ chosen r (altered r s e v) given
unfolding settled
settled-chosen r given s e [] [] h p q = rw (unchanged-nothing r s e h)
settled-chosen r given s e [] (d ∷ v) h p q =
    rw (other_length r s e [] h (d ∷ v) (λ k. omega arith)) (inserted-form r s e (d ∷ v) h (omega arith))
settled-chosen r given s e (c ∷ u) [] h p q =
    rw (other_length r s e (c ∷ u) h [] (λ k. omega arith)) (deleted-form r s e (c ∷ u) h (omega arith))
settled-chosen r given s e (c ∷ u) (d ∷ v) h p q =
    rw (substituted-changed r s e (c ∷ u) h (d ∷ v) (omega arith) (omega arith) p q)
    (substituted-form r s e (c ∷ u) h (d ∷ v) (omega arith) (omega arith) p q)

module _ (r : List ℕ) (start end : ℕ) (x : List ℕ) where
  normal-chosen : placed (normal r start end x)
      ≡ chosen r (altered r start end x) (record { start = start; end = end; replacement = x })
  normal-chosen =
      by_cases (same r (altered r start end x))
      (λ t. rw (normal-unchanged r start end x t, t))
      (λ f. rw (normal-changed r start end x f, f))

  -- the steps answer the normal form's interval and replacement, for every allele on a reference
  pub justified-normal : start ≤ end → end ≤ length r → justified r start end x ≡ placed (normal r start end x)
  unfolding justified
  justified-normal h g =
      let a = trimmed r start end x in
      let given : Justified = record { start = start; end = end; replacement = x } in
      let w = stands-trimmed r start end x h g in
      settled-chosen r given a.start a.end a.reference a.alternate w.lies (lcp-trimmed r start end x)
      (lcs-trimmed r start end x)
      ∙ ap (λ (t : List ℕ). chosen r t given) w.makes
      ∙ sym normal-chosen

-- and take their own answer for itself
pub justified-again : (r : List ℕ) (start end : ℕ) (x : List ℕ) → start ≤ end → end ≤ length r
    → justified r (justified r start end x).start (justified r start end x).end
    (justified r start end x).replacement ≡ justified r start end x
justified-again r start end x h g =
    let f = normal r start end x in
    let e : justified r start end x ≡ placed f = justified-normal r start end x h g in
    ap (λ (j : Justified). justified r j.start j.end j.replacement) e
    ∙ justified-normal r f.start f.end f.replacement (normal-ordered r start end x h)
    (normal-inside r start end x g)
    ∙ ap placed (normal-normal r start end x)
    ∙ sym e
