-- What the engine finds at the spot of a change is what the definitions say over the whole sequences.
use Prim.Native.Nat.{ℕ, ◌+◌, ◌-◌, ◌≤◌, min}
use native.Mathlib.Nat.{sub-zero}
use native.Mathlib.Omega.{arith}
use mathlib.Core.Path.{◌≡◌, ◌∙◌, sym, ap}
use mathlib.Core.Bool.{true}
use mathlib.Core.List.{List, ◌++◌}
use lib.Dec.{eqb}
use lib.ListN.{length, take, drop, length-drop}
use lib.Seq.{take_at, drop_at, length-take-le}
use borrow.Author.Tests.{eqb-true, eqb-false}
use Rattle.stretch.specs.Common.{lcp, lcs}
use Rattle.stretch.specs.Part.{part}
use Rattle.stretch.specs.Same.{same}
use Rattle.stretch.proofs.Cases.{by_cases}
use Rattle.stretch.proofs.Common.{lcp-le-left, same-lcp}
use Rattle.stretch.proofs.Interval.{length_part, drop-start, part-between}
use Rattle.stretch.proofs.Same.{same_refl, same-eq, same-lengths}
use Rattle.stretch.proofs.Shared.{lcp-long}
use Rattle.stretch.proofs.Suffix.{lcs-le-left}
use Rattle.stretch.proofs.Tail.{lent-tail}
use Rattle.normal_form.specs.declared.Outline.{Outline}
use Rattle.normal_form.specs.Form.{Allele, altered, shorter, within, outline_in, outline}
use Rattle.normal_form.specs.Stretches.{changed_stretches, stretches_of}
use Rattle.normal_form.specs.Inner.{Agrees, rolls_right, rolls_left, agreed_outline, agrees_wholly, agreed_stretches}
use Rattle.normal_form.proofs.Flanks.{length-altered, lcp-flank, lcs-flank, rolls-right, rolls-left}

-- the rolls over the flanks as they are lent
module _ (r : List ℕ) (start end given agreed f : ℕ) where
  pub lent-right : f ≡ rolls_right (take (length r - start) (drop start r)) given agreed
      (take (length r - end) (drop end r)) → f ≡ rolls_right (drop start r) given agreed (drop end r)
  lent-right e = rw (lent-tail r start, lent-tail r end) at e

  pub lent-left : f ≡ rolls_left (take (end - 0) (drop 0 r)) given agreed (take (start - 0) (drop 0 r))
      → f ≡ rolls_left (take end r) given agreed (take start r)
  lent-left e = rw (sub-zero end, sub-zero start) at e

-- an outline whose p and q lie on their sides of the spot can be laid out there
pub outlined-fits : (n start end given p q : ℕ) → start ≤ end → end ≤ n → start ≤ p → q ≤ n
    → (o : Outline) → o ≡ outline_in (min n (start + given + (n - end))) p q
    → (o.b ≤ n) × (end ≤ n) × (o.b - (n - end) ≤ given)
unfolding within
outlined-fits n start end given p q h g l k o e =
    let b : o.b ≡ within (min n (start + given + (n - end))) p q = ap (λ (o : Outline). o.b) e in
    (omega arith, g, omega arith)

module _ (r : List ℕ) (start end : ℕ) (x : List ℕ) (h : start ≤ end) (g : end ≤ length r) where
  -- p, q and k, by how far the replacement agrees with the reference
  spot-p : start + rolls_right (drop start r) (length x) (lcp (drop start r) x) (drop end r)
      ≡ lcp r (altered r start end x)
  spot-p = rw (rolls-right (drop start r) x (drop end r)) (sym (lcp-flank r start end x (omega arith)))

  spot-q : length r - end + rolls_left (take end r) (length x) (lcs (take end r) x) (take start r)
      ≡ lcs r (altered r start end x)
  spot-q = rw (rolls-left (take end r) x (take start r)) (sym (lcs-flank r start end x))

  spot-k : min (length r) (start + length x + (length r - end)) ≡ shorter r (altered r start end x)
  unfolding shorter
  spot-k = rw (length-altered r start end x h g)

  spot-outline : agreed_outline r start end (length x) (lcp (drop start r) x) (lcs (take end r) x)
      ≡ outline r (altered r start end x)
  unfolding agreed_outline
  spot-outline = λ i. outline_in (spot-k i) (spot-p i) (spot-q i)

  -- an allele is unchanged where the reference at its spot is the replacement
  altered-whole : part r start end ≡ x → r ≡ altered r start end x
  unfolding altered
  altered-whole e =
      sym (part-between r start end h) ∙ ap (λ (l : List ℕ). take start r ++ (l ++ drop end r)) e

  altered-given : r ≡ altered r start end x → part r start end ≡ x
  unfolding altered
  altered-given e =
      let long : length x ≡ end - start = omega (arith, ap length e, length-altered r start end x h g) in
      ap (λ (l : List ℕ). take (end - start) (drop start l)) e
      ∙ rw (drop_at (take start r) (x ++ drop end r) start (length-take-le start r (omega arith)))
      (take_at x (drop end r) (end - start) long)

  same-altered : same r (altered r start end x) ≡ same (part r start end) x
  same-altered =
      by_cases (same (part r start end) x)
      (λ e. rw (← altered-whole (same-eq (part r start end) x e), same_refl r, e))
      (λ e. by_cases (same r (altered r start end x))
      (λ d. let z : same (part r start end) x ≡ true =
      rw (altered-given (same-eq r (altered r start end x) d)) (same_refl x) in d ∙ sym z)
      (λ d. d ∙ sym e))

  -- which is that the replacement agrees with it wholly
  same-agreed : same (part r start end) x ≡ agrees_wholly start end (length x) (lcp (drop start r) x)
  same-agreed =
      let long : length (part r start end) ≡ end - start = length_part r start end h g in
      let u = part r start end in
      by_cases (eqb (length x) (end - start))
      (λ e. let n : length u ≡ length x = omega (arith, eqb-true (length x) (end - start) e) in
      let agreed : lcp (drop start r) x ≡ lcp u x =
      ap (λ (l : List ℕ). lcp l x) (drop-start r start end h) ∙ lcp-long u (drop end r) x (omega arith) in
      rw (e, agreed) (same-lcp u x n ∙ ap (λ (k : ℕ). eqb (lcp u x) k) n))
      (λ e. rw (
        e,
        same-lengths (part r start end) x
            (λ n. eqb-false (length x) (end - start) e (omega arith)),
      ))

  agreed-stretches : agreed_stretches r start end (length x) (lcp (drop start r) x) (lcs (take end r) x)
      ≡ stretches_of r start end x
  unfolding agreed_stretches stretches_of changed_stretches
  agreed-stretches = rw (same-altered, same-agreed, spot-outline)

-- how far the replacement agrees with the flanks as they are lent: it stays in the reference, and tells the form
module _ (r : List ℕ) (start end : ℕ) (x : List ℕ) (allele : Allele r start end x) (ahead behind : ℕ)
    (onward : ahead ≡ lcp (take (length r - start) (drop start r)) x)
    (back : behind ≡ lcs (take (end - 0) (drop 0 r)) x) where
  ahead-is : ahead ≡ lcp (drop start r) x
  ahead-is = rw (lent-tail r start) at onward

  behind-is : behind ≡ lcs (take end r) x
  behind-is = rw (sub-zero end) at back

  pub spot-agrees : Agrees (length r) start end (length x) ahead behind
  spot-agrees =
      record {
        ordered = allele.ordered;
        inside = allele.inside;
        reference = allele.reference;
        replacement = allele.replacement;
        onward = omega (
          arith,
          ahead-is,
          lcp-le-left (drop start r) x,
          length-drop start r,
          allele.ordered,
          allele.inside,
        );
        back = omega (
          arith,
          behind-is,
          lcs-le-left (take end r) x,
          length-take-le end r allele.inside,
        );
      }

  pub spot-stretches : agreed_stretches r start end (length x) ahead behind ≡ stretches_of r start end x
  spot-stretches = rw (ahead-is, behind-is) (agreed-stretches r start end x allele.ordered allele.inside)
