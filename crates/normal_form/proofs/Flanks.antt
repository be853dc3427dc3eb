-- The common lengths of the reference and the altered sequence, by the flanks alone.
use Prim.Native.Nat.{ℕ, ◌+◌, ◌-◌, ◌≤◌}
use native.Mathlib.Omega.{arith}
use mathlib.Core.Path.{◌≡◌, ◌∙◌, sym, ap}
use mathlib.Core.List.{List, ◌++◌, append_assoc}
use lib.Dec.{ltb}
use lib.ListN.{length, take, drop, length-append, length-drop, take-append-drop}
use lib.Seq.{length-take-le}
use borrow.Author.Tests.{ltb-true, ltb-false}
use Rattle.stretch.specs.Common.{lcp, lcs}
use Rattle.stretch.proofs.Cases.{by_cases}
use Rattle.stretch.proofs.Common.{lcp-le-left, lcp-le-right, lcp-past, lcp-within, lcp-through}
use Rattle.stretch.proofs.Suffix.{lcs-le-left, lcs-le-right, lcs-past, lcs-within, lcs-through}
use Rattle.normal_form.specs.Form.{altered}
use Rattle.normal_form.specs.Inner.{rolls_right, rolls_left}

module _ (r : List ℕ) (start end : ℕ) (x : List ℕ) where
  pub length-altered : start ≤ end → end ≤ length r
      → length (altered r start end x) ≡ start + length x + (length r - end)
  unfolding altered
  length-altered h g =
      let s : start ≤ length r = omega arith in
      rw (
        length-append (take start r) (x ++ drop end r),
        length-append x (drop end r),
        length-take-le start r s,
        length-drop end r,
      ) (omega arith)

  -- p: all before start, then as far as the flank on the right agrees
  pub lcp-flank : start ≤ length r → lcp r (altered r start end x) ≡ start + lcp (drop start r) (x ++ drop end r)
  unfolding altered
  lcp-flank h =
      ap (λ (l : List ℕ). lcp l (take start r ++ (x ++ drop end r))) (sym (take-append-drop start r))
      ∙ lcp-past (take start r) (drop start r) (x ++ drop end r)
      ∙ ap (λ (k : ℕ). k + lcp (drop start r) (x ++ drop end r)) (length-take-le start r h)

  -- q: all after end, then as far as the flank on the left agrees
  pub lcs-flank : lcs r (altered r start end x) ≡ length r - end + lcs (take end r) (take start r ++ x)
  unfolding altered
  lcs-flank =
      ap (λ (l : List ℕ). lcs r l) (sym (append_assoc (take start r) x (drop end r)))
      ∙ ap (λ (l : List ℕ). lcs l (take start r ++ x ++ drop end r)) (sym (take-append-drop end r))
      ∙ lcs-past (take end r) (take start r ++ x) (drop end r)
      ∙ ap (λ (k : ℕ). k + lcs (take end r) (take start r ++ x)) (length-drop end r)

-- a roll stops within the replacement, or goes through it and on into the flank behind it
pub rolls-right : (onward x after : List ℕ)
    → rolls_right onward (length x) (lcp onward x) after ≡ lcp onward (x ++ after)
unfolding rolls_right
rolls-right onward x after =
    by_cases (ltb (lcp onward x) (length x))
    (λ e. rw e (sym (lcp-within onward x after (ltb-true (lcp onward x) (length x) e))))
    (λ e. let long : lcp onward x ≡ length x =
    omega (arith, lcp-le-right onward x, ltb-false (lcp onward x) (length x) e) in
    rw (e, long) (sym (lcp-through onward x after (omega arith))))

pub rolls-left : (back x before : List ℕ) → rolls_left back (length x) (lcs back x) before ≡ lcs back (before ++ x)
unfolding rolls_left
rolls-left back x before =
    by_cases (ltb (lcs back x) (length x))
    (λ e. rw e (sym (lcs-within back x before (ltb-true (lcs back x) (length x) e))))
    (λ e. let long : lcs back x ≡ length x =
    omega (arith, lcs-le-right back x, ltb-false (lcs back x) (length x) e) in
    rw (e, long) (sym (lcs-through back x before (omega arith))))

-- it does not leave what it rolls over
pub rolls_right-le : (onward : List ℕ) (given agreed : ℕ) (after : List ℕ) → agreed ≤ length onward
    → rolls_right onward given agreed after ≤ length onward
unfolding rolls_right
rolls_right-le onward given agreed after h =
    by_cases (ltb agreed given)
    (λ e. rw e h)
    (λ e. rw e (omega (arith, lcp-le-left (drop agreed onward) after, length-drop agreed onward)))

pub rolls_left-le : (back : List ℕ) (given agreed : ℕ) (before : List ℕ) → agreed ≤ length back
    → rolls_left back given agreed before ≤ length back
unfolding rolls_left
rolls_left-le back given agreed before h =
    let rest = take (length back - agreed) back in
    by_cases (ltb agreed given)
    (λ e. rw e h)
    (λ e. rw e (omega (
      arith,
      lcs-le-left rest before,
      length-take-le (length back - agreed) back (omega arith),
    )))
