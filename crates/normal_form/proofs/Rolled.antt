-- How far a sequence rolls: as far as the bases beside it agree with themselves after the sequence.
use Prim.Native.Nat.{ℕ, ◌<◌}
use native.Mathlib.Nat.{not-suc-le-zero}
use native.Mathlib.Omega.{arith}
use mathlib.Core.Path.{◌≡◌, refl, ◌∙◌, sym}
use mathlib.Core.List.{List, [], ◌∷◌, ◌++◌, reverse, reverse-append}
use lib.Dec.{eqb}
use lib.ListN.{length, take, drop, length-append, length-reverse}
use lib.Seq.{append_snoc}
use borrow.Author.Tests.{eqb-true, eqb-false, eq-eqb, ne_eqb}
use Rattle.stretch.specs.Common.{lcp, lcs}
use Rattle.stretch.proofs.Cases.{by_cases}
use Rattle.normal_form.specs.Steps.{rolled, roll_left, roll_right}

pub rolled-lcp : (beside sequence : List ℕ) → 0 < length sequence
    → rolled beside sequence ≡ lcp beside (sequence ++ beside)
unfolding rolled lcp
rolled-lcp [] sequence h = refl
rolled-lcp (d ∷ beside) [] h = absurd (not-suc-le-zero h)
rolled-lcp (d ∷ beside) (c ∷ sequence) h =
    by_cases (eqb c d)
    (λ e. let q : c ≡ d = eqb-true c d e in
    let long : 0 < length (sequence ++ (c ∷ [])) = simp length-append (omega arith) in
    rw (e, eq-eqb d c (sym q), rolled-lcp beside (sequence ++ (c ∷ [])) long, append_snoc sequence c beside, q))
    (λ e. rw (e, ne_eqb d c (λ q. eqb-false c d e (sym q))))

module _ (r : List ℕ) (place : ℕ) (sequence : List ℕ) (some : 0 < length sequence) where
  pub roll_right-lcp : roll_right r place sequence ≡ lcp (drop place r) (sequence ++ drop place r)
  unfolding roll_right
  roll_right-lcp = rolled-lcp (drop place r) sequence some

  pub roll_left-lcs : roll_left r place sequence ≡ lcs (take place r) (take place r ++ sequence)
  unfolding roll_left lcs
  roll_left-lcs =
      rolled-lcp (reverse (take place r)) (reverse sequence) (rw (length-reverse sequence) some)
      ∙ rw (reverse-append (take place r) sequence)
