-- What two stretches share, when something stands around them and when it is taken away.
use Prim.Native.Nat.{ℕ, ◌+◌, ◌-◌, ◌<◌, ◌≤◌}
use native.Mathlib.Nat.{le_of_suc-le-suc, not-suc-le-zero}
use native.Mathlib.Omega.{arith}
use mathlib.Core.Path.{◌≡◌, refl, ◌∙◌, sym, ap}
use mathlib.Core.Bool.{false}
use mathlib.Core.List.{List, [], ◌∷◌, ◌++◌, reverse, reverse-append}
use lib.Dec.{eqb}
use lib.ListN.{length, take, drop, length-drop, take-append-drop}
use lib.Seq.{length-take-le}
use borrow.Author.Tests.{eqb-true}
use Rattle.stretch.specs.Common.{lcp, lcs}
use Rattle.stretch.specs.Same.{same}
use Rattle.stretch.proofs.Cases.{by_cases}
use Rattle.stretch.proofs.Common.{lcp-nil, lcp-comm, lcp-le-right, lcp-take, lcp-past, lcp-within, same-lcp}
use Rattle.stretch.proofs.Suffix.{lcs-comm, lcs-le-right, lcs-drop, lcs-past, lcs-within}
use Rattle.stretch.proofs.Same.{same-eq}

-- what follows never makes the common prefix shorter, nor what precedes the common suffix
pub lcp-grows : (xs ys zs ws : List ℕ) → lcp xs ys ≤ lcp (xs ++ zs) (ys ++ ws)
unfolding lcp
lcp-grows [] ys zs ws = omega arith
lcp-grows (x ∷ xs) [] zs ws = omega arith
lcp-grows (x ∷ xs) (y ∷ ys) zs ws =
    by_cases (eqb x y) (λ e. rw e (omega (arith, lcp-grows xs ys zs ws))) (λ e. rw e (omega arith))

pub lcs-grows : (zs ws xs ys : List ℕ) → lcs xs ys ≤ lcs (zs ++ xs) (ws ++ ys)
unfolding lcs
lcs-grows zs ws xs ys =
    rw (reverse-append zs xs, reverse-append ws ys) (lcp-grows (reverse xs) (reverse ys) (reverse zs) (reverse ws))

-- and it does not matter where both stretches go on past what they share
pub lcp-apart : (xs ys zs ws : List ℕ) → lcp xs ys < length xs → lcp xs ys < length ys
    → lcp (xs ++ zs) (ys ++ ws) ≡ lcp xs ys
lcp-apart xs ys zs ws h g =
    let e : lcp (ys ++ ws) xs ≡ lcp xs ys = lcp-comm (ys ++ ws) xs ∙ lcp-within xs ys ws g in
    lcp-comm (xs ++ zs) (ys ++ ws) ∙ lcp-within (ys ++ ws) xs zs (omega arith) ∙ e

pub lcs-apart : (zs ws xs ys : List ℕ) → lcs xs ys < length xs → lcs xs ys < length ys
    → lcs (zs ++ xs) (ws ++ ys) ≡ lcs xs ys
lcs-apart zs ws xs ys h g =
    let e : lcs (ws ++ ys) xs ≡ lcs xs ys = lcs-comm (ws ++ ys) xs ∙ lcs-within xs ys ws g in
    lcs-comm (zs ++ xs) (ws ++ ys) ∙ lcs-within (ws ++ ys) xs zs (omega arith) ∙ e

-- without what they share, nothing is shared there
module _ (u v : List ℕ) where
  pub lcp-less : lcp (drop (lcp u v) u) (drop (lcp u v) v) ≡ 0
  lcp-less =
      let p = lcp u v in
      let e : lcp u v ≡ p + lcp (drop p u) (drop p v)
      = (λ i. lcp (sym (take-append-drop p u) i) (sym (take-append-drop p v) i))
      ∙ rw (
        lcp-take u v p (omega arith),
        lcp-past (take p v) (drop p u) (drop p v),
        length-take-le p v (lcp-le-right u v),
      ) in
      omega arith

  pub lcs-less : lcs (take (length u - lcs u v) u) (take (length v - lcs u v) v) ≡ 0
  lcs-less =
      let q = lcs u v in
      let i = length u - q in
      let j = length v - q in
      let long : length (drop j v) ≡ q = length-drop j v ∙ omega (arith, lcs-le-right u v) in
      let e : lcs u v ≡ q + lcs (take i u) (take j v)
      = (λ k. lcs (sym (take-append-drop i u) k) (sym (take-append-drop j v) k))
      ∙ rw (lcs-drop u v q (omega arith), lcs-past (take i u) (take j v) (drop j v), long) in
      omega arith

  pub lcs-drop-le : (i : ℕ) → lcs (drop i u) (drop i v) ≤ lcs u v
  lcs-drop-le i = rw (take-append-drop i u, take-append-drop i v) at
      (lcs-grows (take i u) (take i v) (drop i u) (drop i v))

-- stretches that part within the first are not one
pub same-short : (a b : List ℕ) → lcp a b < length a → same a b ≡ false
same-short a b h =
    by_cases (same a b)
    (λ t. absurd (omega (arith, eqb-true (lcp a b) (length a) (sym (same-lcp a b (ap length (same-eq a b t))) ∙ t))))
    (λ f. f)

-- what stands behind the longer of the two is never reached
pub lcp-long : (xs zs ys : List ℕ) → length ys ≤ length xs → lcp (xs ++ zs) ys ≡ lcp xs ys
unfolding lcp
lcp-long [] zs [] h = lcp-nil zs
lcp-long [] zs (y ∷ ys) h = absurd (not-suc-le-zero h)
lcp-long (x ∷ xs) zs [] h = refl
lcp-long (x ∷ xs) zs (y ∷ ys) h =
    by_cases (eqb x y) (λ e. rw (e, lcp-long xs zs ys (le_of_suc-le-suc h))) (λ e. rw e)
