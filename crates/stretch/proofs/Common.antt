-- How far two stretches agree from the front: bounds, what is shared, appended stretches, and the turns of a loop.
use Prim.Native.Nat.{ℕ, zero, suc, ◌+◌, ◌<◌, ◌≤◌}
use native.Mathlib.Nat.{le_of_suc-le-suc, not-suc-le-zero, zero-add, add-zero}
use native.Mathlib.Omega.{arith}
use mathlib.Core.Path.{◌≡◌, refl, ◌∙◌, sym, ap}
use mathlib.Core.List.{List, [], ◌∷◌, ◌++◌}
use lib.Dec.{eqb, eqb-suc-suc, eqb-zero-suc}
use lib.ListN.{length, get_or, take, drop, length-drop, take-append-drop}
use lib.Seq.{drop-cons, drop-drop, length-take-le, take-length}
use borrow.Author.Tests.{eq-eqb, ne_eqb, eqb-true, eqb-false}
use Rattle.stretch.specs.Common.{lcp}
use Rattle.stretch.specs.Same.{same}
use Rattle.stretch.proofs.Cases.{by_cases}

pub lcp-nil : (xs : List ℕ) → lcp xs [] ≡ 0
unfolding lcp
lcp-nil [] = refl
lcp-nil (x ∷ xs) = refl

pub lcp-comm : (xs ys : List ℕ) → lcp xs ys ≡ lcp ys xs
unfolding lcp
lcp-comm [] ys = sym (lcp-nil ys)
lcp-comm (x ∷ xs) [] = refl
lcp-comm (x ∷ xs) (y ∷ ys) =
    by_cases (eqb x y)
    (λ e. rw (e, eq-eqb y x (sym (eqb-true x y e)), lcp-comm xs ys))
    (λ e. rw (e, ne_eqb y x (λ q. eqb-false x y e (sym q))))

pub lcp-le-left : (xs ys : List ℕ) → lcp xs ys ≤ length xs
unfolding lcp
lcp-le-left [] ys = omega arith
lcp-le-left (x ∷ xs) [] = omega arith
lcp-le-left (x ∷ xs) (y ∷ ys) =
    by_cases (eqb x y) (λ e. rw e (omega (arith, lcp-le-left xs ys))) (λ e. rw e (omega arith))

pub lcp-le-right : (xs ys : List ℕ) → lcp xs ys ≤ length ys
lcp-le-right xs ys = rw (lcp-comm xs ys) (lcp-le-left ys xs)

-- the first elements, as many as are shared, are the same
pub lcp-take : (xs ys : List ℕ) (i : ℕ) → i ≤ lcp xs ys → take i xs ≡ take i ys
unfolding lcp
lcp-take xs ys zero h = refl
lcp-take [] ys (suc i) h = absurd (not-suc-le-zero h)
lcp-take (x ∷ xs) [] (suc i) h = absurd (not-suc-le-zero h)
lcp-take (x ∷ xs) (y ∷ ys) (suc i) h =
    by_cases (eqb x y)
    (λ e. cc (eqb-true x y e, lcp-take xs ys i (le_of_suc-le-suc (rw e at h))))
    (λ e. absurd (not-suc-le-zero (rw e at h)))

pub lcp-past : (zs xs ys : List ℕ) → lcp (zs ++ xs) (zs ++ ys) ≡ length zs + lcp xs ys
unfolding lcp
lcp-past [] xs ys = sym (zero-add (lcp xs ys))
lcp-past (z ∷ zs) xs ys = rw (eq-eqb z z refl, lcp-past zs xs ys) (omega arith)

-- what both begin with is no longer than lcp
pub lcp-longest : (xs ys zs us vs : List ℕ) → xs ≡ zs ++ us → ys ≡ zs ++ vs → length zs ≤ lcp xs ys
lcp-longest xs ys zs us vs p q = rw (p, q, lcp-past zs us vs) (omega arith)

pub lcp-heads : (x y : ℕ) (xs ys : List ℕ) → (x ≡ y → ⊥) → lcp (x ∷ xs) (y ∷ ys) ≡ 0
unfolding lcp
lcp-heads x y xs ys n = rw (ne_eqb x y n)

-- what follows the second does not matter where they part within it
pub lcp-within : (xs ys zs : List ℕ) → lcp xs ys < length ys → lcp xs (ys ++ zs) ≡ lcp xs ys
unfolding lcp
lcp-within xs [] zs h = absurd (not-suc-le-zero h)
lcp-within [] (y ∷ ys) zs h = refl
lcp-within (x ∷ xs) (y ∷ ys) zs h =
    by_cases (eqb x y) (λ e. rw (e, lcp-within xs ys zs (le_of_suc-le-suc (rw e at h)))) (λ e. rw e)

-- and goes on where they don't
pub lcp-through : (xs ys zs : List ℕ) → length ys ≤ lcp xs ys
    → lcp xs (ys ++ zs) ≡ length ys + lcp (drop (length ys) xs) zs
lcp-through xs ys zs h =
    let e : take (length ys) xs ≡ ys = lcp-take xs ys (length ys) h ∙ take-length ys in
    ap (λ (l : List ℕ). lcp l (ys ++ zs)) (sym (take-append-drop (length ys) xs))
    ∙ rw e (lcp-past ys (drop (length ys) xs) zs)

-- equal stretches are shared whole
pub same-lcp : (a b : List ℕ) → length a ≡ length b → same a b ≡ eqb (lcp a b) (length a)
unfolding lcp same
same-lcp [] [] h = refl
same-lcp [] (y ∷ b) h = absurd (omega arith)
same-lcp (x ∷ a) [] h = absurd (omega arith)
same-lcp (x ∷ a) (y ∷ b) h =
    by_cases (eqb x y)
    (λ e. rw e (same-lcp a b (omega arith) ∙ sym (eqb-suc-suc (lcp a b) (length a))))
    (λ e. rw e (sym (eqb-zero-suc (length a))))

-- a loop that has passed i elements: the next n are the same, or the next one is another
module _ (a b : List ℕ) (i : ℕ) where
  pub lcp-on : (n : ℕ) → i + n ≤ length a → i + n ≤ length b → take n (drop i a) ≡ take n (drop i b)
      → lcp a b ≡ i + lcp (drop i a) (drop i b) → lcp a b ≡ i + n + lcp (drop (i + n) a) (drop (i + n) b)
  lcp-on n h g e inv =
      let room : n ≤ length (drop i b) = simp length-drop (omega arith) in
      let next : lcp (drop i a) (drop i b) ≡ n + lcp (drop (i + n) a) (drop (i + n) b)
      = ap (λ (l : List ℕ). lcp l (drop i b))
      (sym (take-append-drop n (drop i a)) ∙ ap (λ (l : List ℕ). l ++ drop n (drop i a)) e)
      ∙ ap (λ (l : List ℕ). lcp (take n (drop i b) ++ drop n (drop i a)) l) (sym (take-append-drop n (drop i b)))
      ∙ lcp-past (take n (drop i b)) (drop n (drop i a)) (drop n (drop i b))
      ∙ rw (length-take-le n (drop i b) room, drop-drop, drop-drop) in
      omega arith

  pub lcp-here : i < length a → i < length b → (get_or a i 0 ≡ get_or b i 0 → ⊥)
      → lcp a b ≡ i + lcp (drop i a) (drop i b)
      → lcp a b ≡ i
  lcp-here h g n inv = inv ∙ rw (drop-cons a i 0 h, drop-cons b i 0 g, lcp-heads _ _ _ _ n) (add-zero i)

-- the next element alone
pub take-one : (a b : List ℕ) (i j : ℕ) → i < length a → j < length b → get_or a i 0 ≡ get_or b j 0
    → take 1 (drop i a) ≡ take 1 (drop j b)
take-one a b i j h g e = rw (drop-cons a i 0 h, drop-cons b j 0 g, e)
