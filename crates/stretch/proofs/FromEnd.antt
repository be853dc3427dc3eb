-- Stretches that are compared from one of their ends, the second by what is read of its bytes.
use Prim.Native.Nat.{ℕ, ◌+◌, ◌*◌, ◌<◌, ◌≤◌, min}
use native.Mathlib.Omega.{arith}
use mathlib.Core.Path.{◌≡◌, refl, ◌∙◌, sym, ap}
use mathlib.Core.Bool.{Bool, true, false, ◌&&◌}
use mathlib.Core.List.{List, [], ◌∷◌, map}
use lib.Dec.{eqb}
use lib.ListN.{length, get_or, take, drop, length-map, get_or-map}
use borrow.Author.Tests.{eqb-true}
use Rattle.std.specs.List.{fold, zip}
use Rattle.std.proofs.lemmas.Grind.{get_or_default_zero}
use Rattle.std.proofs.lemmas.List.{drop-map, take-map}
use Rattle.std.proofs.lemmas.List.Folds.{fold_stays}
use Rattle.stretch.specs.Common.{lcp}
use Rattle.stretch.proofs.Cases.{by_cases}
use Rattle.stretch.proofs.Common.{lcp-on, lcp-here, lcp-le-left, lcp-le-right, take-one}

-- a test of all pairs, each held against what was found so far
module _ (reads : ℕ → ℕ) where
  abbrev pub still : Bool → ℕ × ℕ → Bool
  still all p = all && eqb p.0 (reads p.1)

  pub same-read : (xs ys : List ℕ) → length xs ≡ length ys → fold still true (zip xs ys) ≡ true → xs ≡ map reads ys
  same-read [] [] e h = refl
  same-read [] (y ∷ ys) e h = absurd (omega arith)
  same-read (x ∷ xs) [] e h = absurd (omega arith)
  same-read (x ∷ xs) (y ∷ ys) e h =
      by_cases (eqb x (reads y))
      (λ t. cc (eqb-true x (reads y) t, same-read xs ys (omega arith) (rw (fold, t) at h)))
      (λ t. cc (fold_stays still false (λ p. refl) (zip xs ys), rw (fold, t) at h))

module _ (order : List ℕ → List ℕ) (long : (s : List ℕ) → length (order s) ≡ length s)
    (maps : (f : ℕ → ℕ) (s : List ℕ) → order (map f s) ≡ map f (order s)) (reads : ℕ → ℕ) (a b : List ℕ) where
  abbrev pub left : List ℕ
  left = order a

  abbrev pub right : List ℕ
  right = order (map reads b)

  length-right : length right ≡ length b
  length-right = long (map reads b) ∙ length-map b reads

  -- a loop that has passed i words: the next is the same
  pub word-on : (i : ℕ) (x y : List ℕ) → i * 8 + 8 ≤ length a → i * 8 + 8 ≤ length b → x ≡ map reads y
      → order x ≡ take 8 (drop (i * 8) left) → order y ≡ take 8 (drop (i * 8) (order b))
      → lcp left right ≡ i * 8 + lcp (drop (i * 8) left) (drop (i * 8) right)
      → lcp left right ≡ (i + 1) * 8 + lcp (drop ((i + 1) * 8) left) (drop ((i + 1) * 8) right)
  word-on i x y h g e p q inv =
      let next : i * 8 + 8 ≡ (i + 1) * 8 = omega arith in
      let same : take 8 (drop (i * 8) left) ≡ take 8 (drop (i * 8) right)
      = sym p ∙ ap order e ∙ maps reads y ∙ ap (map reads) q
      ∙ rw (maps reads b) (simp (drop-map, take-map)) in
      rw (← next) (lcp-on left right (i * 8) 8 (omega (arith, long a)) (omega (arith, length-right)) same inv)

  -- and one that has passed i bytes
  at : (i : ℕ) → i < length b → get_or right i 0 ≡ reads (get_or (order b) i 0)
  at i g =
      ap (λ (l : List ℕ). get_or l i 0) (maps reads b)
      ∙ sym (get_or_default_zero (map reads (order b)) i (reads 0) (omega (arith, length-map (order b) reads, long b)))
      ∙ get_or-map reads (order b) i 0

  module _ (i : ℕ) (x y : ℕ) (h : i < length a) (g : i < length b) (p : x ≡ get_or left i 0)
      (q : y ≡ reads (get_or (order b) i 0))
      (inv : lcp left right ≡ i + lcp (drop i left) (drop i right)) where
    pub byte-on : x ≡ y → lcp left right ≡ i + 1 + lcp (drop (i + 1) left) (drop (i + 1) right)
    byte-on e =
        lcp-on left right i 1 (omega (arith, long a)) (omega (arith, length-right))
        (take-one left right i i (omega (arith, long a)) (omega (arith, length-right))
        (sym p ∙ e ∙ q ∙ sym (at i g))) inv

    pub byte-here : (x ≡ y → ⊥) → i ≡ lcp left right
    byte-here n =
        sym (lcp-here left right i (omega (arith, long a)) (omega (arith, length-right))
        (λ e. n (p ∙ e ∙ at i g ∙ sym q)) inv)

  -- or all that there are
  pub byte-end : (i : ℕ) → min (length a) (length b) ≤ i
      → lcp left right ≡ i + lcp (drop i left) (drop i right) → i ≡ lcp left right
  byte-end i h inv =
      omega (arith, lcp-le-left left right, lcp-le-right left right, long a, length-right)
