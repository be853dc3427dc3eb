-- Whether two stretches are one, and what follows where they are and where they are not.
use Prim.Native.Nat.{ℕ}
use mathlib.Core.Path.{◌≡◌, refl, sym, ◌∙◌, ap}
use mathlib.Core.Bool.{Bool, true, false, cond, false≢true}
use mathlib.Core.List.{List, [], ◌∷◌}
use lib.Dec.{eqb}
use lib.ListN.{length}
use borrow.Author.Tests.{eq-eqb, eqb-true}
use Rattle.std.specs.Cmp.Lexicographic.{pointwise}
use Rattle.stretch.specs.Same.{same}
use Rattle.stretch.proofs.Cases.{by_cases}

pub same_refl : (a : List ℕ) → same a a ≡ true
unfolding same
same_refl [] = refl
same_refl (x ∷ a) = rw (eq-eqb x x refl) (same_refl a)

cons-eq : (x y : ℕ) (a b : List ℕ) (t : Bool) → eqb x y ≡ t → (same a b ≡ true → a ≡ b)
    → cond t (same a b) false ≡ true → x ∷ a ≡ y ∷ b
cons-eq x y a b true e f h = cc (eqb-true x y e, f h)
cons-eq x y a b false e f h = cc

pub same-eq : (a b : List ℕ) → same a b ≡ true → a ≡ b
unfolding same
same-eq [] [] h = refl
same-eq [] (y ∷ b) h = cc
same-eq (x ∷ a) [] h = cc
same-eq (x ∷ a) (y ∷ b) h = cons-eq x y a b (eqb x y) refl (same-eq a b) h

pub same-apart : (a b : List ℕ) → same a b ≡ false → a ≡ b → ⊥
same-apart a b t e = false≢true (sym t ∙ rw (← e) (same_refl a))

pub same-unlike : (a b : List ℕ) → (a ≡ b → ⊥) → same a b ≡ false
same-unlike a b n = by_cases (same a b) (λ e. absurd (n (same-eq a b e))) (λ e. e)

pub same-lengths : (a b : List ℕ) → (length a ≡ length b → ⊥) → same a b ≡ false
same-lengths a b n = same-unlike a b (λ e. n (ap length e))

-- it is what `==` tests
pub same-pointwise : (a b : List ℕ) → pointwise eqb a b ≡ same a b
unfolding same
same-pointwise [] [] = refl
same-pointwise [] (y ∷ b) = refl
same-pointwise (x ∷ a) [] = refl
same-pointwise (x ∷ a) (y ∷ b) = by_cases (eqb x y) (λ e. rw (e, same-pointwise a b)) (λ e. rw e)
