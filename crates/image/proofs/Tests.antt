-- Tests as the code takes them: several together, one of several that pass, and the test of a class by its first byte
-- outside.
use Prim.Native.Nat.{ℕ}
use mathlib.Core.Path.{◌≡◌, refl, ◌∙◌, sym}
use mathlib.Core.Bool.{Bool, true, false, cond}
use mathlib.Core.List.{List, [], ◌∷◌, ◌++◌}
use borrow.Author.Tests.{eqb-true, eq-eqb}
use lib.Dec.{eqb}
use lib.ListN.{length}
use Rattle.stretch.proofs.Cases.{by_cases}
use Rattle.stretch.specs.Class.{every, first_outside}
use Rattle.stretch.proofs.Outside.{first_outside-all, first_outside-every}
use Rattle.image.specs.Formed.{all}

pub all_append : (ts us : List Bool) → all (ts ++ us) ≡ cond (all ts) (all us) false
all_append [] us = refl
all_append (t ∷ ts) us = by_cases t (λ e. rw e (all_append ts us)) (λ e. rw e)

pub all_one : (t : Bool) → all (t ∷ []) ≡ t
all_one true = refl
all_one false = refl

-- the first of the tests that pass, and the others
pub cond_both : (t u : Bool) → cond t u false ≡ true → (t ≡ true) × (u ≡ true)
cond_both true u h = (refl, h)
cond_both false u h = (cc, cc)

-- the last of them
pub cond-last : (t : Bool) → cond t true false ≡ true → t ≡ true
cond-last t h = (cond_both t true h).0

pub outside-end : (p : ℕ → Bool) (s : List ℕ) (n : ℕ) → length s ≡ n → eqb (first_outside p s) n ≡ every p s
outside-end p s n e =
    by_cases (eqb (first_outside p s) n)
    (λ t. t ∙ sym (first_outside-all p s (eqb-true _ _ t ∙ sym e)))
    (λ f. by_cases (every p s) (λ t. cc (f, eq-eqb _ _ (first_outside-every p s t ∙ e))) (λ g. f ∙ sym g))
