-- A stretch turned round, which is how it is read from its back.
use Rattle.std.specs.Prelude.{ℕ, ◌≡◌, refl, List, [], ◌∷◌, ◌++◌, map, reverse}
use mathlib.Core.Path.{◌∙◌, sym, ap}
use mathlib.Core.List.{reverse-append}
use Rattle.std.proofs.lemmas.List.{map-append}

pub reverse-map : (f : ℕ → ℕ) (s : List ℕ) → reverse (map f s) ≡ map f (reverse s)
reverse-map f [] = refl
reverse-map f (x ∷ s) =
    reverse-append (f x ∷ []) (map f s)
    ∙ ap (λ (l : List ℕ). l ++ (f x ∷ [])) (reverse-map f s)
    ∙ sym (ap (map f) (reverse-append (x ∷ []) s) ∙ map-append f (reverse s) (x ∷ []))
