-- How far two stretches agree, from the front and from the back.
use Rattle.std.specs.Prelude.{ℕ, suc, cond, List, [], ◌∷◌, reverse, eqb}

-- the length of the longest common prefix
unfoldable pub lcp : List ℕ → List ℕ → ℕ
lcp [] ys = 0
lcp (x ∷ xs) [] = 0
lcp (x ∷ xs) (y ∷ ys) = cond (eqb x y) (suc (lcp xs ys)) 0

-- the length of the longest common suffix
unfoldable pub lcs : List ℕ → List ℕ → ℕ
lcs xs ys = lcp (reverse xs) (reverse ys)
