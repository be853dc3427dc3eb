-- A text cut at each byte of one value.
use Rattle.std.specs.Prelude.{ℕ, zero, suc, ◌+◌, Bool, not, cond, List, [], ◌∷◌, eqb, ltb, length, drop}
use Rattle.std.specs.Prelude.{Option, Some, None}
use Rattle.stretch.specs.Class.{first_outside}
use Rattle.fields.specs.declared.Extent.{Extent}

-- c put on the front of the first piece
abbrev pub on_first : ℕ → List (List ℕ) → List (List ℕ)
on_first c [] = (c ∷ []) ∷ []
on_first c (p ∷ ps) = (c ∷ p) ∷ ps

-- the pieces, which may be empty, and are one more than the cuts
unfoldable pub parted : ℕ → List ℕ → List (List ℕ)
parted mark [] = [] ∷ []
parted mark (c ∷ s) = cond (eqb c mark) ([] ∷ parted mark s) (on_first c (parted mark s))

-- c is no mark
abbrev pub other : ℕ → ℕ → Bool
other mark c = not (eqb c mark)

-- where the first piece ends: the offset of the first mark, or the length where there is none
abbrev pub first_of : ℕ → List ℕ → ℕ
first_of mark s = first_outside (other mark) s

-- the same from a place on; the place itself where that is past the end
abbrev pub next_of : ℕ → List ℕ → ℕ → ℕ
next_of mark s from = from + first_of mark (drop from s)

-- where the piece of a number, from 0, lies of those from a place on
unfoldable pub piece_of : ℕ → List ℕ → ℕ → ℕ → Option Extent
piece_of mark s from zero = Some (record { from = from; to = next_of mark s from })
piece_of mark s from (suc k) =
    cond (ltb (next_of mark s from) (length s)) (piece_of mark s (next_of mark s from + 1) k) None

-- the same of those behind a piece that ends at a place: there are none where it ends the text
abbrev pub piece_after : ℕ → List ℕ → ℕ → ℕ → Option Extent
piece_after mark s end k = cond (ltb end (length s)) (piece_of mark s (end + 1) k) None
