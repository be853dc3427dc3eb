-- Document 01, "The register image": every number is 32 bits, the least significant byte first.
use Rattle.std.specs.Prelude.{ℕ, zero, suc, ◌+◌, ◌*◌, ◌/◌, ◌%◌, List, [], ◌∷◌, ◌++◌}
use Rattle.stretch.specs.Over.{over}
use Rattle.stretch.specs.Part.{part}

-- the number that bytes make
unfoldable pub little : List ℕ → ℕ
little [] = 0
little (b ∷ bs) = b + 256 * little bs

-- the first n bytes of a number
unfoldable pub bytes : ℕ → ℕ → List ℕ
bytes zero v = []
bytes (suc n) v = v % 256 ∷ bytes n (v / 256)

-- numbers, one after the other
unfoldable pub numbers : List ℕ → List ℕ
numbers [] = []
numbers (v ∷ vs) = bytes 4 v ++ numbers vs

-- the number at a place of an image
unfoldable pub number : List ℕ → ℕ → ℕ
number image at = little (part image at (at + 4))

-- the image with a number put at a place
unfoldable pub put : List ℕ → ℕ → ℕ → List ℕ
put image at v = over image at (bytes 4 v)
