-- What the code's inner functions promise each other.
use Rattle.std.specs.Prelude.{ℕ, ◌+◌, ◌<◌, ◌≡◌, List, ◌∷◌, length, drop}
use Rattle.stretch.specs.Part.{part}
use Rattle.fields.specs.Cut.{parted}
use Rattle.input_line.specs.Meaning.{space}

-- a line whose first field ends at one place and whose second field ends at another
pub record Fields (line : List ℕ) (first second : ℕ) : Type 0 where
  pub apart : first < second
  pub room : second < length line
  pub pieces : parted space line ≡ part line 0 first ∷ part line (first + 1) second
      ∷ parted space (drop (second + 1) line)
