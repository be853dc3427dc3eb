-- Letters read as upper case.
use Rattle.std.specs.Prelude.{ℕ, ◌-◌, Bool, false, cond, List, map, leb, ltb, length}
use Rattle.stretch.specs.Class.{every}
use Rattle.alphabets.specs.Alphabets.{letter}

-- a letter from a to z is read as that from A to Z, any other byte as itself
unfoldable pub upper : ℕ → ℕ
upper b = cond (leb 0x61 b) (cond (leb b 0x7A) (b - 0x20) b) b

-- the bytes of a stretch, each read so
abbrev pub folded : List ℕ → List ℕ
folded s = map upper s

-- a letter in either case
abbrev pub either_case : ℕ → Bool
either_case b = letter (upper b)

-- one or more letters, in either case
unfoldable pub lettered : List ℕ → Bool
lettered s = cond (ltb 0 (length s)) (every letter (folded s)) false
