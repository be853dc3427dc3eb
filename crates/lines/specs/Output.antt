-- Document 01, "The line program": what is printed for an input.
use Rattle.std.specs.Prelude.{ℕ, List, [], ◌∷◌, ◌++◌, take}
use Rattle.fields.specs.Cut.{parted}
use Rattle.input_line.specs.Meaning.{line_feed}
use Rattle.answer_line.specs.Answers.{answer_line}

-- what follows the last line feed, if empty, is no line
abbrev pub ended : List (List ℕ) → List (List ℕ)
ended [] = []
ended ([] ∷ []) = []
ended ((c ∷ l) ∷ []) = (c ∷ l) ∷ []
ended (l ∷ m ∷ ls) = l ∷ ended (m ∷ ls)

-- the answers to lines, one after another
abbrev pub answers_to : List ℕ → List (List ℕ) → List ℕ
answers_to r [] = []
answers_to r (l ∷ ls) = answer_line r l ++ answers_to r ls

-- the first line is the reference
abbrev pub output_of : List (List ℕ) → List ℕ
output_of [] = []
output_of (r ∷ ls) = answers_to r (ended ls)

-- the answers to an input that is read whole
unfoldable pub output : List ℕ → List ℕ
output input = output_of (parted line_feed input)

-- input past this is not read
abbrev pub input_limit : ℕ
input_limit = 65536

-- what the program prints for an input of any length
unfoldable pub printed : List ℕ → List ℕ
printed input = output (take input_limit input)
