-- From line to line through an input: what each step writes, and what is still to be printed after it.
use Rattle.std.specs.Prelude.{ℕ, ◌+◌, ◌<◌, ◌≤◌, ◌≡◌, List, [], ◌∷◌, ◌++◌, length, take, drop}
use Rattle.stretch.specs.Over.{Wrote}
use Rattle.stretch.specs.Part.{part}
use Rattle.fields.specs.Cut.{parted, next_of}
use Rattle.input_line.specs.Meaning.{line_feed}
use Rattle.answer_line.specs.Answers.{answer_line, beyond}
use Rattle.lines.specs.declared.Step.{Step}
use Rattle.lines.specs.Output.{ended, answers_to, output, input_limit}

-- the reference, and the line where a step has come to
abbrev pub reference_of : List ℕ → Step → List ℕ
reference_of input s = part input 0 s.reference

abbrev pub line_at : List ℕ → Step → List ℕ
line_at input s = part input s.next (next_of line_feed input s.next)

-- what is to be printed from there on
abbrev pub rest : List ℕ → Step → List ℕ
rest input s = answers_to (reference_of input s) (ended (parted line_feed (drop s.next input)))

-- an input that is read whole
abbrev pub Read : List ℕ → Type 0
Read input = length input ≤ input_limit

-- and a buffer that has room for each of its answers
abbrev pub Enough : List ℕ → List ℕ → Type 0
Enough input out = (Read input) × (length input + beyond ≤ length out)

-- the first step goes after the first line, and all that is printed is still to be printed
pub record Starts (input : List ℕ) (to : Step) : Type 0 where
  pub reference : to.reference ≡ next_of line_feed input 0
  pub next : to.next ≡ to.reference + 1
  pub written : to.written ≡ 0
  pub whole : output input ≡ rest input to

-- a further step can be taken: the reference is after, some of the input is left, and there is room for any answer
pub record Ready (input : List ℕ) (from : Step) (out : List ℕ) : Type 0 where
  pub behind : from.reference < from.next
  pub left : from.next < length input
  pub room : length input + beyond ≤ length out

-- it writes the answer to the line, which is to be printed before all that is to be printed after it
pub record Steps (input : List ℕ) (from : Step) (out : List ℕ) (to : Step) (left : List ℕ) : Type 0 where
  pub reference : to.reference ≡ from.reference
  pub next : to.next ≡ next_of line_feed input from.next + 1
  pub line : Wrote out 0 (answer_line (reference_of input from) (line_at input from)) left to.written
  pub whole : rest input from ≡ take to.written left ++ rest input to

-- what steps write, one after another, until nothing of the input is left
pub data Pieces (input : List ℕ) : Step → List (List ℕ) → Type 0 where
  none : (s : Step) → length input ≤ s.next → Pieces input s []
  one : (s t : Step) (out left : List ℕ) (ps : List (List ℕ)) → Steps input s out t left → Pieces input t ps
      → Pieces input s (take t.written left ∷ ps)

-- pieces put one after another
abbrev pub in_a_row : List (List ℕ) → List ℕ
in_a_row [] = []
in_a_row (p ∷ ps) = p ++ in_a_row ps
