-- Document 01, "The line program": what a line says.
use Rattle.std.specs.Prelude.{ℕ, ◌≤◌, ◌≡◌, cond, List, [], ◌∷◌, length, drop, Option, Some, None}
use Rattle.stretch.specs.Ascii.{ascii}
use Rattle.stretch.specs.Same.{same}
use Rattle.decimals.specs.Number.{number_of}
use Rattle.fields.specs.Cut.{parted}
use Rattle.input_line.specs.declared.Line.{Line}

-- what parts the fields of a line, and what ends a line
abbrev pub space : ℕ
space = 0x20

abbrev pub line_feed : ℕ
line_feed = 0x0A

-- what a line says: nothing that can be read, or an allele's start, end and replacement
pub data Meaning : Type 0 where
  unread : Meaning
  allele : ℕ → ℕ → List ℕ → Meaning

-- a field that is a full stop alone is the empty replacement; any other is the replacement itself
unfoldable pub replacement_of : List ℕ → List ℕ
replacement_of field = cond (same field (ascii ".")) [] field

-- two numbers and a replacement
abbrev pub numbered : Option ℕ → Option ℕ → List ℕ → Meaning
numbered (Some start) (Some end) x = allele start end x
numbered (Some start) None x = unread
numbered None end x = unread

-- three fields, of which none is empty: an empty one is no number either
abbrev pub meaning_of_fields : List (List ℕ) → Meaning
meaning_of_fields [] = unread
meaning_of_fields (a ∷ []) = unread
meaning_of_fields (a ∷ b ∷ []) = unread
meaning_of_fields (a ∷ b ∷ [] ∷ []) = unread
meaning_of_fields (a ∷ b ∷ (c ∷ x) ∷ []) = numbered (number_of a) (number_of b) (replacement_of (c ∷ x))
meaning_of_fields (a ∷ b ∷ x ∷ y ∷ fields) = unread

-- the fields are parted by single spaces
unfoldable pub meaning_of : List ℕ → Meaning
meaning_of line = meaning_of_fields (parted space line)

-- a read line's answer has the replacement as the rest of the line from a place on
abbrev pub answer_meaning : List ℕ → Option Line → Meaning
answer_meaning line None = unread
answer_meaning line (Some l) = allele l.start l.end (drop l.from line)

-- that place, 0 where there is none
abbrev pub place_in : Option Line → ℕ
place_in None = 0
place_in (Some l) = l.from

-- the answer means what the line says, and its place lies in the line
pub record ReadsLine (line : List ℕ) (answer : Option Line) : Type 0 where
  pub means : answer_meaning line answer ≡ meaning_of line
  pub inside : place_in answer ≤ length line
