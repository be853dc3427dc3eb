-- Document 01, "The line program", and document 02, Q-5: what is printed for a line.
use Rattle.std.specs.Prelude.{ℕ, ◌+◌, ◌≤◌, List, [], ◌∷◌, ◌++◌, length}
use Rattle.stretch.specs.Ascii.{ascii}
use Rattle.refusal.specs.Numbers.{number_of}
use Rattle.refusal.specs.Verdict.{Verdict, accepted, refused, verdict}
use Rattle.normal_form.specs.declared.Kind.{Kind}
use Rattle.normal_form.specs.declared.Kind.TheVariants.{Unchanged, Substitution, Indel}
use Rattle.normal_form.specs.Form.{Normal, normal}
use Rattle.moved.specs.declared.Moved.{Moved}
use Rattle.moved.specs.Moved.{moved_by}
use Rattle.normal_form_calls.specs.Calls.{form_grounds}
use Rattle.decimals.specs.Decimal.{decimal}
use Rattle.input_line.specs.Meaning.{Meaning, unread, allele, meaning_of, space, line_feed}

-- a kind in words
abbrev pub word : Kind → List ℕ
word Unchanged = ascii "unchanged"
word Substitution = ascii "substitution"
word Indel = ascii "indel"

-- an empty replacement is printed as a full stop
abbrev pub shown : List ℕ → List ℕ
shown [] = ascii "."
shown (c ∷ x) = c ∷ x

-- a number after a space
abbrev pub spaced : ℕ → List ℕ
spaced n = space ∷ decimal n

-- how far a form moved: left widened, left shrunk, right widened, right shrunk
abbrev pub shown_moves : Moved → List ℕ
shown_moves m =
    spaced m.left.widened
    ++ (spaced m.left.shrunk ++ (spaced m.right.widened ++ spaced m.right.shrunk))

-- normal start, end, kind, replacement, and how far it moved
abbrev pub form_reply : Normal → Moved → List ℕ
form_reply f m = decimal f.start
    ++ (space ∷ (decimal f.end ++ (space ∷ (word f.kind ++ (space ∷ (shown f.replacement ++ shown_moves m))))))

-- a refusal's number, or the normal form
abbrev pub verdict_text : Verdict → Normal → Moved → List ℕ
verdict_text (refused q) f m = ascii "refused " ++ decimal (number_of q.reason)
verdict_text accepted f m = form_reply f m

-- the answer to an allele, and to what a line says
abbrev pub allele_reply : List ℕ → ℕ → ℕ → List ℕ → List ℕ
allele_reply r start end x =
    verdict_text (verdict (form_grounds r start end x)) (normal r start end x) (moved_by r start end x)

abbrev pub meaning_text : List ℕ → Meaning → List ℕ
meaning_text r unread = ascii "unread"
meaning_text r (allele start end x) = allele_reply r start end x

-- the line that answers a line
unfoldable pub answer_line : List ℕ → List ℕ → List ℕ
answer_line r line = meaning_text r (meaning_of line) ++ (line_feed ∷ [])

-- the most bytes of an answer before its replacement: two numbers of 20 digits, a kind of 12 letters, three spaces and
-- a full stop
abbrev pub front_room : ℕ
front_room = 56

-- and after it: four numbers of 20 digits, a space before each
abbrev pub moves_room : ℕ
moves_room = 84

-- the most bytes that an answer has more than the reference and the line together: these, and a line feed
abbrev pub beyond : ℕ
beyond = front_room + moves_room + 1

-- a buffer that has room for the answer
abbrev pub Room : List ℕ → List ℕ → List ℕ → Type 0
Room r line out = length r + length line + beyond ≤ length out
