-- What a call that writes a text into a lent buffer promises, over its verdict: how many bytes it says it wrote, and
-- what it leaves.
use Rattle.std.specs.Prelude.{ℕ, List, [], ◌∷◌, ◌++◌, length, Result}
use Rattle.stretch.specs.Over.{over}
use Rattle.refusal.specs.declared.Refusal.{Refusal}
use Rattle.refusal.specs.Verdict.{Ground, Verdict, verdict}
use Rattle.refusal.specs.Grounds.{output_too_short}
use Rattle.refusal.specs.Keeps.{Keeps}

-- the text stands in the buffer from the place on, or the buffer is as it was
abbrev pub Writes : Verdict → List ℕ → List ℕ → ℕ → Result ℕ Refusal → List ℕ → Type 0
Writes v text out place = Keeps v (length text) out (over out place text)

-- the verdict on a text that is to be written: 6 after the other grounds
abbrev pub write_verdict : List Ground → List ℕ → List ℕ → ℕ → Verdict
write_verdict grounds text out place = verdict (grounds ++ (output_too_short (length out) place (length text) ∷ []))

-- the text is written from the place on where none of the grounds holds, nor 6 after them
unfoldable pub WritesUnless : List Ground → List ℕ → List ℕ → ℕ → Result ℕ Refusal → List ℕ → Type 0
WritesUnless grounds text out place = Writes (write_verdict grounds text out place) text out place
