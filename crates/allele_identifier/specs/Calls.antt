-- What the calls on an allele's text and identifier promise: the grounds of each in document 01's order, and what is
-- written.
use Rattle.std.specs.Prelude.{ℕ, List, [], ◌∷◌, ◌++◌, length, Result}
use Rattle.stretch.specs.Over.{over}
use Rattle.refusal.specs.Verdict.{Ground}
use Rattle.refusal.specs.Keeps.{Keeps}
use Rattle.refusal.specs.Writes.{write_verdict, WritesUnless}
use Rattle.refusal.specs.declared.Refusal.{Refusal}
use Rattle.alphabets.specs.Alphabets.{foreign_normal, digest_text_grounds}
use Rattle.normal_form.specs.Form.{normal}
use Rattle.moved.specs.Moved.{moved_by}
use Rattle.normal_form_calls.specs.Calls.{given_grounds}
use Rattle.allele_identifier.specs.declared.Identified.{Identified}
use Rattle.allele_identifier.specs.Identifier.{text_of, identifier_of}

-- an allele and the digest of its sequence: 1, 2, 3, 4, then 7, then 5
unfoldable pub allele_grounds : List ℕ → ℕ → ℕ → List ℕ → List ℕ → List Ground
allele_grounds r start end x digest =
    given_grounds r start end x
    ++ (digest_text_grounds digest ++ (foreign_normal (normal r start end x).replacement ∷ []))

-- the allele text: 1, 2, 3, 4, 7, 5, 6
abbrev pub WritesAllele : List ℕ → ℕ → ℕ → List ℕ → List ℕ → List ℕ → ℕ → Result ℕ Refusal → List ℕ → Type 0
WritesAllele r start end x digest =
    WritesUnless (allele_grounds r start end x digest) (text_of (normal r start end x) digest)

-- the allele's identifier, with how far its form moved: the same
unfoldable pub IdentifiesAllele : List ℕ → ℕ → ℕ → List ℕ → List ℕ → List ℕ → ℕ → Result Identified Refusal
    → List ℕ → Type 0
IdentifiesAllele r start end x digest out place =
    let text = identifier_of (normal r start end x) digest in
    Keeps (write_verdict (allele_grounds r start end x digest) text out place)
    (record { length = length text; moved = moved_by r start end x }) out (over out place text)
