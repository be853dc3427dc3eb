-- What the calls on a location's text and identifier promise: the grounds of each in document 01's order, and what is
-- written.
use Rattle.std.specs.Prelude.{ℕ, List, [], ◌∷◌, ◌++◌, Result}
use Rattle.refusal.specs.Grounds.{reference_over_limit, start_above_end, end_above_reference}
use Rattle.refusal.specs.Verdict.{Ground}
use Rattle.refusal.specs.Writes.{WritesUnless}
use Rattle.refusal.specs.declared.Refusal.{Refusal}
use Rattle.alphabets.specs.Alphabets.{digest_text_grounds}
use Rattle.text.specs.Layout.{location_text}
use Rattle.location_identifier.specs.Identifier.{location_identifier}

-- an interval on a reference of length n: 1, 2, 3
abbrev pub interval_grounds : ℕ → ℕ → ℕ → List Ground
interval_grounds n start end = reference_over_limit n ∷ start_above_end start end ∷ end_above_reference n end ∷ []

-- a location: 1, 2, 3, 7
unfoldable pub location_grounds : ℕ → ℕ → ℕ → List ℕ → List Ground
location_grounds n start end digest = interval_grounds n start end ++ digest_text_grounds digest

-- the location text, and the location's identifier: 1, 2, 3, 7, 6
abbrev pub WritesLocation : ℕ → ℕ → ℕ → List ℕ → List ℕ → ℕ → Result ℕ Refusal → List ℕ → Type 0
WritesLocation n start end digest = WritesUnless (location_grounds n start end digest) (location_text start end digest)

abbrev pub IdentifiesLocation : ℕ → ℕ → ℕ → List ℕ → List ℕ → ℕ → Result ℕ Refusal → List ℕ → Type 0
IdentifiesLocation n start end digest =
    WritesUnless (location_grounds n start end digest) (location_identifier start end digest)
