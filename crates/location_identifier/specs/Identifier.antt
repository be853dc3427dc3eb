-- Document 01, "Texts and identifiers": the identifier of a location.
use Rattle.std.specs.Prelude.{ℕ, ◌+◌, List, ◌++◌, length}
use Rattle.stretch.specs.Ascii.{ascii}
use Rattle.alphabets.specs.Alphabets.{digest_length}
use Rattle.text.specs.Layout.{location_text}
use Rattle.digest_text.specs.Digest.{sha512t24u}

abbrev pub location_prefix : List ℕ
location_prefix = ascii "ga4gh:VSL."

-- over the location text
unfoldable pub location_identifier : ℕ → ℕ → List ℕ → List ℕ
location_identifier start end digest = location_prefix ++ sha512t24u (location_text start end digest)

abbrev pub location_identifier_length : ℕ
location_identifier_length = length location_prefix + digest_length
