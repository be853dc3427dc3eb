-- Document 01, "Texts and identifiers": the location text and the allele text, for writing and for reading.
use Rattle.std.specs.Prelude.{ℕ, ◌+◌, List, ◌++◌, length}
use Rattle.stretch.specs.Ascii.{ascii}
use Rattle.decimals.specs.Decimal.{decimal}

-- what stands before the end, between end and start, between start and the sequence digest, after it
abbrev pub before_end : List ℕ
before_end = ascii "{\"interval\":{\"end\":"

abbrev pub before_start : List ℕ
before_start = ascii ",\"start\":"

abbrev pub before_digest : List ℕ
before_digest = ascii ",\"type\":\"SimpleInterval\"},\"sequence_id\":\""

abbrev pub after_digest : List ℕ
after_digest = ascii "\",\"type\":\"SequenceLocation\"}"

-- the location text of T, E and D
unfoldable pub location_text : ℕ → ℕ → List ℕ → List ℕ
location_text start end digest =
    before_end ++ (decimal end ++ (before_start ++ (decimal start ++ (before_digest ++ (digest ++ after_digest)))))

-- the bytes of its words
abbrev pub location_words : ℕ
location_words = length before_end + length before_start + length before_digest + length after_digest

-- what stands before the location's digest, between it and the replacement, after the replacement
abbrev pub before_location : List ℕ
before_location = ascii "{\"location\":\""

abbrev pub before_sequence : List ℕ
before_sequence = ascii "\",\"state\":{\"sequence\":\""

abbrev pub after_sequence : List ℕ
after_sequence = ascii "\",\"type\":\"SequenceState\"},\"type\":\"Allele\"}"

-- the allele text of L and X
unfoldable pub allele_text : List ℕ → List ℕ → List ℕ
allele_text location replacement =
    before_location ++ (location ++ (before_sequence ++ (replacement ++ after_sequence)))

-- the bytes of its words
abbrev pub allele_words : ℕ
allele_words = length before_location + length before_sequence + length after_sequence
