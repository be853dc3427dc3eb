-- Document 01, "Texts and identifiers": a sequence's identifier.
use Rattle.std.specs.Prelude.{ℕ, ◌+◌, List, ◌++◌, length}
use Rattle.stretch.specs.Ascii.{ascii}
use Rattle.alphabets.specs.Alphabets.{digest_length}
use Rattle.digest_text.specs.Digest.{sha512t24u}

abbrev pub sequence_prefix : List ℕ
sequence_prefix = ascii "ga4gh:SQ."

unfoldable pub sequence_identifier : List ℕ → List ℕ
sequence_identifier residues = sequence_prefix ++ sha512t24u residues

abbrev pub sequence_identifier_length : ℕ
sequence_identifier_length = length sequence_prefix + digest_length
