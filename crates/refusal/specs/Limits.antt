-- Document 01, "Coordinates and letters" and "Texts and identifiers": the limits. Those of an image stand with its
-- fields, in crate `image`.
use Rattle.std.specs.Prelude.{ℕ}

-- residues of a reference, and of all parts of a running digest together
abbrev pub reference_limit : ℕ
reference_limit = 1_000_000_000

-- residues of a replacement as given
abbrev pub replacement_limit : ℕ
replacement_limit = 1_000_000

-- residues of the sequence in an allele text that is read: a reference and a replacement together
abbrev pub sequence_limit : ℕ
sequence_limit = 1_001_000_000
