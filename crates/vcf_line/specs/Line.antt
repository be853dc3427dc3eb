-- Source document 002, section 1.6: what a data line says in its first five columns, CHROM, POS, ID, REF and ALT.
use Rattle.std.specs.Prelude.{ℕ, ◌+◌, ◌-◌, List, [], ◌∷◌, length, get_or}
use Rattle.decimals.specs.Number.{value}
use Rattle.fields.specs.Cut.{parted}
use Rattle.vcf_line.specs.declared.ResiduePosition.{ResiduePosition}
use Rattle.vcf_line.specs.declared.InterbasePosition.{InterbasePosition}

-- what parts the columns, and what parts the alternates
abbrev pub tab : ℕ
tab = 0x09

abbrev pub comma : ℕ
comma = 0x2C

abbrev pub columns : List ℕ → List (List ℕ)
columns line = parted tab line

-- the column of a number, from 0; empty where the line does not have it
abbrev pub column : List ℕ → ℕ → List ℕ
column line i = get_or (columns line) i []

abbrev pub pos_column : List ℕ → List ℕ
pos_column line = column line 1

abbrev pub ref_column : List ℕ → List ℕ
ref_column line = column line 3

abbrev pub alt_column : List ℕ → List ℕ
alt_column line = column line 4

-- the residue that POS names, counted from 1
abbrev pub position : List ℕ → ResiduePosition
position line = record { 0 = value (pos_column line) }

-- the position before a residue: the one place where a residue's count becomes one between residues
abbrev pub before : ResiduePosition → InterbasePosition
before residue = record { 0 = residue.0 - 1 }

-- so many residues further
abbrev pub past : InterbasePosition → ℕ → InterbasePosition
past start residues = record { 0 = start.0 + residues }

-- start is POS less 1, end is start and the length of REF
abbrev pub start_of : List ℕ → InterbasePosition
start_of line = before (position line)

abbrev pub end_of : List ℕ → InterbasePosition
end_of line = past (start_of line) (length (ref_column line))

-- the alternates, at the places of ALT
abbrev pub alternates : List ℕ → List (List ℕ)
alternates line = parted comma (alt_column line)

-- the alternate at a place, from 1; empty where there is no such place
abbrev pub at_place : List (List ℕ) → ℕ → List ℕ
at_place alts place = get_or ([] ∷ alts) place []
