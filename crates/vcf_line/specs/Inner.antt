-- What the code's inner functions promise each other.
use Rattle.std.specs.Prelude.{ℕ, List, [], ◌∷◌, length, Option, Some, None, Result}
use Rattle.std.specs.Option.{option_map, unwrap_or}
use Rattle.refusal.specs.declared.Refusal.{Refusal}
use Rattle.refusal.specs.Verdict.{verdict, tell}
use Rattle.decimals.specs.Number.{number_within}
use Rattle.fields.specs.declared.Extent.{Extent}
use Rattle.fields.specs.Cut.{piece_of}
use Rattle.vcf_line.specs.declared.Columns.{Columns}
use Rattle.vcf_line.specs.declared.InterbasePosition.{InterbasePosition}
use Rattle.vcf_line.specs.declared.ResiduePosition.{ResiduePosition}
use Rattle.vcf_line.specs.declared.Site.{Site}
use Rattle.vcf_line.specs.Line.{tab, past, start_of, end_of}
use Rattle.vcf_line.specs.Calls.{ref_differs, line_grounds}

-- POS, REF and ALT, where the line has all three
abbrev pub five_of : Option Extent → Option Extent → Option Extent → Option Columns
five_of (Some p) (Some r) (Some a) = Some (record { pos = p; reference = r; alternates = a })
five_of (Some p) (Some r) None = None
five_of (Some p) None a = None
five_of None r a = None

unfoldable pub columns_of : List ℕ → Option Columns
columns_of line = five_of (piece_of tab line 0 1) (piece_of tab line 0 3) (piece_of tab line 0 4)

-- a number as a residue's position
abbrev pub residue_of : ℕ → ResiduePosition
residue_of n = record { 0 = n }

abbrev pub position_within : ℕ → List ℕ → Option ResiduePosition
position_within n text = option_map residue_of (number_within 1 n text)

-- where a piece lies, 0 to 0 where there is none
abbrev pub extent_in : Option Extent → Extent
extent_in piece = unwrap_or piece (record { from = 0; to = 0 })

abbrev pub site_of : List ℕ → Site
site_of line = record { start = start_of line; end = end_of line; alternates = extent_in (piece_of tab line 0 4) }

-- 20 alone, of a line that has passed 1 and 19
abbrev pub compared : List ℕ → InterbasePosition → List ℕ → Extent → Result Site Refusal
compared r start ref alternates =
    tell (verdict (ref_differs r start ref ∷ []))
    (record { start = start; end = past start (length ref); alternates = alternates })

-- what `read_site` answers
abbrev pub sited : List ℕ → List ℕ → Result Site Refusal
sited r line = tell (verdict (line_grounds r line)) (site_of line)
