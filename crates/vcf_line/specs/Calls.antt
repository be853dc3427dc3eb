-- Document 02, Q-1: the grounds 19, 20 and 21, and what the calls on a line promise.
use Rattle.std.specs.Prelude.{ℕ, not, List, [], ◌∷◌, ltb, length, drop, is_none, Result}
use Rattle.stretch.specs.Common.{lcp}
use Rattle.refusal.specs.declared.Reason.TheVariants.{NoDataLine, RefDiffers, NoAlternate}
use Rattle.refusal.specs.declared.Refusal.{Refusal}
use Rattle.refusal.specs.Verdict.{Ground, ground, verdict, tell}
use Rattle.refusal.specs.Grounds.{reference_over_limit}
use Rattle.decimals.specs.Number.{number_within}
use Rattle.upper_case.specs.Upper.{folded, lettered}
use Rattle.vcf_line.specs.declared.InterbasePosition.{InterbasePosition}
use Rattle.vcf_line.specs.Line.{columns, pos_column, ref_column, start_of, alternates}

-- 19: fewer than five columns
abbrev pub few_columns : List ℕ → Ground
few_columns line = ground (ltb (length (columns line)) 5) NoDataLine 0

-- 19: REF empty, or with a byte that is no letter
abbrev pub ref_not_lettered : List ℕ → Ground
ref_not_lettered line = ground (not (lettered (ref_column line))) NoDataLine 0

-- 19: POS no decimal from 1 to n
abbrev pub pos_no_residue : ℕ → List ℕ → Ground
pos_no_residue n line = ground (is_none (number_within 1 n (pos_column line))) NoDataLine 0

-- how much of REF the reference has from start on: up to where it ends or differs
abbrev pub ref_shared : List ℕ → InterbasePosition → List ℕ → ℕ
ref_shared r start ref = lcp (drop start.0 r) (folded ref)

-- 20: REF runs past the reference or differs from it
abbrev pub ref_differs : List ℕ → InterbasePosition → List ℕ → Ground
ref_differs r start ref = ground (ltb (ref_shared r start ref) (length ref)) RefDiffers (ref_shared r start ref)

-- 21: nothing at a place, or not one or more letters
abbrev pub no_alternate : List ℕ → ℕ → Ground
no_alternate named place = ground (not (lettered named)) NoAlternate place

-- a line on a reference: 1, 19, 20
unfoldable pub line_grounds : List ℕ → List ℕ → List Ground
line_grounds r line =
    reference_over_limit (length r)
    ∷ few_columns line
    ∷ ref_not_lettered line
    ∷ pos_no_residue (length r) line
    ∷ ref_differs r (start_of line) (ref_column line)
    ∷ []

-- what `vcf_count` answers: how many places ALT has
abbrev pub counted : List ℕ → List ℕ → Result ℕ Refusal
counted r line = tell (verdict (line_grounds r line)) (length (alternates line))
