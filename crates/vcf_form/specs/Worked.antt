-- Worked lines on document 01's reference, each with a place of its ALT, and what is answered where the buffer has 12
-- bytes.
use Rattle.std.specs.Prelude.{ℕ, List, [], ◌∷◌, ◌++◌}
use Prim.Native.String.{String}
use Rattle.stretch.specs.Ascii.{ascii}
use Rattle.refusal.specs.Numbers.{number_of}
use Rattle.refusal.specs.Verdict.{Verdict, accepted, refused, verdict}
use Rattle.normal_form.specs.declared.Kind.TheVariants.{Unchanged, Substitution, Indel}
use Rattle.normal_form.specs.Form.{Normal}
use Rattle.normal_form.specs.Worked.{form}
use Rattle.moved.specs.declared.Moved.{Moved}
use Rattle.moved.specs.Moved.{by}
use Rattle.vcf_line.specs.Line.{tab}
use Rattle.vcf_form.specs.Calls.{line_form, line_moved, vcf_grounds}

-- a form and how far it moved, or a refusal's number and value
pub data Answer : Type 0 where
  formed : Normal → Moved → Answer
  turned : ℕ → ℕ → Answer

pub record Case : Type 0 where
  pub columns : List String
  pub alternate : ℕ
  pub answer : Answer

abbrev pub case : List String → ℕ → Answer → Case
case columns alternate answer = record { columns = columns; alternate = alternate; answer = answer }

-- columns as a line
abbrev pub line_of : List String → List ℕ
line_of [] = []
line_of (c ∷ []) = ascii c
line_of (c ∷ d ∷ more) = ascii c ++ (tab ∷ line_of (d ∷ more))

-- what the definitions answer
abbrev pub answer_of : Verdict → Normal → Moved → Answer
answer_of accepted f m = formed f m
answer_of (refused r) f m = turned (number_of r.reason) r.value

abbrev pub reference : List ℕ
reference = ascii "TCAGCAGCAGT"

abbrev pub answered : Case → Answer
answered c =
    answer_of (verdict (vcf_grounds reference (line_of c.columns) c.alternate 12 0))
    (line_form reference (line_of c.columns) c.alternate) (line_moved reference (line_of c.columns) c.alternate)

abbrev pub several : List String
several = "chr1" ∷ "4" ∷ "." ∷ "G" ∷ "GCAG,*,t,G" ∷ "50" ∷ []

abbrev pub cases : List Case
cases =
    case several 1 (formed (form 1 10 "CAGCAGCAGCAG" Indel) (by 2 0 6 0))
    ∷ case several 2 (turned 21 2)
    ∷ case several 3 (formed (form 3 4 "T" Substitution) (by 0 0 0 0))
    ∷ case several 4 (formed (form 3 4 "G" Unchanged) (by 0 0 0 0))
    ∷ case several 5 (turned 21 5)
    ∷ case several 0 (turned 21 0)
    ∷ case ("" ∷ "1" ∷ "" ∷ "tcaG" ∷ "T" ∷ []) 1 (formed (form 1 10 "CAGCAG" Indel) (by 0 1 6 0))
    ∷ case ("chr1" ∷ "4" ∷ "." ∷ "GCAT" ∷ "G" ∷ []) 1 (turned 20 3)
    ∷ case ("chr1" ∷ "10" ∷ "." ∷ "GTT" ∷ "G" ∷ []) 1 (turned 20 2)
    ∷ case ("chr1" ∷ "12" ∷ "." ∷ "G" ∷ "T" ∷ []) 1 (turned 19 0)
    ∷ case ("chr1" ∷ "04" ∷ "." ∷ "G" ∷ "T" ∷ []) 1 (turned 19 0)
    ∷ case ("chr1" ∷ "4" ∷ "." ∷ "G" ∷ []) 1 (turned 19 0)
    ∷ case ("chr1" ∷ "4" ∷ "." ∷ "*" ∷ "T" ∷ []) 1 (turned 19 0)
    ∷ case ("chr1" ∷ "4" ∷ "." ∷ "G" ∷ "-" ∷ []) 1 (turned 21 1)
    ∷ case ("chr1" ∷ "4" ∷ "." ∷ "G" ∷ "GCAGCAG" ∷ []) 1 (turned 6 15)
    ∷ []
